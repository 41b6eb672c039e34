-- The invariant of the slots of every site.
use Rattle.std.specs.Prelude.{◌≡◌, ◌≤◌, length}
use Rattle.std.specs.List.{All}
use Rattle.dmr_pdu.specs.Slots.{carriers_of_site, slots_of_site}
use Rattle.dmr_pool.specs.Limits.{most_pdus_of_a_slot}
use Rattle.dmr_pool.specs.Slots.{Slots}

-- there are 16 carrier numbers and 32 slots, and at most 64 PDUs wait for each slot
pub record AreSlotsOfSite (slots : Slots) : Type 0 where
  pub carriers : length slots.up ≡ carriers_of_site
  pub held : length slots.held ≡ slots_of_site
  pub outboxes : length slots.outboxes ≡ slots_of_site
  pub few : All (λ box. length box ≤ most_pdus_of_a_slot) slots.outboxes
