-- The slots of a site, and each change to them.
use Rattle.std.specs.Prelude.{ℕ, ◌+◌, ◌*◌, List, [], ◌∷◌, ◌++◌, Bool, false, drop, replicate}
use Rattle.std.specs.Prelude.{slice_set, slice_index_or}
pub use Rattle.dmr_pdu.specs.Slots.{IsSlot, place, slot_at}
use Rattle.dmr_pdu.specs.declared.slots.Slot.{Slot}
use Rattle.dmr_pdu.specs.declared.pdu.Pdu.{Pdu}
use Rattle.dmr_plan.specs.declared.sections.ListSection.{ListSection}
use Rattle.dmr_pdu.specs.Slots.{carriers_of_site, slots_of_site}

-- the lists of the plan, the carriers up, the held slots and the waiting PDUs
pub record Slots : Type 0 where
  pub lists : ListSection
  pub up : List Bool  -- for each carrier number, 0 to 15, whether the carrier is up
  pub held : List Bool  -- for each slot, at its place, whether a call holds it
  pub outboxes : List (List Pdu)  -- for each slot, at its place, the PDUs that wait for it, oldest first

-- a carrier is up
abbrev pub is_up : List Bool → ℕ → Bool
is_up up carrier = slice_index_or up carrier false

-- a call holds a slot
abbrev pub is_slot_held : List Bool → Slot → Bool
is_slot_held held slot = slice_index_or held (place slot) false

-- the PDUs that wait for a slot, oldest first
abbrev pub box : List (List Pdu) → Slot → List Pdu
box boxes slot = slice_index_or boxes (place slot) []

-- the held slots after a carrier's are released
abbrev pub held_without_carrier : List Bool → ℕ → List Bool
held_without_carrier held carrier =
    slice_set (slice_set held (2 * carrier) false) (2 * carrier + 1) false

-- the outboxes after a carrier's are emptied
abbrev pub outboxes_without_carrier : List (List Pdu) → ℕ → List (List Pdu)
outboxes_without_carrier boxes carrier =
    slice_set (slice_set boxes (2 * carrier) []) (2 * carrier + 1) []

-- the outboxes after a PDU is added to a slot's, after those that wait
abbrev pub outboxes_with_pdu : List (List Pdu) → Slot → Pdu → List (List Pdu)
outboxes_with_pdu boxes slot pdu = slice_set boxes (place slot) (box boxes slot ++ pdu ∷ [])

-- the outboxes after the PDU that has waited longest for a slot is removed
abbrev pub outboxes_after_send : List (List Pdu) → Slot → List (List Pdu)
outboxes_after_send boxes slot = slice_set boxes (place slot) (drop 1 (box boxes slot))

-- no carrier up, no slot held, no PDU waiting
abbrev pub nothing_on : ListSection → Slots
nothing_on lists = record {
  lists = lists;
  up = replicate carriers_of_site false;
  held = replicate slots_of_site false;
  outboxes = replicate slots_of_site [];
}
