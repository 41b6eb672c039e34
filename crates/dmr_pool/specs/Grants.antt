-- The numbers of waiting grants of each slot: an invariant of the pool. No crate above uses these definitions.
use Rattle.std.specs.Prelude.{◌≡◌, ℕ, ◌+◌, ◌<◌, ◌≤◌, List, length, ◌==◌, ◌&&◌, Bool, false}
use Rattle.std.specs.Prelude.{if◌then◌else◌, Option, Some, None, option_map, slice_index_or}
use Rattle.std.specs.List.{All, count_by, find}
use Rattle.std.specs.Option.{option_map_or}
use Rattle.dmr_pdu.specs.declared.slots.Slot.{Slot}
use Rattle.dmr_pdu.specs.declared.pdu.Pdu.{Pdu}
use Rattle.dmr_pdu.specs.declared.pdu.Pdu.TheVariants.{PvGrant, TvGrant}
use Rattle.dmr_plan.specs.declared.sections.ListSection.{ListSection}
use Rattle.dmr_plan.specs.declared.carriers.CarrierRow.{CarrierRow}
use Rattle.dmr_plan.specs.Carriers.{row_with}
use Rattle.dmr_pdu.specs.Slots.{slots_of_site}
use Rattle.dmr_pool.specs.Limits.{most_pdus_of_a_slot}
use Rattle.dmr_pool.specs.Slots.{Slots, box, slot_at}
use Rattle.dmr_pool.specs.Free.{control_slot, is_control, names}

-- the lists of the plan, and the PDUs that wait for each slot, at its place, oldest first
pub record WaitingPdus : Type 0 where
  pub lists : ListSection
  pub outboxes : List (List Pdu)

-- the slots of a site with these waiting PDUs, carriers up and held slots
abbrev pub slots_with : WaitingPdus → List Bool → List Bool → Slots
slots_with waiting up held =
    record { lists = waiting.lists; up = up; held = held; outboxes = waiting.outboxes }

-- the number of grants of a slot that wait for the control slot
abbrev pub grants_of : ListSection → List (List Pdu) → Slot → ℕ
grants_of lists outboxes slot =
    option_map_or
    (λ (row : CarrierRow). count_by (names row.lpcn slot.slot) (box outboxes (control_slot lists)))
    (row_with lists.carriers slot.carrier) 0

-- there are 32 outboxes, and at most 64 PDUs wait in each
pub record AreOutboxes (outboxes : List (List Pdu)) : Type 0 where
  pub size : length outboxes ≡ slots_of_site
  pub few : All (λ box. length box ≤ most_pdus_of_a_slot) outboxes

-- the slot is this one, if there is one
abbrev pub is_this : Option Slot → Slot → Bool
is_this None slot = false
is_this (Some s) slot = (s.carrier == slot.carrier) && (s.slot == slot.slot)

-- the counts are these with one more for this slot, if there is one
abbrev pub IsOneMore : List ℕ → Option Slot → List ℕ → Type 0
IsOneMore fewer granted more =
    (place : ℕ) → place < slots_of_site → slice_index_or more place 0
    ≡ slice_index_or fewer place 0 + (if is_this granted (slot_at place) then 1 else 0)

-- each count is that of the slot at its place
abbrev pub AreCounted : ListSection → List (List Pdu) → List ℕ → Type 0
AreCounted lists outboxes counts =
    (place : ℕ) → place < slots_of_site
    → slice_index_or counts place 0 ≡ grants_of lists outboxes (slot_at place)

-- the slot with this number on the plan's carrier with this channel
abbrev pub slot_on_channel : ListSection → ℕ → ℕ → Option Slot
slot_on_channel lists channel number =
    option_map (λ (row : CarrierRow). record { carrier = row.number; slot = number })
    (find (λ (row : CarrierRow). channel == row.lpcn) lists.carriers)

-- the slot that a PDU grants, if it is a grant of a slot of the site
abbrev pub slot_granted : ListSection → Pdu → Option Slot
slot_granted lists (PvGrant channel slot target source) = slot_on_channel lists channel slot
slot_granted lists (TvGrant channel slot late target source) = slot_on_channel lists channel slot
slot_granted lists _ = None

-- the slot whose count changes when a PDU is added to a slot's outbox or removed from it
abbrev pub slot_counted : ListSection → Slot → Pdu → Option Slot
slot_counted lists slot pdu = if is_control lists slot then slot_granted lists pdu else None
