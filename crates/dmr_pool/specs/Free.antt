-- The slots that are free for a call.
use Rattle.std.specs.Prelude.{◌≡◌, ℕ, ◌<◌, List, [], ◌∷◌, map, Bool, true, false, not, ◌==◌, ◌&&◌}
use Rattle.std.specs.Prelude.{Option}
use Rattle.std.specs.List.{list_any, find, range_with_len}
use Rattle.std.specs.Option.{option_map_or}
use Rattle.dmr_pdu.specs.declared.slots.Slot.{Slot}
use Rattle.dmr_pdu.specs.declared.pdu.Pdu.{Pdu}
use Rattle.dmr_pdu.specs.declared.pdu.Pdu.TheVariants.{PvGrant, TvGrant}
use Rattle.dmr_plan.specs.declared.sections.ListSection.{ListSection}
use Rattle.dmr_plan.specs.declared.carriers.CarrierRow.{CarrierRow}
use Rattle.dmr_plan.specs.Carriers.{has_number_in, row_with}
use Rattle.dmr_pdu.specs.Slots.{slots_of_site}
use Rattle.dmr_pool.specs.Slots.{Slots, IsSlot, place, slot_at, is_up, is_slot_held, box}

-- slot 0 of the control carrier
abbrev pub control_slot : ListSection → Slot
control_slot lists = record { carrier = lists.control; slot = 0 }

-- a slot is the control slot
abbrev pub is_control : ListSection → Slot → Bool
is_control lists slot = (slot.carrier == lists.control) && (slot.slot == 0)

-- the list has no element
abbrev pub is_empty : {X : Type 0} → List X → Bool
is_empty [] = true
is_empty (x ∷ xs) = false

-- the PDU is a grant that names this channel and slot number
abbrev pub names : ℕ → ℕ → Pdu → Bool
names lpcn number (PvGrant channel slot target source) = (channel == lpcn) && (slot == number)
names lpcn number (TvGrant channel slot late target source) = (channel == lpcn) && (slot == number)
names lpcn number _ = false

-- a grant that names the slot, by its carrier's channel, waits for the control slot
abbrev pub is_granted : ListSection → List (List Pdu) → Slot → Bool
is_granted lists outboxes slot =
    option_map_or
    (λ (row : CarrierRow). list_any (names row.lpcn slot.slot) (box outboxes (control_slot lists)))
    (row_with lists.carriers slot.carrier) false

-- the carrier is in the plan and up, the slot is not the control slot, no call holds it, no PDU waits for it, and no
-- grant of it waits
abbrev pub is_free_by : ListSection → List Bool → List (List Pdu) → (Slot → Bool) → Slot → Bool
is_free_by lists up outboxes holds slot =
    has_number_in lists.carriers slot.carrier && is_up up slot.carrier
    && not (is_control lists slot) && not (holds slot) && is_empty (box outboxes slot)
    && not (is_granted lists outboxes slot)

-- a slot is free, given the pool's held slots
abbrev pub is_free : Slots → Slot → Bool
is_free slots slot = is_free_by slots.lists slots.up slots.outboxes (is_slot_held slots.held) slot

-- all slots of the site, by carrier, then by slot
abbrev pub all_slots : List Slot
all_slots = map slot_at (range_with_len 0 slots_of_site)

-- the first of all slots that is free, for a test of held slots
unfoldable pub lowest_free_by : ListSection → List Bool → List (List Pdu) → (Slot → Bool)
    → Option Slot
lowest_free_by lists up outboxes holds = find (is_free_by lists up outboxes holds) all_slots

-- the first of all slots that is free, given the pool's held slots
abbrev pub lowest_free : Slots → Option Slot
lowest_free slots = lowest_free_by slots.lists slots.up slots.outboxes (is_slot_held slots.held)

-- no slot of the site is free
abbrev pub HasNoFreeSlot : Slots → Type 0
HasNoFreeSlot slots = (slot : Slot) → IsSlot slot → is_free slots slot ≡ false

-- a slot is free, and none before it is
pub record IsLowestFree (slots : Slots) (slot : Slot) : Type 0 where
  pub within : IsSlot slot
  pub free : is_free slots slot ≡ true
  pub lowest : (other : Slot) → IsSlot other → place other < place slot
      → is_free slots other ≡ false
