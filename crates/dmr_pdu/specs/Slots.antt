-- The slots of a site, and their order.
use Rattle.std.specs.Prelude.{ℕ, ◌+◌, ◌*◌, ◌/◌, ◌%◌, ◌<◌}
use Rattle.dmr_pdu.specs.declared.slots.Slot.{Slot}

-- the most carriers of a site: their numbers are 0 to 15
abbrev pub carriers_of_site : ℕ
carriers_of_site = 16

-- the slots of all carriers, two each
abbrev pub slots_of_site : ℕ
slots_of_site = 32

-- slot 0 or 1 of a carrier from 0 to 15
abbrev pub IsSlot : Slot → Type 0
IsSlot slot = (slot.carrier < carriers_of_site) × (slot.slot < 2)

-- the place of a slot among those of all carriers: by carrier, then by slot
abbrev pub place : Slot → ℕ
place slot = 2 * slot.carrier + slot.slot

-- the slot at this place
abbrev pub slot_at : ℕ → Slot
slot_at place = record { carrier = place / 2; slot = place % 2 }
