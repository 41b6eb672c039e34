-- Sets of slots as bits, for the pool's free slots. No crate above uses these definitions.
use Rattle.std.specs.Prelude.{◌≡◌, ◌≢◌, ℕ, ◌<◌, ◌==◌, Bool, true, false}
use Rattle.std.specs.Int.{bit_at}
use Rattle.dmr_pdu.specs.declared.slots.Slot.{Slot}
use Rattle.dmr_pdu.specs.Slots.{slots_of_site}
use Rattle.dmr_pool.specs.Slots.{Slots, IsSlot, place, slot_at}
use Rattle.dmr_pool.specs.Free.{is_free}

-- the bit of a place is set
abbrev pub has_bit : ℕ → ℕ → Bool
has_bit bits place = bit_at bits place == 1

-- none of the 32 bits is set
abbrev pub HasNoBit : ℕ → Type 0
HasNoBit bits = (place : ℕ) → place < slots_of_site → has_bit bits place ≡ false

-- the slot's bit is set, and no lower one
pub record IsLowestBit (bits : ℕ) (slot : Slot) : Type 0 where
  pub within : IsSlot slot
  pub set : has_bit bits (place slot) ≡ true
  pub lowest : (below : ℕ) → below < place slot → has_bit bits below ≡ false

-- the bit of a place has this value, and the others are unchanged
pub record IsSet (before after at : ℕ) (set : Bool) : Type 0 where
  pub there : has_bit after at ≡ set
  pub others : (place : ℕ) → place < slots_of_site → place ≢ at
      → has_bit after place ≡ has_bit before place

-- exactly the bits of the free slots are set
abbrev pub AreMarked : ℕ → Slots → Type 0
AreMarked bits slots =
    (place : ℕ) → place < slots_of_site → has_bit bits place ≡ is_free slots (slot_at place)
