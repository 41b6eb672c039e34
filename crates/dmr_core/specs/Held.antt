-- The slots that are held are those of the calls: an invariant of the machine. No other definition uses it.
use Rattle.std.specs.Prelude.{◌≡◌, List, Bool}
use Rattle.dmr_pdu.specs.declared.slots.Slot.{Slot}
use Rattle.dmr_calls.specs.declared.call.ActiveCall.{ActiveCall}
use Rattle.dmr_pool.specs.Slots.{IsSlot, is_slot_held}
use Rattle.dmr_core.specs.Words.{has_call_on}

-- a slot is held exactly if a call is active on it
abbrev pub HoldsCalls : List Bool → List ActiveCall → Type 0
HoldsCalls held calls =
    (slot : Slot) → IsSlot slot → is_slot_held held slot ≡ has_call_on calls slot
