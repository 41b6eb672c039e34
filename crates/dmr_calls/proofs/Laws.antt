-- The facts about this crate's definitions that proofs of other crates may cite.
use Rattle.std.proofs.Common.{◌≡◌, List, true}
use Rattle.std.specs.Prelude.{Option, Some, None, MatchOption, IfSome}
use Rattle.dmr_pdu.specs.declared.slots.Slot.{Slot}
use Rattle.dmr_calls.specs.declared.call.Call.{Call}
use Rattle.dmr_calls.specs.declared.call.ActiveCall.{ActiveCall}
use Rattle.dmr_calls.specs.Calls.{call_on}
use Rattle.dmr_calls.specs.After.{group_after, place_after, HasNoGroupCall, IsTurn}
use Rattle.dmr_calls.proofs.AfterLemmas.{turn_of}
-- a slot is the one at its place, a place is that of its slot, and slots are the same if the test says so
pub use Rattle.dmr_calls.proofs.AfterLemmas.{slot_at-place, same_slot}

-- the next talkgroup call is an active talkgroup call
pub next_is_active : (calls : List ActiveCall) (last : Option Slot) → IfSome (group_after calls last)
    (λ call. (call_on calls call.slot ≡ Some call) × (call.group ≡ true))
next_is_active calls last = either (group_after calls last) (turn_of calls last)
  where
    either : (o : Option Call) → MatchOption o (HasNoGroupCall calls) (IsTurn calls (place_after last)) →
        IfSome o (λ call. (call_on calls call.slot ≡ Some call) × (call.group ≡ true))
    either None none = tt
    either (Some call) turn = (turn.stands, turn.group)
