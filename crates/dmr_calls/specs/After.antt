-- The turns of talkgroup calls: round the slots by carrier, then by number.
use Rattle.std.specs.Prelude.{◌≡◌, ◌<◌, ◌≤◌, ℕ, ◌+◌, ◌-◌, ◌⊎◌, List, Bool, true, false, Option}
use Rattle.std.specs.Prelude.{Some, None, find}
use Rattle.std.specs.List.{range_with_len}
use Rattle.std.specs.Option.{option_and_then, option_map_or, option_or}
use Rattle.dmr_pdu.specs.declared.slots.Slot.{Slot}
use Rattle.dmr_pdu.specs.Slots.{IsSlot, place, slot_at}
use Rattle.dmr_calls.specs.declared.call.Call.{Call}
use Rattle.dmr_calls.specs.declared.call.ActiveCall.{ActiveCall}
use Rattle.dmr_pdu.specs.Slots.{slots_of_site}
use Rattle.dmr_calls.specs.Calls.{call_on}

-- the call on the slot is a talkgroup's
abbrev pub is_group_on : List ActiveCall → Slot → Bool
is_group_on calls slot = option_map_or (λ (call : Call). call.group) (call_on calls slot) false

-- the call on the slot at a place is a talkgroup's
abbrev pub is_group_at : List ActiveCall → ℕ → Bool
is_group_at calls place = is_group_on calls (slot_at place)

-- the place after a slot; the first place of all if no slot is given
abbrev pub place_after : Option Slot → ℕ
place_after last = option_map_or (λ slot. place slot + 1) last 0

-- the first place of a talkgroup call, from one on
abbrev pub group_place : List ActiveCall → ℕ → Option ℕ
group_place calls from = find (is_group_at calls) (range_with_len from (slots_of_site - from))

-- the talkgroup call on the least slot above the last; if there is none above, or no last slot, the one on the least
-- slot of all
unfoldable pub group_after : List ActiveCall → Option Slot → Option Call
group_after calls last =
    option_and_then (λ place. call_on calls (slot_at place))
    (option_or (group_place calls (place_after last)) (group_place calls 0))

-- a slot is below another: by carrier, then by number
abbrev pub IsBelow : Slot → Slot → Type 0
IsBelow a b = (a.carrier < b.carrier) ⊎ ((a.carrier ≡ b.carrier) × (a.slot < b.slot))

-- a slot is above the last one; if there is no last one, each slot is
abbrev pub IsAbove : Option Slot → Slot → Type 0
IsAbove None slot = Unit {0}
IsAbove (Some last) slot = IsBelow last slot

-- no call on any slot is a talkgroup's
abbrev pub HasNoGroupCall : List ActiveCall → Type 0
HasNoGroupCall calls = (slot : Slot) → IsSlot slot → is_group_on calls slot ≡ false

-- the next talkgroup call: the one on the lowest slot above the last slot, if there is any; else the one on the lowest
-- slot of all
pub record IsNextGroupCall (calls : List ActiveCall) (last : Option Slot)
    (call : Call) : Type 0 where
  pub within : IsSlot call.slot
  pub stands : call_on calls call.slot ≡ Some call
  pub group : call.group ≡ true
  pub above : (other : Slot) → IsSlot other → is_group_on calls other ≡ true → IsAbove last other
      → IsAbove last call.slot × (IsBelow other call.slot → ⊥)
  pub around : (IsAbove last call.slot → ⊥) → (other : Slot) → IsSlot other
      → is_group_on calls other ≡ true → IsBelow other call.slot → ⊥

-- no place passes, from one on and before another
abbrev pub NonePass : (ℕ → Bool) → ℕ → ℕ → Type 0
NonePass passes from to = (k : ℕ) → from ≤ k → k < to → passes k ≡ false

-- a place passes, from one on and before another, and none before it does
pub record IsFirst (passes : ℕ → Bool) (from to at : ℕ) : Type 0 where
  pub reached : from ≤ at
  pub within : at < to
  pub passing : passes at ≡ true
  pub before : NonePass passes from at

-- a place is the next that passes: the first from one on; if none passes there, the first of all
abbrev pub IsNext : (ℕ → Bool) → ℕ → ℕ → Type 0
IsNext passes from at =
    IsFirst passes from slots_of_site at
    ⊎ (NonePass passes from slots_of_site × IsFirst passes 0 slots_of_site at)

-- it is the turn of a call: it is an active talkgroup call, and its place is the next that has one
pub record IsTurn (calls : List ActiveCall) (from : ℕ) (call : Call) : Type 0 where
  pub stands : call_on calls call.slot ≡ Some call
  pub group : call.group ≡ true
  pub turn : IsNext (is_group_at calls) from (place call.slot)
