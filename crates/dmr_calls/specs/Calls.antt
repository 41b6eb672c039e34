-- Calls: a list in the order in which they began.
use Rattle.std.specs.Prelude.{ℕ, List, [], ◌∷◌, ◌++◌, Bool, not, ◌==◌, ◌&&◌, nat_le, length, filter}
use Rattle.std.specs.Prelude.{find, Option, option_map, if◌then◌else◌}
use Rattle.dmr_pdu.specs.declared.slots.Slot.{Slot}
use Rattle.dmr_calls.specs.declared.call.Call.{Call}
use Rattle.dmr_calls.specs.declared.call.ActiveCall.{ActiveCall}
use Rattle.dmr_calls.specs.Limits.{most_calls}
use Rattle.dmr_calls.specs.Ticks.{one_more}

-- two slots are the same
abbrev pub is_slot : Slot → Slot → Bool
is_slot a b = (a.carrier == b.carrier) && (a.slot == b.slot)

-- a call that begins, with 0 ticks
abbrev pub just_begun : Call → ActiveCall
just_begun call = record { call = call; age = 0; quiet = 0 }

-- a call after one more tick
abbrev pub one_tick_older : ActiveCall → ActiveCall
one_tick_older s = record { call = s.call; age = one_more s.age; quiet = one_more s.quiet }

-- a call after activity on a slot: if it is on that slot, its quiet time begins again
abbrev pub with_activity : Slot → ActiveCall → ActiveCall
with_activity slot s =
    if is_slot s.call.slot slot then record { call = s.call; age = s.age; quiet = 0 } else s

-- the calls with one more at the end, if fewer than 31 are active
abbrev pub with_call : List ActiveCall → Call → List ActiveCall
with_call calls call =
    if nat_le most_calls (length calls) then calls else calls ++ just_begun call ∷ []

-- the calls on other slots
abbrev pub on_other_slots : Slot → List ActiveCall → List ActiveCall
on_other_slots slot calls = filter (λ s. not (is_slot s.call.slot slot)) calls

-- the calls on slots of other carriers
abbrev pub on_other_carriers : ℕ → List ActiveCall → List ActiveCall
on_other_carriers carrier calls = filter (λ s. not (s.call.slot.carrier == carrier)) calls

-- the first call on a slot
abbrev pub call_on : List ActiveCall → Slot → Option Call
call_on calls slot =
    option_map (λ (s : ActiveCall). s.call) (find (λ s. is_slot s.call.slot slot) calls)

-- the first call to a talkgroup
abbrev pub group_call : List ActiveCall → ℕ → Option Call
group_call calls group =
    option_map (λ (s : ActiveCall). s.call)
    (find (λ s. s.call.group && (s.call.target == group)) calls)

-- the first call of the source to a talkgroup
abbrev pub own_group_call : List ActiveCall → ℕ → ℕ → Option Call
own_group_call calls source group =
    option_map (λ (s : ActiveCall). s.call)
    (find (λ s. (s.call.source == source) && (s.call.group && (s.call.target == group))) calls)

-- the first individual call of the source to the target
abbrev pub own_call : List ActiveCall → ℕ → ℕ → Option Call
own_call calls source target =
    option_map (λ (s : ActiveCall). s.call)
    (find (λ s. (s.call.source == source) && (not s.call.group && (s.call.target == target))) calls)
