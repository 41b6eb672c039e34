-- The lists in replies to an operator.
use Rattle.std.specs.Prelude.{ℕ, List, [], ◌∷◌, ◌++◌, not, if◌then◌else◌, Option, Some, None}
use Rattle.std.specs.Prelude.{flat_map}
use Rattle.dmr_pdu.specs.declared.slots.Slot.{Slot}
use Rattle.dmr_plan.specs.declared.settings.Settings.{Settings}
use Rattle.dmr_calls.specs.declared.call.Call.{Call}
use Rattle.dmr_calls.specs.declared.call.ActiveCall.{ActiveCall}
use Rattle.dmr_calls.specs.Calls.{call_on}
use Rattle.dmr_pool.specs.Free.{all_slots, is_control}
use Rattle.dmr_core.specs.declared.reply.SlotState.{SlotState}
use Rattle.dmr_core.specs.declared.reply.State.{State}
use Rattle.dmr_core.specs.declared.reply.State.TheVariants as state
use Rattle.dmr_core.specs.Facts.{Facts, has_carrier}
use Rattle.dmr_core.specs.Words.{is_free, is_up, has_call_on}

-- a call, if there is one, as a list
abbrev pub at_most_one : Option Call → List Call
at_most_one None = []
at_most_one (Some call) = call ∷ []

-- the calls on a carrier, by slot
abbrev pub calls_on_carrier : List ActiveCall → ℕ → List Call
calls_on_carrier calls c =
    at_most_one (call_on calls (record { carrier = c; slot = 0 }))
    ++ at_most_one (call_on calls (record { carrier = c; slot = 1 }))

-- the state of a slot: the first that applies
abbrev pub state_of : Settings → Facts → Slot → State
state_of plan now slot =
    if is_control plan.lists slot then state.Control else
    if not (is_up now slot.carrier) then state.Down else
    if has_call_on now.calls slot then state.Call else
    if is_free plan now slot then state.Free else state.Waiting

-- a slot with its state, if the plan has its carrier
abbrev pub slot_states : Settings → Facts → Slot → List SlotState
slot_states plan now slot =
    if has_carrier plan slot.carrier
    then record { slot = slot; state = state_of plan now slot } ∷ []
    else []

-- each slot of the plan with its state, by carrier number, then slot
unfoldable pub all_slot_states : Settings → Facts → List SlotState
all_slot_states plan now = flat_map (slot_states plan now) all_slots
