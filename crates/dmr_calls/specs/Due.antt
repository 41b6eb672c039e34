-- Counting a tick, and the call, ask and line that are due.
use Rattle.std.specs.Prelude.{ℕ, List, [], ◌∷◌, Bool, ◌||◌, nat_le, map, find, Option, Some, None}
use Rattle.std.specs.Prelude.{option_map, if◌then◌else◌}
use Rattle.dmr_pdu.specs.declared.slots.Slot.{Slot}
use Rattle.dmr_calls.specs.declared.ask.Ask.{Ask}
use Rattle.dmr_calls.specs.declared.ask.ActiveAsk.{ActiveAsk}
use Rattle.dmr_calls.specs.declared.call.ActiveCall.{ActiveCall}
use Rattle.dmr_calls.specs.declared.answer.Due.{Due}
use Rattle.dmr_calls.specs.ActiveLists.{ActiveLists}
use Rattle.dmr_calls.specs.Asks.{ask_after_tick}
use Rattle.dmr_calls.specs.Lines.{first_line}
use Rattle.dmr_calls.specs.Calls.{one_tick_older}

-- asks, lines and calls after one more tick
abbrev pub after_tick : ActiveLists → ActiveLists
after_tick now = record {
  asks = map ask_after_tick now.asks;
  lines = now.lines;
  calls = map one_tick_older now.calls;
}

-- a call is over: it was quiet for the hang time, or is as old as a call may be
abbrev pub is_over : ℕ → ℕ → ActiveCall → Bool
is_over hang maximum s = nat_le hang s.quiet || nat_le maximum s.age

-- the slot of the first call that is over
abbrev pub due_call : ℕ → ℕ → List ActiveCall → Option Slot
due_call hang maximum calls =
    option_map (λ (s : ActiveCall). s.call.slot) (find (is_over hang maximum) calls)

-- the first ask, if it has waited `ahoy_wait` ticks or more
abbrev pub due_ask : ℕ → List ActiveAsk → Option Ask
due_ask ahoy_wait [] = None
due_ask ahoy_wait (a ∷ asks) = if nat_le ahoy_wait a.waited then Some a.ask else None

-- the call, the ask and the line that are due
abbrev pub due_of : ActiveLists → ℕ → ℕ → ℕ → Due
due_of now hang maximum ahoy_wait = record {
  call = due_call hang maximum now.calls;
  ask = due_ask ahoy_wait now.asks;
  line = first_line now.lines;
}
