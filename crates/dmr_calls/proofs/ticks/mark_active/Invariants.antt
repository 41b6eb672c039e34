use Rattle.std.proofs.Common.{◌≡◌, ◌++◌, take, drop, map}
use Rattle.dmr_calls.specs.Calls.{with_activity}
use Rattle.dmr_calls.proofs.ticks.mark_active.Given as goal

abbrev pub invariant-loop-place : goal.invariant-loop-place
invariant-loop-place l = l.calls ≡ map (with_activity l.slot) (take l.place l.fn.calls) ++ drop l.place l.fn.calls
