use Rattle.std.proofs.Common.{◌≡◌, ◌++◌, take, drop, map}
use Rattle.dmr_calls.specs.Calls.{one_tick_older}
use Rattle.dmr_calls.proofs.ticks.age_calls.Given as goal

abbrev pub invariant-loop-place : goal.invariant-loop-place
invariant-loop-place l = l.calls ≡ map one_tick_older (take l.place l.fn.calls) ++ drop l.place l.fn.calls
