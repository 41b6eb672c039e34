use Rattle.std.proofs.Common.{◌≡◌, ◌++◌, take, drop, map}
use Rattle.dmr_keeper.specs.Calls.{one_tick_on}
use Rattle.dmr_keeper.proofs.calls.count_tick.Given as goal

abbrev pub invariant-loop-call : goal.invariant-loop-call
invariant-loop-call l = l.calls ≡ map one_tick_on (take l.call-index l.fn.calls) ++ drop l.call-index l.fn.calls
