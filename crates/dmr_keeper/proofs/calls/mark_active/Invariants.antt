use Rattle.std.proofs.Common.{◌≡◌, ◌++◌, take, drop, map}
use Rattle.dmr_keeper.specs.Calls.{with_activity_on}
use Rattle.dmr_keeper.proofs.calls.mark_active.Given as goal

abbrev pub invariant-loop-call : goal.invariant-loop-call
invariant-loop-call l = l.calls ≡ map (with_activity_on l.slot) (take l.call-index l.fn.calls) ++ drop l.call-index l.fn.calls
