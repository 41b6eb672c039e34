use Rattle.std.proofs.Common.{◌≡◌, ◌++◌, replicate}
use Rattle.dmr_core.proofs.machine.acts.add_copies.Given as goal

abbrev pub invariant-loop-done : goal.invariant-loop-done
invariant-loop-done l = l.acts ≡ l.fn.acts ++ replicate l.done l.act
