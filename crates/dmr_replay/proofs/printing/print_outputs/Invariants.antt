use Rattle.std.proofs.Common.{[], slice_index_or}
use Rattle.std.specs.Io.KnownBytes.{Appends}
use Rattle.dmr_replay.specs.Replay.{lines_to}
use Rattle.dmr_replay.proofs.printing.print_outputs.Given as goal

abbrev pub invariant-loop-number : goal.invariant-loop-number
invariant-loop-number g l =
    Appends (g.W.Write.contents l.initial.out) (g.W.Write.contents l.out)
    (lines_to l.plan (λ c. slice_index_or l.outputs.carriers c []) l.number)
