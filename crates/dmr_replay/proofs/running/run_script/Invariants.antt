use Rattle.std.proofs.Common.{length}
use Rattle.dmr_link.specs.Inputs.{Writes}
use Rattle.dmr_replay.specs.Script.{inputs_of_script, lines_of}
use Rattle.dmr_replay.proofs.ScriptLemmas.{given_before}
use Rattle.dmr_replay.proofs.running.run_script.Given as goal

abbrev pub invariant-loop-line : goal.invariant-loop-line
invariant-loop-line l =
    Writes l.initial.engine l.engine l.outputs (inputs_of_script (given_before (lines_of l.script) (length l.yielded)))
