use Rattle.std.proofs.Common.{◌++◌, List, replicate}
use Rattle.dmr_link.specs.Input.{Input}
use Rattle.dmr_link.specs.Inputs.{Writes}
use Rattle.dmr_link.specs.State.{State}
use Rattle.dmr_replay.specs.Script.{repeated_input}
use Rattle.dmr_replay.proofs.running.run_input.Given as goal

abbrev pub invariant-loop : goal.invariant-loop
invariant-loop l =
    (s : State) (before : List Input) → Writes s l.initial.engine l.initial.outputs before
    → Writes s l.engine l.outputs (before ++ replicate l.counter (repeated_input l.input).input)
