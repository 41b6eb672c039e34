use Rattle.std.proofs.Common.{List, ◌++◌, replicate, subst, sym, append-nil}
use Rattle.dmr_link.specs.Input.{Input}
use Rattle.dmr_link.specs.Inputs.{Writes}
use Rattle.dmr_replay.specs.Script.{repeated_input}
use Rattle.dmr_replay.proofs.ScriptLemmas.{once_more}
use Rattle.dmr_replay.proofs.running.run_input.Goals as goal

pub loop-init : goal.loop-init
loop-init c = λ s before writes. subst (λ (inputs : List Input). Writes s c.args.engine.now c.args.outputs.now inputs)
    (sym (append-nil before)) writes

pub loop-preserved : goal.loop-preserved
loop-preserved c =
    let input = (repeated_input c.args.input.now).input in
    λ s before writes.
    subst (λ (inputs : List Input). Writes s c.apply.new.engine c.apply.new.outputs inputs) (once_more before c.loop.counter input)
    (c.in-Ok.ensures s (before ++ replicate c.loop.counter input) (c.loop.invariant s before writes))
