use Rattle.std.proofs.Common.{◌≡◌, List, Some, None, sym, ap, ◌∙◌, subst, option_map, Result, Ok, Err}
use Rattle.std.specs.Prelude.{OnOk}
use Rattle.dmr_link.specs.Input.{Input}
use Rattle.dmr_link.specs.Inputs.{Writes}
use Rattle.dmr_replay.specs.Script.{repeated_input, input_of_line}
use Rattle.dmr_replay.proofs.ScriptLemmas.{as_often_more, its_input, no_input, none_more}
use Rattle.dmr_replay.proofs.running.run_line.Goals as goal

weaker : {A E : Type 0} (r : Result A E) (P Q : Type 0) → (P → Q) → OnOk r P → OnOk r Q
weaker (Ok x) P Q f p = f p
weaker (Err e) P Q f p = tt

pub returns-then-is_skipped : goal.returns-then-is_skipped
returns-then-is_skipped c =
    let skipped = sym c.is_skipped.ensures ∙ c.if-is_skipped.true in
    λ s before writes. subst (λ (inputs : List Input). Writes s c.args.engine.now c.args.outputs.now inputs)
    (sym (none_more before c.args.line.now (no_input c.args.line.now skipped))) writes

pub returns-in-Ok-None : goal.returns-in-Ok-None
returns-in-Ok-None c =
    let whole = sym c.is_skipped.ensures ∙ c.if-is_skipped.false in
    let none : input_of_line c.args.line.now ≡ None = sym c.in-Ok-None.ensures ∙ ap (option_map repeated_input) c.in-Ok-None.field-0-is in
    λ s before writes. subst (λ (inputs : List Input). Writes s c.args.engine.now c.args.outputs.now inputs)
    (sym (none_more before c.args.line.now (its_input c.args.line.now None whole none))) writes

pub returns-in-Ok-Some : goal.returns-in-Ok-Some
returns-in-Ok-Some c =
    let whole = sym c.is_skipped.ensures ∙ c.if-is_skipped.false in
    let input = repeated_input c.in-Ok-Some.input in
    let some : input_of_line c.args.line.now ≡ Some input =
    sym c.in-Ok-Some.ensures ∙ ap (option_map repeated_input) c.in-Ok-Some.field-0-is in
    weaker c.run_input-run.result _ _
    (λ ran. λ s before writes.
    subst (λ (inputs : List Input). Writes s c.run_input-run.new.engine c.run_input-run.new.outputs inputs)
    (sym (as_often_more before c.args.line.now input (its_input c.args.line.now (Some input) whole some))) (ran s before writes))
    c.run_input-run.ensures
