-- In each turn of the loop, the line is the next of the script's lines.
use Rattle.std.proofs.Common.{◌≤◌, List, length, sym, subst, eqb, arith, rules}
use Rattle.std.proofs.lemmas.Iterator.Consumers.{YieldsList-at, YieldsList-turn, YieldsList-end}
use Rattle.std.proofs.lemmas.Iterator.Splits.{YieldsList-from_slice_split}
use Rattle.std.proofs.lemmas.List.{length_push}
use borrow.Author.Tests.{tests}
use Rattle.dmr_link.specs.Input.{Input}
use Rattle.dmr_link.specs.Inputs.{Writes}
use Rattle.dmr_replay.specs.Script.{RepeatedInput, inputs_of_script, lines_of}
use Rattle.dmr_replay.proofs.ScriptLemmas.{all_given, given_before, inputs_more}
use Rattle.dmr_replay.proofs.running.run_script.Goals as goal

pub loop-line-preserved : goal.loop-line-preserved
loop-line-preserved c =
    let lines = lines_of c.args.script.now in
    let at = YieldsList-turn (YieldsList-at c.into_iter-line-iterator.ensures.into_iter_gives
    (YieldsList-from_slice_split _ (λ o. eqb o 10) c.args.script.now c.split-line-items.ensures.rest c.split-line-items.ensures.done
    c.split-line-items.ensures.closure (λ x b q k. search (rules, tests))))
    c.loop-line.yielded _ c.loop-line.yielded_by _ _ c.in-Some.line c.in-Some.is c.next.ensures.steps in
    subst (λ (inputs : List Input). Writes c.args.engine.now c.run_line.new.engine c.run_line.new.outputs inputs)
    (sym (inputs_more (length c.loop-line.yielded) c.in-Some.line.now lines at _ (length_push c.loop-line.yielded c.in-Some.line)))
    (c.in-Ok.ensures c.args.engine.now (inputs_of_script (given_before lines (length c.loop-line.yielded))) c.loop-line.invariant)

pub returns : goal.returns
returns c =
    let end = YieldsList-end (YieldsList-at c.into_iter-line-iterator.ensures.into_iter_gives
    (YieldsList-from_slice_split _ (λ o. eqb o 10) c.args.script.now c.split-line-items.ensures.rest c.split-line-items.ensures.done
    c.split-line-items.ensures.closure (λ x b q k. search (rules, tests))))
    c.loop-line.yielded _ c.loop-line.yielded_by _ _ c.in-None.is c.next.ensures.steps in
    let all : length (lines_of c.args.script.now) ≤ length c.loop-line.yielded = omega (arith, end.1) in
    subst (λ (given : List RepeatedInput). Writes c.args.engine.now c.loop-line.engine c.loop-line.outputs (inputs_of_script given))
    (all_given c.args.script.now (length c.loop-line.yielded) all) c.loop-line.invariant
