-- In each turn of the loop, the line is the next of the script's lines.
use Rattle.std.proofs.Common.{◌≡◌, ◌≤◌, Bool, true, false, not, length, sym, ap, ◌∙◌, eqb, arith, rules}
use Rattle.std.specs.Prelude.{Ok}
use Rattle.std.proofs.lemmas.Iterator.Consumers.{YieldsList-at, YieldsList-from_enumerate, YieldsList-turn, YieldsList-end}
use Rattle.std.proofs.lemmas.Iterator.Splits.{YieldsList-from_slice_split}
use Rattle.std.proofs.lemmas.List.FromFn.{length-enumerate_from}
use Rattle.std.proofs.lemmas.List.{length_push}
use borrow.Author.Tests.{tests}
use Rattle.dmr_replay.specs.Script.{is_faulty_line, lines_of, script_of}
use Rattle.dmr_replay.proofs.ScriptLemmas.{all_given, ends, given_before, line_at, passes, stops}
use Rattle.dmr_replay.proofs.checking.check_script.Goals as goal

is_fine : (b : Bool) → true ≡ not b → b ≡ false
is_fine true e = cc
is_fine false e = cc

is_at_fault : (b : Bool) → false ≡ not b → b ≡ true
is_at_fault true e = cc
is_at_fault false e = cc

pub loop-index-preserved : goal.loop-index-preserved
loop-index-preserved c =
    let at = line_at (lines_of c.args.script.now) (length c.loop-index.yielded) c.in-Some.index c.in-Some.line.now
    (YieldsList-turn (YieldsList-at c.into_iter-index-iterator.ensures.into_iter_gives
    (YieldsList-from_enumerate
    (YieldsList-at c.enumerate-index-items.ensures.source
    (YieldsList-from_slice_split _ (λ o. eqb o 10) c.args.script.now c.split.ensures.rest c.split.ensures.done c.split.ensures.closure
    (λ x b q k. search (rules, tests))))
    c.enumerate-index-items.ensures.count))
    c.loop-index.yielded _ c.loop-index.yielded_by _ _ (c.in-Some.index, c.in-Some.line) c.in-Some.is c.next.ensures.steps) in
    passes (length c.loop-index.yielded) c.in-Some.line.now (lines_of c.args.script.now) at.1 _
    (length_push c.loop-index.yielded (c.in-Some.index, c.in-Some.line)) (script_of c.args.script.now) c.loop-index.invariant
    (is_fine (is_faulty_line c.in-Some.line.now) (sym c.in-Ok-true.field-0-test ∙ c.in-Ok-true.ensures))

pub returns-in-Ok-false-clause-fault : goal.returns-in-Ok-false-clause-fault
returns-in-Ok-false-clause-fault c =
    let at = line_at (lines_of c.args.script.now) (length c.loop-index.yielded) c.in-Some.index c.in-Some.line.now
    (YieldsList-turn (YieldsList-at c.into_iter-index-iterator.ensures.into_iter_gives
    (YieldsList-from_enumerate
    (YieldsList-at c.enumerate-index-items.ensures.source
    (YieldsList-from_slice_split _ (λ o. eqb o 10) c.args.script.now c.split.ensures.rest c.split.ensures.done c.split.ensures.closure
    (λ x b q k. search (rules, tests))))
    c.enumerate-index-items.ensures.count))
    c.loop-index.yielded _ c.loop-index.yielded_by _ _ (c.in-Some.index, c.in-Some.line) c.in-Some.is c.next.ensures.steps) in
    let fault = stops (length c.loop-index.yielded) c.in-Some.line.now (lines_of c.args.script.now) at.1 _
    (length_push c.loop-index.yielded (c.in-Some.index, c.in-Some.line)) (script_of c.args.script.now) c.loop-index.invariant
    (is_at_fault (is_faulty_line c.in-Some.line.now) (sym c.in-Ok-false.field-0-test ∙ c.in-Ok-false.ensures)) in
    λ number same. cc (fault, at.0)

pub returns-clause-lines : goal.returns-clause-lines
returns-clause-lines c =
    let end = YieldsList-end (YieldsList-at c.into_iter-index-iterator.ensures.into_iter_gives
    (YieldsList-from_enumerate
    (YieldsList-at c.enumerate-index-items.ensures.source
    (YieldsList-from_slice_split _ (λ o. eqb o 10) c.args.script.now c.split.ensures.rest c.split.ensures.done c.split.ensures.closure
    (λ x b q k. search (rules, tests))))
    c.enumerate-index-items.ensures.count))
    c.loop-index.yielded _ c.loop-index.yielded_by _ _ c.in-None.is c.next.ensures.steps in
    let lines = lines_of c.args.script.now in
    let all : length lines ≤ length c.loop-index.yielded = omega (arith, end.1, length-enumerate_from 0 lines) in
    ends (given_before lines (length c.loop-index.yielded)) (length c.loop-index.yielded) lines
    (script_of c.args.script.now) all c.loop-index.invariant
    ∙ ap Ok (all_given c.args.script.now (length c.loop-index.yielded) all)
