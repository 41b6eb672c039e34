-- In each turn of the loop, the line is the next of the script's lines.
use Rattle.std.proofs.Common.{◌≡◌, ◌∷◌, [], ◌++◌, true, Some, None, is_ok, not, map, length, sym, ap, ◌∙◌, eqb, option_map, arith, rules}
use Rattle.std.proofs.lemmas.Iterator.Consumers.{YieldsList-at, YieldsList-from_enumerate, YieldsList-turn, YieldsList-end}
use Rattle.std.proofs.lemmas.Iterator.Splits.{YieldsList-from_slice_split}
use Rattle.std.proofs.lemmas.List.FromFn.{length-enumerate_from}
use Rattle.std.proofs.lemmas.List.{length_push, map-append}
use borrow.Author.Tests.{tests}
use Rattle.dmr_replay.specs.Script.{repeated_input, input_of_line, lines_of, script_of}
use Rattle.dmr_replay.proofs.ScriptLemmas.{skips, gives, faults, ends, line_at}
use Rattle.dmr_replay.proofs.script.read_script.Goals as goal

pub loop-index-preserved-else-is_err : goal.loop-index-preserved-else-is_err
loop-index-preserved-else-is_err c =
    let at = line_at (lines_of c.args.script.now) (length c.loop-index.yielded) c.in-Some.index c.in-Some.line.now
    (YieldsList-turn (YieldsList-at c.into_iter-index-iterator.ensures.into_iter_gives
    (YieldsList-from_enumerate
    (YieldsList-at c.enumerate-index-items.ensures.source
    (YieldsList-from_slice_split _ (λ o. eqb o 10) c.args.script.now c.split.ensures.rest c.split.ensures.done c.split.ensures.closure
    (λ x b q k. search (rules, tests))))
    c.enumerate-index-items.ensures.count))
    c.loop-index.yielded _ c.loop-index.yielded_by _ _ (c.in-Some.index, c.in-Some.line) c.in-Some.is c.next.ensures.steps) in
    let given = map repeated_input c.loop-index.given.items in
    let input = repeated_input c.in-Ok-Some.input in
    let taken : is_ok c.push.result ≡ true = c.is_err.ensures.negation ∙ ap not c.if-is_err.false in
    let items = rw taken at c.push.ensures.items in
    let more : map repeated_input c.push.new.self.items ≡ given ++ input ∷ [] =
    ap (map repeated_input) items ∙ map-append repeated_input c.loop-index.given.items _ in
    let some : input_of_line c.in-Some.line.now ≡ Some input =
    sym c.in-Ok-Some.ensures ∙ ap (option_map repeated_input) c.in-Ok-Some.field-0-is in
    gives (map repeated_input c.loop-index.given.items) (length c.loop-index.yielded) c.in-Some.line.now (lines_of c.args.script.now) at.1
    (script_of c.args.script.now) c.loop-index.invariant
    _ (length_push c.loop-index.yielded (c.in-Some.index, c.in-Some.line)) input _ more
    (sym c.is_skipped.ensures ∙ c.if-not-is_skipped.true) some

pub returns-in-Ok-None-clause-fault : goal.returns-in-Ok-None-clause-fault
returns-in-Ok-None-clause-fault c =
    let at = line_at (lines_of c.args.script.now) (length c.loop-index.yielded) c.in-Some.index c.in-Some.line.now
    (YieldsList-turn (YieldsList-at c.into_iter-index-iterator.ensures.into_iter_gives
    (YieldsList-from_enumerate
    (YieldsList-at c.enumerate-index-items.ensures.source
    (YieldsList-from_slice_split _ (λ o. eqb o 10) c.args.script.now c.split.ensures.rest c.split.ensures.done c.split.ensures.closure
    (λ x b q k. search (rules, tests))))
    c.enumerate-index-items.ensures.count))
    c.loop-index.yielded _ c.loop-index.yielded_by _ _ (c.in-Some.index, c.in-Some.line) c.in-Some.is c.next.ensures.steps) in
    let none : input_of_line c.in-Some.line.now ≡ None =
    sym c.in-Ok-None.ensures ∙ ap (option_map repeated_input) c.in-Ok-None.field-0-is in
    let fault = faults (map repeated_input c.loop-index.given.items) (length c.loop-index.yielded) c.in-Some.line.now
    (lines_of c.args.script.now) at.1 (script_of c.args.script.now) c.loop-index.invariant
    (sym c.is_skipped.ensures ∙ c.if-not-is_skipped.true) none in
    λ number same. cc (fault, at.0)

pub loop-index-preserved : goal.loop-index-preserved
loop-index-preserved c =
    let at = line_at (lines_of c.args.script.now) (length c.loop-index.yielded) c.in-Some.index c.in-Some.line.now
    (YieldsList-turn (YieldsList-at c.into_iter-index-iterator.ensures.into_iter_gives
    (YieldsList-from_enumerate
    (YieldsList-at c.enumerate-index-items.ensures.source
    (YieldsList-from_slice_split _ (λ o. eqb o 10) c.args.script.now c.split.ensures.rest c.split.ensures.done c.split.ensures.closure
    (λ x b q k. search (rules, tests))))
    c.enumerate-index-items.ensures.count))
    c.loop-index.yielded _ c.loop-index.yielded_by _ _ (c.in-Some.index, c.in-Some.line) c.in-Some.is c.next.ensures.steps) in
    skips (map repeated_input c.loop-index.given.items) (length c.loop-index.yielded) c.in-Some.line.now (lines_of c.args.script.now) at.1
    (script_of c.args.script.now) c.loop-index.invariant
    _ (length_push c.loop-index.yielded (c.in-Some.index, c.in-Some.line)) (sym c.is_skipped.ensures ∙ c.if-not-is_skipped.false)

pub returns-clause-lines : goal.returns-clause-lines
returns-clause-lines c =
    let end = YieldsList-end (YieldsList-at c.into_iter-index-iterator.ensures.into_iter_gives
    (YieldsList-from_enumerate
    (YieldsList-at c.enumerate-index-items.ensures.source
    (YieldsList-from_slice_split _ (λ o. eqb o 10) c.args.script.now c.split.ensures.rest c.split.ensures.done c.split.ensures.closure
    (λ x b q k. search (rules, tests))))
    c.enumerate-index-items.ensures.count))
    c.loop-index.yielded _ c.loop-index.yielded_by _ _ c.in-None.is c.next.ensures.steps in
    ends (map repeated_input c.loop-index.given.items) (length c.loop-index.yielded) (lines_of c.args.script.now)
    (script_of c.args.script.now)
    (omega (arith, end.1, length-enumerate_from 0 (lines_of c.args.script.now))) c.loop-index.invariant
