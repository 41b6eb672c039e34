use Rattle.std.proofs.Common.{rules, ◌≡◌, ◌-◌, take, drop, length, eqb, not, refl}
use Rattle.std.proofs.lemmas.Iterator.{YieldsList-from_slice}
use Rattle.std.proofs.lemmas.Iterator.Search.{position_from_yields_List}
use borrow.Author.Tests.{tests}
use Rattle.dmr_console.proofs.WordLemmas.{found, no_word, word_and_rest}
use Rattle.dmr_console.proofs.words.first_word.Goals as goal

pub returns-in_err-begin : goal.returns-in_err-begin
returns-in_err-begin c =
    let begin : c.position.result ≡ found (λ o. not (eqb o 32)) c.args.line.now =
    position_from_yields_List (λ o. not (eqb o 32)) _ _ c.position.result c.position.ensures.ran (YieldsList-from_slice c.args.line.now cc)
    (λ x b q k. search (rules, tests)) in
    rw c.from_residual.ensures (no_word c.args.line.now c.position.result begin c.in_err-begin.was)

pub returns : goal.returns
returns c =
    let begin : c.position.result ≡ found (λ o. not (eqb o 32)) c.args.line.now =
    position_from_yields_List (λ o. not (eqb o 32)) _ _ c.position.result c.position.ensures.ran (YieldsList-from_slice c.args.line.now cc)
    (λ x b q k. search (rules, tests)) in
    let rest = take (length c.args.line.now - c.in_ok-begin.begin) (drop c.in_ok-begin.begin c.args.line.now) in
    let end : c.position-end.result ≡ found (λ o. eqb o 32) rest =
    position_from_yields_List (λ o. eqb o 32) _ _ c.position-end.result c.position-end.ensures.ran (YieldsList-from_slice rest cc)
    (λ x b q k. search (rules, tests)) in
    word_and_rest c.args.line.now rest c.split_at.result.0.now c.split_at.result.1.now c.in_ok-begin.begin c.unwrap_or.result
    c.position.result c.position-end.result
    begin c.in_ok-begin.was refl end c.unwrap_or.ensures c.split_at.ensures.front c.split_at.ensures.back
