use Rattle.std.proofs.Common.{map}
use Rattle.std.proofs.lemmas.Result.{IfOk-weaker}
use Rattle.dmr_command.proofs.WordsLemmas.{all_read, all_refused, is_free}
use Rattle.dmr_command.proofs.words.read_words.Goals as goal

pub returns-clause-found : goal.returns-clause-found
returns-clause-found c =
    let words = map (λ w. w.now) c.args.words.now in
    let app_is = c.in_ok-command.ensures.app in
    all_read _ app_is words c.try_get_matches_from.result (c.try_get_matches_from.ensures.kinds (is_free _ app_is words))
    c.try_get_matches_from.ensures.matches
    (IfOk-weaker c.try_get_matches_from.result _ _ (λ m parsed. c.in_ok-command.ensures.site m parsed)
    c.try_get_matches_from.ensures.parsed)

pub returns-clause-refused : goal.returns-clause-refused
returns-clause-refused c =
    let words = map (λ w. w.now) c.args.words.now in
    let app_is = c.in_ok-command.ensures.app in
    all_refused _ app_is words c.try_get_matches_from.result (c.try_get_matches_from.ensures.kinds (is_free _ app_is words))
