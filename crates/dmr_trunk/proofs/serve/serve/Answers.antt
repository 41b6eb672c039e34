use Rattle.std.proofs.lemmas.Result.{err_from_is_err_and}
use Rattle.dmr_trunk.proofs.PlanLemmas.{left_may_fail, opening_may_fail}
use Rattle.dmr_trunk.proofs.serve.serve.Goals as goal

pub returns-in_err-serve_kept : goal.returns-in_err-serve_kept
returns-in_err-serve_kept g c = let p =
    err_from_is_err_and c.from_residual.result c.from_residual.ensures.1 in rw (p.1, p.2) (opening_may_fail c.in_err-serve_kept.field-0.0)

pub returns : goal.returns
returns g c = left_may_fail c.in_ok-serve_kept.field-0.result c.into_result.result c.into_result.ensures c.in_ok-serve_kept.ensures.may_fail
