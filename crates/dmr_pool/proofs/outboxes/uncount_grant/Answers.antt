use Rattle.std.proofs.Common.{◌-◌, ◌≤◌, rules, slice_index_or, slice_set, subst, sym}
use Rattle.dmr_pool.specs.Grants.{IsOneMore}
use Rattle.dmr_pool.proofs.GrantLemmas.{at_its_place, none_more, one_lowered}
use Rattle.dmr_pool.proofs.outboxes.uncount_grant.Goals as goal

pub overflow_sub-grants : goal.overflow_sub-grants
overflow_sub-grants c =
    at_its_place (λ k. 1 ≤ slice_index_or c.args.grants.now k 0) c.args.granted c.in-Some.slot c.index.result c.in-Some.is
    c.index.ensures.numbers c.index.ensures.value c.requires

pub returns-in-Some : goal.returns-in-Some
returns-in-Some c =
    let old = c.args.grants.now in
    let i = c.index.result in
    let some = at_its_place (λ k. 1 ≤ slice_index_or old k 0) c.args.granted c.in-Some.slot i c.in-Some.is c.index.ensures.numbers
    c.index.ensures.value c.requires in
    subst (λ o. IsOneMore (slice_set old i (slice_index_or old i 0 - 1)) o old) (sym c.in-Some.is)
    (one_lowered old c.in-Some.slot i c.index.ensures.numbers c.index.ensures.value (search rules) some)

pub returns-in_default : goal.returns-in_default
returns-in_default c = subst (λ o. IsOneMore c.args.grants.now o c.args.grants.now) (sym c.in_default.is) (none_more c.args.grants.now)
