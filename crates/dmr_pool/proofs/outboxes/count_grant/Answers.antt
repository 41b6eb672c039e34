use Rattle.std.proofs.Common.{◌+◌, rules, arith, slice_index_or, slice_set, subst, sym}
use Rattle.dmr_pool.specs.Grants.{IsOneMore}
use Rattle.dmr_pool.proofs.GrantLemmas.{none_more, one_raised}
use Rattle.dmr_pool.proofs.outboxes.count_grant.Goals as goal

pub overflow_add-grants : goal.overflow_add-grants
overflow_add-grants c = omega (arith, c.requires c.index.result c.index.ensures.range)

pub returns-in-Some : goal.returns-in-Some
returns-in-Some c =
    let old = c.args.grants.now in
    let i = c.index.result in
    subst (λ o. IsOneMore old o (slice_set old i (slice_index_or old i 0 + 1))) (sym c.in-Some.is)
    (one_raised old c.in-Some.slot i c.index.ensures.numbers c.index.ensures.value (search rules))

pub returns-in_default : goal.returns-in_default
returns-in_default c = subst (λ o. IsOneMore c.args.grants.now o c.args.grants.now) (sym c.in_default.is) (none_more c.args.grants.now)
