use Rattle.std.proofs.Common.{sym, ◌∙◌, ap}
use Rattle.std.specs.Prelude.{◌==◌, is_some}
use Rattle.dmr_table.proofs.EntriesLemmas.{others_same, none_left, one_fewer}
use Rattle.dmr_table.proofs.table.KeyedTable.remove.Goals as goal

pub loop-smaller : goal.loop-smaller
loop-smaller g c =
    rw c.remove_first.ensures.others
    (one_fewer (λ v. g.V.Keyed.key_of v == c.args.key) c.loop.self
    (ap is_some (sym c.remove_first.ensures.first) ∙ sym c.is_some.ensures ∙ c.loop-test.true))

pub loop-preserved : goal.loop-preserved
loop-preserved g c = rw c.remove_first.ensures.others (others_same (λ v. g.V.Keyed.key_of v == c.args.key) _ ∙ c.loop.invariant)

pub returns : goal.returns
returns g c =
    c.remove_first.ensures.others
    ∙ none_left (λ v. g.V.Keyed.key_of v == c.args.key) c.loop.self
    (ap is_some (sym c.remove_first.ensures.first) ∙ sym c.is_some.ensures ∙ c.loop-test.false)
    ∙ c.loop.invariant
