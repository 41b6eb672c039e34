use Rattle.std.proofs.Common.{◌≡◌, length}
use Rattle.std.specs.Prelude.{◌==◌, not, filter}
use Rattle.dmr_table.proofs.table.KeyedTable.remove.Given as goal

abbrev pub invariant-loop : goal.invariant-loop
invariant-loop g l = filter (λ v. not (g.V.Keyed.key_of v == l.key)) l.self ≡ filter (λ v. not (g.V.Keyed.key_of v == l.key)) l.fn.self

abbrev pub decreases-loop : goal.decreases-loop
decreases-loop g l = length l.self
