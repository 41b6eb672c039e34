use Rattle.std.proofs.Common.{◌∙◌, ap}
use Rattle.std.specs.Prelude.{◌==◌, is_some}
use Rattle.dmr_table.proofs.EntriesLemmas.{any_found}
use Rattle.dmr_table.proofs.table.KeyedTable.has.Goals as goal

pub returns : goal.returns
returns g c = c.is_some.ensures ∙ ap is_some c.find.ensures ∙ any_found (λ v. g.V.Keyed.key_of v == c.args.key) c.args.self.now
