use Rattle.dmr_keeper.proofs.CountLemmas.{ages_fit, counted_once}
use Rattle.dmr_keeper.proofs.laws.calls_are_counted_once.Goals as goal

pub returns-clause-counted : goal.returns-clause-counted
returns-clause-counted c = λ plan before journal. counted_once plan before.ticks before.lines before.calls journal

pub returns-clause-ages : goal.returns-clause-ages
returns-clause-ages c = λ plan before journal have. ages_fit plan before.ticks before.lines before.calls journal have
