use Rattle.std.proofs.Common.{refl}
use Rattle.dmr_records.proofs.RanLemmas.{ran_as}
use Rattle.dmr_records.proofs.pruning.run_alone.Goals as goal

pub returns-clause-ran : goal.returns-clause-ran
returns-clause-ran g c = ran_as g.S.Store _ _ _ _ _ _ c.run.ensures.ran refl (cc)
