use Rattle.std.proofs.Common.{refl}
use Rattle.std.specs.Fmt.{digits}
use Rattle.dmr_records.proofs.RanLemmas.{ran_as}
use Rattle.dmr_records.proofs.rows.put_carrier.Goals as goal

pub returns-clause-ran : goal.returns-clause-ran
unfolding digits
returns-clause-ran g c = ran_as g.S.Store _ _ _ _ _ _ c.run.ensures.ran refl (cc)
