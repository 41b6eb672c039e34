use Rattle.dmr_bptc.specs.Bptc.{place_of, row_equations}
use Rattle.dmr_bptc.specs.Sums.{AreSums}
use Rattle.dmr_bptc.proofs.MendingLemmas.{ArePartlyMended}
use Rattle.dmr_bptc.proofs.decoding.Mended.mend_rows.Given as goal

abbrev pub invariant-loop-rest : goal.invariant-loop-rest
invariant-loop-rest l = record {
  partly : ArePartlyMended row_equations 15 13 place_of l.initial.self.word l.self.word l.initial.self.sums.rows l.rest l.row;
  sums : AreSums l.self.word l.self.sums;
}

abbrev pub decreases-loop-rest : goal.decreases-loop-rest
decreases-loop-rest l = l.rest
