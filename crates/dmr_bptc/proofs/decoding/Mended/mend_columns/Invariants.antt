use Rattle.dmr_bptc.specs.Bptc.{place_of, column_equations}
use Rattle.dmr_bptc.specs.Sums.{AreSums}
use Rattle.dmr_bptc.proofs.MendingLemmas.{ArePartlyMended}
use Rattle.dmr_bptc.proofs.decoding.Mended.mend_columns.Given as goal

abbrev pub invariant-loop-rest : goal.invariant-loop-rest
invariant-loop-rest l = record {
  partly : ArePartlyMended column_equations 13 15 (λ column row. place_of row column) l.initial.self.word l.self.word
      l.initial.self.sums.columns l.rest l.column;
  sums : AreSums l.self.word l.self.sums;
}

abbrev pub decreases-loop-rest : goal.decreases-loop-rest
decreases-loop-rest l = l.rest
