use Rattle.std.proofs.Common.{◌+◌, ◌<◌}
use Rattle.dmr_bptc.specs.Bptc.{place_of, row_equations}
use Rattle.dmr_bptc.proofs.LineLemmas.{row_indices, row_marks}
use Rattle.dmr_bptc.proofs.PlaceLemmas.{row-off}
use Rattle.dmr_bptc.proofs.MendingLemmas.{none_mended, all_mended, failing-lt, failing-syndrome, one_more_mended}
use Rattle.dmr_bptc.proofs.decoding.Mended.mend_rows.Goals as goal
use Rattle.dmr_bptc.proofs.decoding.Mended.mend_rows.Goals.{After-mend_line}

pub loop-rest-init : goal.loop-rest-init
loop-rest-init c = record {
  partly = none_mended row_equations 15 13 place_of c.args.self.now.word c.args.self.now.sums.rows;
  sums = c.requires;
}

pub mend_line-requires-clause-line : goal.mend_line-requires-clause-line
mend_line-requires-clause-line c = failing-lt row_equations 15 13 place_of row_indices row_marks c.args.self.now.word c.loop-rest.self.word
    c.args.self.now.sums.rows c.loop-rest.rest c.loop-rest.row c.requires.small_rows c.requires.rows c.loop-rest.invariant.partly
    c.first_failing-passed.result c.first_failing-passed.ensures.before c.first_failing-passed.ensures.fails

pub mend_line-requires-clause-failed : goal.mend_line-requires-clause-failed
mend_line-requires-clause-failed c = failing-syndrome row_equations 15 13 place_of row_indices row_marks c.args.self.now.word
    c.loop-rest.self.word c.args.self.now.sums.rows c.loop-rest.rest c.loop-rest.row c.requires.small_rows c.requires.rows
    c.loop-rest.invariant.partly c.first_failing-passed.result c.first_failing-passed.ensures.before c.first_failing-passed.ensures.fails

part : (c : After-mend_line) → c.loop-rest.row + c.first_failing-passed.result < 13
part c = failing-lt row_equations 15 13 place_of row_indices row_marks c.args.self.now.word c.loop-rest.self.word c.args.self.now.sums.rows
    c.loop-rest.rest c.loop-rest.row c.requires.small_rows c.requires.rows c.loop-rest.invariant.partly c.first_failing-passed.result
    c.first_failing-passed.ensures.before c.first_failing-passed.ensures.fails

pub loop-rest-preserved : goal.loop-rest-preserved
loop-rest-preserved c = record {
  partly = one_more_mended row_equations 15 13 place_of row_indices row_marks c.args.self.now.word c.loop-rest.self.word
      c.args.self.now.sums.rows c.loop-rest.rest c.loop-rest.row c.requires.small_rows c.requires.rows c.loop-rest.invariant.partly
      c.first_failing-passed.result c.first_failing-passed.ensures.before c.first_failing-passed.ensures.fails c.mend_line.new.self.word
      c.mend_line.ensures.mended (λ k j k_lt j_lt ne. c.mend_line.ensures.others (place_of k j)
      (row-off (c.loop-rest.row + c.first_failing-passed.result) k j (part c) k_lt j_lt ne));
  sums = c.mend_line.ensures.sums;
}

pub returns-clause-mended : goal.returns-clause-mended
returns-clause-mended c = λ row column row_lt column_lt. all_mended row_equations 15 13 place_of row_indices row_marks c.args.self.now.word
    c.loop-rest.self.word c.args.self.now.sums.rows c.loop-rest.rest c.loop-rest.row c.requires.small_rows c.requires.rows
    c.loop-rest.invariant.partly c.loop-rest-test.false row column row_lt column_lt
