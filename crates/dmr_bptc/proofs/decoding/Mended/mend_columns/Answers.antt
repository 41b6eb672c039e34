use Rattle.std.proofs.Common.{◌+◌, ◌<◌}
use Rattle.dmr_bptc.specs.Bptc.{place_of, column_equations}
use Rattle.dmr_bptc.proofs.LineLemmas.{column_indices, column_marks}
use Rattle.dmr_bptc.proofs.PlaceLemmas.{column-off}
use Rattle.dmr_bptc.proofs.MendingLemmas.{none_mended, all_mended, failing-lt, failing-syndrome, one_more_mended}
use Rattle.dmr_bptc.proofs.decoding.Mended.mend_columns.Goals as goal
use Rattle.dmr_bptc.proofs.decoding.Mended.mend_columns.Goals.{After-mend_line}

pub loop-rest-init : goal.loop-rest-init
loop-rest-init c = record {
  partly = none_mended column_equations 13 15
      (λ column row. place_of row column) c.args.self.now.word c.args.self.now.sums.columns;
  sums = c.requires;
}

pub mend_line-requires-clause-line : goal.mend_line-requires-clause-line
mend_line-requires-clause-line c = failing-lt column_equations 13 15 (λ column row. place_of row column) column_indices column_marks
    c.args.self.now.word c.loop-rest.self.word c.args.self.now.sums.columns c.loop-rest.rest c.loop-rest.column c.requires.small_columns
    c.requires.columns c.loop-rest.invariant.partly c.first_failing-passed.result c.first_failing-passed.ensures.before
    c.first_failing-passed.ensures.fails

pub mend_line-requires-clause-failed : goal.mend_line-requires-clause-failed
mend_line-requires-clause-failed c = failing-syndrome column_equations 13 15
    (λ column row. place_of row column) column_indices column_marks c.args.self.now.word c.loop-rest.self.word c.args.self.now.sums.columns
    c.loop-rest.rest c.loop-rest.column c.requires.small_columns c.requires.columns c.loop-rest.invariant.partly
    c.first_failing-passed.result c.first_failing-passed.ensures.before c.first_failing-passed.ensures.fails

part : (c : After-mend_line) → c.loop-rest.column + c.first_failing-passed.result < 15
part c = failing-lt column_equations 13 15 (λ column row. place_of row column) column_indices column_marks c.args.self.now.word
    c.loop-rest.self.word c.args.self.now.sums.columns c.loop-rest.rest c.loop-rest.column c.requires.small_columns c.requires.columns
    c.loop-rest.invariant.partly c.first_failing-passed.result c.first_failing-passed.ensures.before c.first_failing-passed.ensures.fails

pub loop-rest-preserved : goal.loop-rest-preserved
loop-rest-preserved c = record {
  partly = one_more_mended column_equations 13 15 (λ column row. place_of row column) column_indices column_marks c.args.self.now.word
      c.loop-rest.self.word c.args.self.now.sums.columns c.loop-rest.rest c.loop-rest.column c.requires.small_columns c.requires.columns
      c.loop-rest.invariant.partly c.first_failing-passed.result c.first_failing-passed.ensures.before c.first_failing-passed.ensures.fails
      c.mend_line.new.self.word c.mend_line.ensures.mended
      (λ k j k_lt j_lt ne. c.mend_line.ensures.others (place_of j k)
      (column-off (c.loop-rest.column + c.first_failing-passed.result) k j (part c) k_lt j_lt ne));
  sums = c.mend_line.ensures.sums;
}

pub returns-clause-mended : goal.returns-clause-mended
returns-clause-mended c = λ row column row_lt column_lt. all_mended column_equations 13 15
    (λ column row. place_of row column) column_indices column_marks c.args.self.now.word c.loop-rest.self.word c.args.self.now.sums.columns
    c.loop-rest.rest c.loop-rest.column c.requires.small_columns c.requires.columns c.loop-rest.invariant.partly c.loop-rest-test.false
    column row column_lt row_lt
