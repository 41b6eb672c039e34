use Rattle.std.proofs.Common.{◌∙◌}
use Rattle.dmr_bptc.specs.Bptc.{cell}
use Rattle.dmr_bptc.proofs.CodewordLemmas.{passes_mend}
use Rattle.dmr_bptc.proofs.decoding.with_lines_mended.Goals as goal

pub returns-clause-near : goal.returns-clause-near
returns-clause-near c = λ codeword is near row column row_lt column_lt.
    c.mend_rows.ensures.mended row column row_lt column_lt
    ∙ passes_mend c.args.word.now codeword (cell c.mend_columns.new.self.word) is near c.mend_columns.ensures.mended row column row_lt
    column_lt
