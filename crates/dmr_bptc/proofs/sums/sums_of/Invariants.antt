use Rattle.std.proofs.Common.{◌≡◌, ◌+◌, ◌*◌}
use Rattle.dmr_bits.specs.Words.{word_bit}
use Rattle.dmr_bptc.specs.Groups.{added}
use Rattle.dmr_bptc.proofs.SumTableLemmas.{sum_number}
use Rattle.dmr_bptc.proofs.sums.sums_of.Given as goal

abbrev pub invariant-loop-k : goal.invariant-loop-k
invariant-loop-k l = record {
  columns : l.columns ≡ added (word_bit l.word) (sum_number 0) (64 * l.k);
  rows : l.rows ≡ added (word_bit l.word) (sum_number 1) (64 * l.k);
  high : l.high ≡ added (word_bit l.word) (sum_number 2) (64 * l.k);
  low : l.low ≡ added (word_bit l.word) (sum_number 3) (64 * l.k);
}

abbrev pub invariant-loop-j : goal.invariant-loop-j
invariant-loop-j l = record {
  columns : l.columns ≡ added (word_bit l.word) (sum_number 0) (4 * (16 * l.k + l.j));
  rows : l.rows ≡ added (word_bit l.word) (sum_number 1) (4 * (16 * l.k + l.j));
  high : l.high ≡ added (word_bit l.word) (sum_number 2) (4 * (16 * l.k + l.j));
  low : l.low ≡ added (word_bit l.word) (sum_number 3) (4 * (16 * l.k + l.j));
}
