-- The sums of a word: they are 0 exactly if it is a codeword, and which lines fail.
use Rattle.std.proofs.Common.{◌≡◌, ℕ, zero, suc, ◌+◌, ◌*◌, ◌/◌, ◌%◌, ◌^◌, ◌<◌, ◌≤◌, List, Bool, length, sym, ap, ◌∙◌, arith, pow-suc}
use Rattle.std.proofs.Common.{⊎_elim}
use Rattle.std.proofs.lemmas.Bool.{cases_lt, false≢true}
use Rattle.std.proofs.Math.Nat.{zero-div}
use Rattle.std.proofs.lemmas.Nat.{shr-shr}
use Rattle.dmr_bptc.specs.Bptc.{add_bits, cell, row_equations, column_equations, IsCodeword, distance}
use Rattle.dmr_bptc.specs.Lines.{HasSameCells}
use Rattle.dmr_bptc.specs.Mending.{syndrome}
use Rattle.dmr_bptc.specs.Sums.{syndrome_at, failing_lines}
use Rattle.dmr_bptc.proofs.BitSumLemmas.{add_bits-zero}
use Rattle.dmr_bptc.proofs.CountLemmas.{count_below, sum_below, count_below-zero, count_below-rest, sum_below-at_least, count_from-zero}
use Rattle.dmr_bptc.proofs.LineLemmas.{syndrome-same, syndrome-zero, satisfies-from_syndrome, row_indices, column_indices}
use Rattle.dmr_bptc.proofs.CodewordLemmas.{column_errors, column_errors-le}
use Rattle.dmr_bptc.proofs.SyndromeLemmas.{line_fails, holds-not, past-none}
use Rattle.dmr_bptc.proofs.ParityLemmas.{satisfies-same}

pow-four : (m : ℕ) → 2 ^ (4 + m) ≡ 16 * 2 ^ m
pow-four m =
    let e : 4 + m ≡ suc (suc (suc (suc m))) = omega arith in
    ap (λ n. 2 ^ n) e ∙ omega (arith, pow-suc 2 m, pow-suc 2 (suc m), pow-suc 2 (suc (suc m)), pow-suc 2 (suc (suc (suc m))))

-- a number whose digits in base 16 are all 0 is 0
digits_zero : (count n : ℕ) → n < 2 ^ (4 * count) → ((k : ℕ) → k < count → n / 2 ^ (4 * k) % 16 ≡ 0) → n ≡ 0
digits_zero zero n lt digits = omega arith
digits_zero (suc count) n lt digits =
    let e : 4 * suc count ≡ 4 + 4 * count = omega arith in
    let bound : 2 ^ (4 * suc count) ≡ 16 * 2 ^ (4 * count) = ap (λ m. 2 ^ m) e ∙ pow-four (4 * count) in
    let rest : n / 16 ≡ 0 = digits_zero count (n / 16) (omega (arith, lt, bound)) (λ k k_lt.
    let at : 4 + 4 * k ≡ 4 * suc k = omega arith in
    ap (λ m. m % 16) (shr-shr n 4 (4 * k)) ∙ ap (λ m. n / 2 ^ m % 16) at ∙ digits (suc k) (omega arith)) in
    let first : n / 2 ^ (4 * 0) % 16 ≡ 0 = digits 0 (omega arith) in
    omega (arith, rest, first)

module _ (word : List Bool) (columns rows : ℕ) (len : length word ≡ 196)
    (columns_are : (column : ℕ) → column < 15 → columns / 2 ^ (4 * column) % 16 ≡ syndrome column_equations (λ row. cell word row column))
    (rows_are : (row : ℕ) → row < 13 → rows / 2 ^ (4 * row) % 16 ≡ syndrome row_equations (λ column. cell word row column)) where
  pub codeword-from_sums : columns ≡ 0 → rows ≡ 0 → IsCodeword word
  codeword-from_sums no_columns no_rows = record {
    len = len;
    rows = λ row lt. satisfies-from_syndrome row_equations (λ column. cell word row column)
        (sym (rows_are row lt) ∙ ap (λ n. n / 2 ^ (4 * row) % 16) no_rows ∙ ap (λ n. n % 16) (zero-div (2 ^ (4 * row))));
    columns = λ column lt. satisfies-from_syndrome column_equations (λ row. cell word row column)
        (sym (columns_are column lt) ∙ ap (λ n. n / 2 ^ (4 * column) % 16) no_columns ∙ ap (λ n. n % 16) (zero-div (2 ^ (4 * column))));
  }

  pub sums-from_codeword : columns < 2 ^ 60 → rows < 2 ^ 52 → IsCodeword word → (columns ≡ 0) × (rows ≡ 0)
  sums-from_codeword columns_lt rows_lt is = (
    digits_zero 15 columns columns_lt
        (λ k lt. columns_are k lt ∙ syndrome-zero column_equations (λ row. cell word row k) (is.columns k lt)),
    digits_zero 13 rows rows_lt (λ k lt. rows_are k lt ∙ syndrome-zero row_equations (λ column. cell word k column) (is.rows k lt)),
  )

-- a word of 196 bits with the cells of a codeword is a codeword
pub codeword-same : (x y : List Bool) → length x ≡ 196 → HasSameCells x y → IsCodeword y → IsCodeword x
codeword-same x y len same is = record {
  len = len;
  rows = λ row lt. satisfies-same row_equations (λ column. cell x row column) (λ column. cell y row column) 15 row_indices
      (λ k k_lt. same row k lt k_lt) (is.rows row lt);
  columns = λ column lt. satisfies-same column_equations (λ row. cell x row column) (λ row. cell y row column) 13 column_indices
      (λ k k_lt. same k column k_lt lt) (is.columns column lt);
}

-- at most three columns fail of a word that differs from a codeword in at most three places: each has one of them
pub few_columns_fail : (word codeword : List Bool) (columns : ℕ) → columns < 2 ^ 60
    → ((column : ℕ) → column < 15 → syndrome_at columns column ≡ syndrome column_equations (λ row. cell word row column))
    → IsCodeword codeword → distance word codeword ≤ 3 → failing_lines columns ≤ 3
few_columns_fail word codeword columns fits are is near =
    let all : failing_lines columns ≡ count_below (line_fails columns) 15 =
    count_from-zero (line_fails columns) 16 ∙ count_below-rest (line_fails columns) 15 16 (omega arith)
    (λ column le lt. holds-not columns column (past-none columns 15 column fits le)) in
    let each : 1 * count_below (line_fails columns) 15 ≤ sum_below (column_errors word codeword) 15 =
    sum_below-at_least (column_errors word codeword) (line_fails columns) 1 15 (λ column lt fails.
    ⊎_elim
    (λ (none : column_errors word codeword column < 1).
    let same : (row : ℕ) → row < 13 → cell word row column ≡ cell codeword row column =
    λ row row_lt. add_bits-zero (cell word row column) (cell codeword row column)
    (count_below-zero (λ row. add_bits (cell word row column) (cell codeword row column)) 13 (omega arith) row row_lt) in
    let holds : syndrome_at columns column ≡ 0 =
    are column lt ∙ syndrome-same column_equations (λ row. cell word row column) (λ row. cell codeword row column) 13 column_indices same
    ∙ syndrome-zero column_equations (λ row. cell codeword row column) (is.columns column lt) in
    absurd (false≢true (sym (holds-not columns column holds) ∙ fails)))
    (λ (some : 1 ≤ column_errors word codeword column). some)
    (cases_lt (column_errors word codeword column) 1)) in
    omega (arith, all, each, column_errors-le word codeword, near)
