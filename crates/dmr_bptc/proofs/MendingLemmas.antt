-- Mending the lines that fail, one after the other: all rows, or all columns.
use Rattle.std.proofs.Common.{◌≡◌, ◌≢◌, ℕ, ◌+◌, ◌-◌, ◌*◌, ◌/◌, ◌^◌, ◌<◌, ◌≤◌, Bool, true, List, bit_and, refl, sym, ap, ◌∙◌, arith, ⊎_elim}
use Rattle.std.proofs.lemmas.Bool.{cases_lt, cases_eq}
use Rattle.std.proofs.lemmas.Nat.{and_mask}
use Rattle.dmr_bits.specs.Words.{word_bit}
use Rattle.dmr_bptc.specs.Mending.{syndrome, corrected_line}
use Rattle.dmr_bptc.specs.Sums.{syndrome_at}
use Rattle.dmr_bptc.proofs.LineLemmas.{indices_within, marks_apart, syndrome-same, corrected_line-same, clean-stays}
use Rattle.dmr_bptc.proofs.SyndromeLemmas.{rest-at, rest-next, rest-none, fails-within}

-- lines of n bits, which are at places: those before a line are mended, and the others are as they were; the rest of
-- the syndromes are theirs
pub record ArePartlyMended (es : List (ℕ × List ℕ)) (n count : ℕ) (place : ℕ → ℕ → ℕ) (before now : List Bool)
    (syndromes rest line : ℕ) : Type 0 where
  pub rest_is : rest ≡ syndromes / 2 ^ (4 * line)
  pub within : line ≤ count
  pub mended : (k j : ℕ) → k < line → j < n → word_bit now (place k j) ≡ corrected_line es (λ j. word_bit before (place k j)) j
  pub left : (k j : ℕ) → line ≤ k → k < count → j < n → word_bit now (place k j) ≡ word_bit before (place k j)

pub none_mended : (es : List (ℕ × List ℕ)) (n count : ℕ) (place : ℕ → ℕ → ℕ) (word : List Bool) (syndromes : ℕ) →
    ArePartlyMended es n count place word word syndromes syndromes 0
none_mended es n count place word syndromes = record {
  rest_is = let e : syndromes ≡ syndromes / 1 = omega arith in e;
  within = omega arith;
  mended = λ k j lt j_lt. absurd (omega arith);
  left = λ k j le lt j_lt. refl;
}

module _ (es : List (ℕ × List ℕ)) (n count : ℕ) (place : ℕ → ℕ → ℕ) (inside : indices_within es n ≡ true) (apart : marks_apart es n ≡ true)
    (before now : List Bool) (syndromes rest line : ℕ)
    (fits : syndromes < 2 ^ (4 * count))
    (are : (k : ℕ) → k < count → syndrome_at syndromes k ≡ syndrome es (λ j. word_bit before (place k j)))
    (partly : ArePartlyMended es n count place before now syndromes rest line) where
  -- a line that does not fail needs no mending
  clean : (k j : ℕ) → k < count → syndrome_at syndromes k ≡ 0 → j < n →
      word_bit before (place k j) ≡ corrected_line es (λ j. word_bit before (place k j)) j
  clean k j lt none j_lt = sym (clean-stays es n inside apart (λ j. word_bit before (place k j)) (sym (are k lt) ∙ none) j j_lt)

  -- if nothing is left, all are mended
  pub all_mended : rest ≡ 0 → (k j : ℕ) → k < count → j < n → word_bit now (place k j) ≡ corrected_line es
      (λ j. word_bit before (place k j)) j
  all_mended none k j lt j_lt =
      ⊎_elim
      (λ (k_lt : k < line). partly.mended k j k_lt j_lt)
      (λ (le : line ≤ k). partly.left k j le lt j_lt ∙ clean k j lt (rest-none syndromes rest line k partly.rest_is none le) j_lt)
      (cases_lt k line)

  module _ (passed : ℕ) (none : (k : ℕ) → k < passed → syndrome_at rest k ≡ 0) (fails : 0 < syndrome_at rest passed) where
    pub failing-lt : line + passed < count
    failing-lt = fails-within syndromes count (line + passed) fits (omega (arith, rest-at syndromes rest line passed partly.rest_is, fails))

    pub failing-syndrome : bit_and (rest / 2 ^ (4 * passed)) 15 ≡ syndrome es (λ j. word_bit now (place (line + passed) j))
    failing-syndrome =
        and_mask (rest / 2 ^ (4 * passed)) 4
        ∙ rest-at syndromes rest line passed partly.rest_is
        ∙ are (line + passed) failing-lt
        ∙ sym (syndrome-same es (λ j. word_bit now (place (line + passed) j)) (λ j. word_bit before (place (line + passed) j)) n inside
        (λ j j_lt. partly.left (line + passed) j (omega arith) failing-lt j_lt))

    passed-none : (k : ℕ) → line ≤ k → k < line + passed → syndrome_at syndromes k ≡ 0
    passed-none k le lt = let e : line + (k - line) ≡ k = omega arith in
        sym (rest-at syndromes rest line (k - line) partly.rest_is ∙ ap (syndrome_at syndromes) e) ∙ none (k - line) (omega arith)

    pub one_more_mended : (new : List Bool)
        → ((j : ℕ) → j < n → word_bit new (place (line + passed) j) ≡ corrected_line es (λ j. word_bit now (place (line + passed) j)) j)
        → ((k j : ℕ) → k < count → j < n → k ≢ line + passed → word_bit new (place k j) ≡ word_bit now (place k j))
        → ArePartlyMended es n count place before new syndromes (rest / 2 ^ (4 * passed) / 2 ^ 4) (line + (passed + 1))
    one_more_mended new here others = record {
      rest_is = let e : line + passed + 1 ≡ line + (passed + 1) =
          omega arith in rest-next syndromes rest line passed partly.rest_is ∙ ap (λ m. syndromes / 2 ^ (4 * m)) e;
      within = omega (arith, failing-lt);
      mended = λ k j lt j_lt.
          ⊎_elim
          (λ (at : k ≡ line + passed).
          rw at (here j j_lt
          ∙ corrected_line-same es (λ j. word_bit now (place (line + passed) j)) (λ j. word_bit before (place (line + passed) j)) n inside
          (λ j j_lt. partly.left (line + passed) j (omega arith) failing-lt j_lt) j j_lt))
          (λ (ne : k ≡ line + passed → ⊥).
          let k_count : k < count = omega (arith, failing-lt, lt) in
          others k j k_count j_lt ne
          ∙ ⊎_elim
          (λ (k_lt : k < line). partly.mended k j k_lt j_lt)
          (λ (le : line ≤ k). partly.left k j le k_count j_lt ∙ clean k j k_count (passed-none k le (omega arith)) j_lt)
          (cases_lt k line))
          (cases_eq k (line + passed));
      left = λ k j le lt j_lt. others k j lt j_lt (λ e. absurd (omega arith)) ∙ partly.left k j (omega arith) lt j_lt;
    }
