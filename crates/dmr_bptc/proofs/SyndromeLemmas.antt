-- Syndromes that are packed in one number: the first that is not 0, and those after it.
use Rattle.std.proofs.Common.{◌≡◌, ◌==◌, ℕ, zero, suc, ◌+◌, ◌-◌, ◌*◌, ◌/◌, ◌%◌, ◌^◌, ◌<◌, ◌≤◌, Bool, true, false, not, cond, refl, sym, ap}
use Rattle.std.proofs.Common.{◌∙◌, arith, ⊎_elim}
use Rattle.std.specs.Int.{bit_at, w64, trailing_zeros}
use Rattle.std.proofs.Math.Nat.{zero-div, div-eq_of_lt}
use Rattle.std.proofs.Math.Pow.{pow_mono}
use Rattle.std.proofs.lemmas.Bool.{cases_lt, eq-eqb, ne_eqb}
use Rattle.std.proofs.lemmas.Nat.{shr-shr}
use Rattle.std.proofs.lemmas.Nat.Bits.{bit_at-trailing_zeros}
use Rattle.dmr_bptc.specs.Sums.{syndrome_at, failing_lines}
use Rattle.dmr_bptc.proofs.CountLemmas.{count_below, count_below-rest, count_below-mono, count_from-zero}
use Rattle.dmr_bptc.proofs.SumTableLemmas.{four_of}

-- ---- the first line that fails

-- the line of the lowest set bit
abbrev pub lowest_line : ℕ → ℕ
lowest_line syndromes = trailing_zeros w64 syndromes / 4

pub lowest_line-before : (syndromes : ℕ) → 0 < syndromes → syndromes < 2 ^ 64 → (line : ℕ) → line < lowest_line syndromes →
    syndrome_at syndromes line ≡ 0
lowest_line-before syndromes positive fits line lt =
    let none = (bit_at-trailing_zeros w64 syndromes positive fits).2 in
    let a : bit_at syndromes (4 * line + 3) ≡ 0 = none (4 * line + 3) (omega arith) in
    let b : bit_at syndromes (4 * line + 2) ≡ 0 = none (4 * line + 2) (omega arith) in
    let c : bit_at syndromes (4 * line + 1) ≡ 0 = none (4 * line + 1) (omega arith) in
    let d : bit_at syndromes (4 * line + 0) ≡ 0 = none (4 * line + 0) (omega arith) in
    omega (arith, four_of syndromes (4 * line), a, b, c, d)

pub lowest_line-fails : (syndromes : ℕ) → 0 < syndromes → syndromes < 2 ^ 64 → 0 < syndrome_at syndromes (lowest_line syndromes)
lowest_line-fails syndromes positive fits =
    let set : bit_at syndromes (trailing_zeros w64 syndromes) ≡ 1 = (bit_at-trailing_zeros w64 syndromes positive fits).1 in
    by_rest (trailing_zeros w64 syndromes % 4)
    (let e : 4 * lowest_line syndromes + trailing_zeros w64 syndromes % 4 ≡ trailing_zeros w64 syndromes = omega arith in
    ap (bit_at syndromes) e ∙ set) (omega arith)
  where
    by_rest : (m : ℕ) → bit_at syndromes (4 * lowest_line syndromes + m) ≡ 1 → m < 4 → 0 < syndrome_at syndromes (lowest_line syndromes)
    by_rest zero e lt = omega (arith, four_of syndromes (4 * lowest_line syndromes), e)
    by_rest (suc zero) e lt = omega (arith, four_of syndromes (4 * lowest_line syndromes), e)
    by_rest (suc (suc zero)) e lt = omega (arith, four_of syndromes (4 * lowest_line syndromes), e)
    by_rest (suc (suc (suc zero))) e lt = omega (arith, four_of syndromes (4 * lowest_line syndromes), e)
    by_rest (suc (suc (suc (suc m)))) e lt = absurd (omega arith)

-- ---- the lines from one on

-- their syndromes are those of the lines
pub rest-at : (syndromes rest line k : ℕ) → rest ≡ syndromes / 2 ^ (4 * line) → syndrome_at rest k ≡ syndrome_at syndromes (line + k)
rest-at syndromes rest line k is =
    let e : 4 * line + 4 * k ≡ 4 * (line + k) = omega arith in
    ap (λ n. n / 2 ^ (4 * k) % 16) is ∙ ap (λ n. n % 16) (shr-shr syndromes (4 * line) (4 * k)) ∙ ap (λ m. syndromes / 2 ^ m % 16) e

-- those after a line
pub rest-next : (syndromes rest line k : ℕ) → rest ≡ syndromes / 2 ^ (4 * line) →
    rest / 2 ^ (4 * k) / 2 ^ 4 ≡ syndromes / 2 ^ (4 * (line + k + 1))
rest-next syndromes rest line k is =
    let e : 4 * line + 4 * k + 4 ≡ 4 * (line + k + 1) = omega arith in
    ap (λ n. n / 2 ^ (4 * k) / 2 ^ 4) is ∙ ap (λ n. n / 2 ^ 4) (shr-shr syndromes (4 * line) (4 * k))
    ∙ shr-shr syndromes (4 * line + 4 * k) 4 ∙ ap (λ m. syndromes / 2 ^ m) e

-- after the last line no syndrome is left
pub past-none : (syndromes count line : ℕ) → syndromes < 2 ^ (4 * count) → count ≤ line → syndrome_at syndromes line ≡ 0
past-none syndromes count line fits le =
    let wide : 2 ^ (4 * count) ≤ 2 ^ (4 * line) = pow_mono (let e : 4 * count ≤ 4 * line = omega arith in e) in
    ap (λ n. n % 16) (div-eq_of_lt (let e : syndromes < 2 ^ (4 * line) = omega (arith, wide, fits) in e))

pub fails-within : (syndromes count line : ℕ) → syndromes < 2 ^ (4 * count) → 0 < syndrome_at syndromes line → line < count
fails-within syndromes count line fits fails =
    ⊎_elim
    (λ (lt : line < count). lt)
    (λ (le : count ≤ line). absurd (omega (arith, past-none syndromes count line fits le, fails)))
    (cases_lt line count)

-- if nothing is left, no line fails
pub rest-none : (syndromes rest line k : ℕ) → rest ≡ syndromes / 2 ^ (4 * line) → rest ≡ 0 → line ≤ k → syndrome_at syndromes k ≡ 0
rest-none syndromes rest line k is none le =
    let e : line + (k - line) ≡ k = omega arith in
    sym (rest-at syndromes rest line (k - line) is ∙ ap (syndrome_at syndromes) e) ∙ ap (λ n. n / 2 ^ (4 * (k - line)) % 16) none
    ∙ ap (λ n. n % 16) (zero-div (2 ^ (4 * (k - line))))

-- ---- how many lines fail

abbrev pub line_fails : ℕ → ℕ → Bool
line_fails syndromes line = not (syndrome_at syndromes line == 0)

pub holds-not : (syndromes line : ℕ) → syndrome_at syndromes line ≡ 0 → line_fails syndromes line ≡ false
holds-not syndromes line zero_there = ap not (eq-eqb (syndrome_at syndromes line) 0 zero_there)

fails-so : (syndromes line : ℕ) → 0 < syndrome_at syndromes line → line_fails syndromes line ≡ true
fails-so syndromes line positive = ap not (ne_eqb (syndrome_at syndromes line) 0 (λ e. absurd (omega (arith, e, positive))))

-- a number has the syndromes from some line on, and this many lines fail before it
pub record IsRest (syndromes rest count : ℕ) : Type 0 where
  pub line : ℕ
  pub is : rest ≡ syndromes / 2 ^ (4 * line)
  pub within : line ≤ 16
  pub count_is : count_below (line_fails syndromes) line ≡ count

pub is_rest-all : (syndromes : ℕ) → IsRest syndromes syndromes 0
is_rest-all syndromes = record {
  line = 0;
  is = let e : syndromes ≡ syndromes / 1 = omega arith in e;
  within = omega arith;
  count_is = refl;
}

module _ (syndromes rest count : ℕ) (is_rest : IsRest syndromes rest count) where
  -- before the first line that fails no further one does
  count_before : (k : ℕ) → ((j : ℕ) → j < k → syndrome_at rest j ≡ 0) → count_below (line_fails syndromes) (is_rest.line + k) ≡ count
  count_before k none =
      count_below-rest (line_fails syndromes) is_rest.line (is_rest.line + k) (omega arith) (λ line le lt.
      let e : is_rest.line + (line - is_rest.line) ≡ line = omega arith in
      holds-not syndromes line (sym (rest-at syndromes rest is_rest.line (line - is_rest.line) is_rest.is ∙ ap (syndrome_at syndromes) e)
      ∙ none (line - is_rest.line) (omega arith)))
      ∙ is_rest.count_is

  module _ (fits : syndromes < 2 ^ 64) (k : ℕ) (none : (j : ℕ) → j < k → syndrome_at rest j ≡ 0) (fails : 0 < syndrome_at rest k) where
    fails_there : 0 < syndrome_at syndromes (is_rest.line + k)
    fails_there = omega (arith, rest-at syndromes rest is_rest.line k is_rest.is, fails)

    there-lt : is_rest.line + k < 16
    there-lt = fails-within syndromes 16 (is_rest.line + k) fits fails_there

    count_there : count_below (line_fails syndromes) (suc (is_rest.line + k)) ≡ count + 1
    count_there = omega (arith, count_before k none, ap {B = ℕ} (λ b. cond b 1 0) (fails-so syndromes (is_rest.line + k) fails_there))

    pub is_rest-next : IsRest syndromes (rest / 2 ^ (4 * k) / 2 ^ 4) (count + 1)
    is_rest-next = record {
      line = suc (is_rest.line + k);
      is = let e : is_rest.line + k + 1 ≡ suc (is_rest.line + k) =
          omega arith in rest-next syndromes rest is_rest.line k is_rest.is ∙ ap (λ m. syndromes / 2 ^ (4 * m)) e;
      within = omega (arith, there-lt);
      count_is = count_there;
    }

    count-lt : count < failing_lines syndromes
    count-lt = omega (
      arith,
      count_there,
      count_below-mono (line_fails syndromes) (suc (is_rest.line + k)) 16 (omega (arith, there-lt)),
      count_from-zero (line_fails syndromes) 16,
    )

  -- if nothing is left, these are all
  pub is_rest-none : rest ≡ 0 → failing_lines syndromes ≡ count
  is_rest-none none =
      count_from-zero (line_fails syndromes) 16
      ∙ count_below-rest (line_fails syndromes) is_rest.line 16 is_rest.within
      (λ line le lt. holds-not syndromes line (rest-none syndromes rest is_rest.line line is_rest.is none le))
      ∙ is_rest.count_is

  -- if something is left, there are more
  pub is_rest-more : syndromes < 2 ^ 64 → rest < 2 ^ 64 → 0 < rest → count < failing_lines syndromes
  is_rest-more fits rest_fits positive =
      count-lt fits (lowest_line rest) (lowest_line-before rest positive rest_fits) (lowest_line-fails rest positive rest_fits)
