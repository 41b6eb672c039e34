-- The masks are those of the equations and the interleaving: the bits set under an equation's mask add up to its
-- failure.
use Rattle.std.proofs.Common.{◌≡◌, ◌==◌, ℕ, zero, suc, ◌+◌, ◌%◌, ◌<◌, Bool, true, false, cond, ◌&&◌, List, [], ◌∷◌, get_or, refl, sym, ap}
use Rattle.std.proofs.Common.{◌∙◌, arith, zero-add}
use Rattle.dmr_bits.specs.Bits.{count_from}
use Rattle.dmr_bits.specs.Words.{word_bit}
use Rattle.dmr_bits.specs.Packed.{packed_bit, set_under}
use Rattle.dmr_bptc.specs.declared.layout.GridLine.{GridLine}
use Rattle.dmr_bptc.specs.declared.layout.GridLine.TheVariants.{Row, Column}
use Rattle.dmr_bptc.specs.declared.equations.TheConstants.{ROW_MASKS, COLUMN_MASKS}
use Rattle.dmr_bptc.specs.Bptc.{add_bits, parity, row_equations, column_equations, Satisfies}
use Rattle.dmr_bptc.specs.Lines.{line_place, line_bit, equations_of}
use Rattle.dmr_bptc.proofs.BitSumLemmas.{add_bits-zero, add_bits-same}
use Rattle.dmr_bptc.proofs.ParityLemmas.{equation_at, satisfies-from_each, satisfies_at, line_table}
use Rattle.dmr_bptc.proofs.OddSumLemmas.{odd_below, odd_below-same, odd_below-parity}
use Rattle.dmr_bptc.proofs.TableLemmas.{agree_in, agree_in_fours, agree_in_fours-at}
use Rattle.dmr_bptc.proofs.SumTableLemmas.{coefficient, line_place-lt}

-- ---- the tables

rows_right : agree_in_fours (λ row e. packed_bit (get_or (get_or ROW_MASKS row []) e []))
    (λ row e. coefficient (Row row) (equation_at row_equations e)) 196 13 ≡ true
unfolding agree_in_fours agree_in row_equations
rows_right = refl

columns_right : agree_in_fours (λ column e. packed_bit (get_or (get_or COLUMN_MASKS column []) e []))
    (λ column e. coefficient (Column column) (equation_at column_equations e)) 196 15 ≡ true
unfolding agree_in_fours agree_in column_equations
columns_right = refl

-- ---- even counts

odd_more : (b : Bool) (n : ℕ) → ((n + cond b 1 0) % 2 == 1) ≡ add_bits b (n % 2 == 1)
odd_more false n = let e : (n + 0) % 2 ≡ n % 2 = omega arith in ap (λ m. m == 1) e
odd_more true n = by_rest (n % 2) refl
  where
    by_rest : (m : ℕ) → m ≡ n % 2 → ((n + 1) % 2 == 1) ≡ add_bits true (n % 2 == 1)
    by_rest zero e = let next : (n + 1) % 2 ≡ 1 = omega arith in rw (next, sym e) refl
    by_rest (suc zero) e = let next : (n + 1) % 2 ≡ 0 = omega arith in rw (next, sym e) refl
    by_rest (suc (suc m)) e = absurd (omega arith)

-- a count is odd exactly if an odd number of places pass
count_odd : (passes : ℕ → Bool) (n : ℕ) → (count_from passes 0 n % 2 == 1) ≡ odd_below passes n
unfolding count_from odd_below
count_odd passes zero = refl
count_odd passes (suc n) = rw (zero-add n) (odd_more (passes n) (count_from passes 0 n) ∙ ap (add_bits (passes n)) (count_odd passes n))

even-from : (n : ℕ) → (n % 2 == 1) ≡ false → n % 2 ≡ 0
even-from n is = by_rest (n % 2) refl
  where
    by_rest : (m : ℕ) → m ≡ n % 2 → n % 2 ≡ 0
    by_rest zero e = sym e
    by_rest (suc zero) e = let odd : (n % 2 == 1) ≡ true = rw (sym e) refl in cc
    by_rest (suc (suc m)) e = absurd (omega arith)

-- the number of bits set under a mask with an equation's coefficients is odd exactly if the line fails the equation
under_mask : (word : List Bool) (mask : List ℕ) (line : GridLine) (e : ℕ × List ℕ) →
    ((place : ℕ) → place < 196 → packed_bit mask place ≡ coefficient line e place)
    → (set_under word mask % 2 == 1) ≡ parity (line_bit word line) (e.0 ∷ e.1)
under_mask word mask line e is =
    count_odd (λ place. word_bit word place && packed_bit mask place) 196
    ∙ odd_below-same (λ place. word_bit word place && packed_bit mask place) (λ place. word_bit word place && coefficient line e place) 196
    (λ q lt. ap (λ b. word_bit word q && b) (is q lt))
    ∙ odd_below-parity (word_bit word) (line_place line) 196 (line_place-lt line) (e.0 ∷ e.1)

-- the counts under the masks of a line's equations are even exactly if the line satisfies the equations
module _ (word : List Bool) (line : GridLine) (masks : List (List ℕ))
    (are : (e place : ℕ) → e < 4 → place < 196 → packed_bit (get_or masks e []) place ≡ coefficient line
    (equation_at (equations_of line) e) place) where
  is_under : (e : ℕ) → e < 4 → (set_under word (get_or masks e []) % 2 == 1) ≡ add_bits
      (line_bit word line (equation_at (equations_of line) e).0) (parity (line_bit word line) (equation_at (equations_of line) e).1)
  is_under e lt = under_mask word (get_or masks e []) line (equation_at (equations_of line) e) (λ place place_lt. are e place lt place_lt)

  pub satisfies-from_even : ((e : ℕ) → e < 4 → set_under word (get_or masks e []) % 2 ≡ 0) →
      Satisfies (equations_of line) (line_bit word line)
  satisfies-from_even even = satisfies-from_each (equations_of line) (line_bit word line) (λ e lt.
      let within : e < 4 = omega (arith, (line_table line).len) in
      add_bits-zero (line_bit word line (equation_at (equations_of line) e).0)
      (parity (line_bit word line) (equation_at (equations_of line) e).1)
      (sym (is_under e within) ∙ ap (λ n. n == 1) (even e within)))

  pub even-from_satisfies : Satisfies (equations_of line) (line_bit word line) → (e : ℕ) → e < 4 →
      set_under word (get_or masks e []) % 2 ≡ 0
  even-from_satisfies satisfies e lt =
      even-from (set_under word (get_or masks e []))
      (is_under e lt ∙ add_bits-same (line_bit word line (equation_at (equations_of line) e).0)
      (parity (line_bit word line) (equation_at (equations_of line) e).1)
      (satisfies_at (equations_of line) (line_bit word line) satisfies e (omega (arith, (line_table line).len))))

pub row_masks : (row : ℕ) → row < 13 → (e place : ℕ) → e < 4 → place < 196 →
    packed_bit (get_or (get_or ROW_MASKS row []) e []) place ≡ coefficient (Row row) (equation_at row_equations e) place
row_masks row lt e place e_lt place_lt =
    agree_in_fours-at (λ row e. packed_bit (get_or (get_or ROW_MASKS row []) e []))
    (λ row e. coefficient (Row row) (equation_at row_equations e)) 196 13 row e place rows_right lt e_lt place_lt

pub column_masks : (column : ℕ) → column < 15 → (e place : ℕ) → e < 4 → place < 196 →
    packed_bit (get_or (get_or COLUMN_MASKS column []) e []) place ≡ coefficient (Column column) (equation_at column_equations e) place
column_masks column lt e place e_lt place_lt =
    agree_in_fours-at (λ column e. packed_bit (get_or (get_or COLUMN_MASKS column []) e []))
    (λ column e. coefficient (Column column) (equation_at column_equations e)) 196 15 column e place columns_right lt e_lt place_lt
