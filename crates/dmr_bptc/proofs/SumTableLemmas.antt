-- The table of sums is that of the equations, the interleaving and the cells of the information.
use Rattle.std.proofs.Common.{◌≡◌, ◌==◌, ℕ, zero, suc, ◌+◌, ◌-◌, ◌*◌, ◌/◌, ◌%◌, ◌^◌, ◌<◌, Bool, true, cond, ◌&&◌, List, [], ◌∷◌, get_or}
use Rattle.std.proofs.Common.{refl, ap, ◌∙◌, arith, ltb}
use Rattle.std.specs.Int.{bit_at}
use Rattle.std.proofs.lemmas.Bool.{agree_below, agree_below_at, eqb-true, ltb-true}
use Rattle.std.proofs.lemmas.Nat.{shr-shr}
use Rattle.dmr_bits.specs.Words.{word_bit}
use Rattle.dmr_bits.specs.Packed.{packed_bit}
use Rattle.dmr_bptc.specs.Groups.{added}
use Rattle.dmr_bptc.specs.declared.layout.GridLine.{GridLine}
use Rattle.dmr_bptc.specs.declared.layout.GridLine.TheVariants.{Row, Column}
use Rattle.dmr_bptc.specs.declared.sum_table.TheConstants.{SUMS}
use Rattle.dmr_bptc.specs.Bptc.{parity, row_equations, column_equations, cell, place_of}
use Rattle.dmr_bptc.specs.Lines.{line_place, line_bit, equations_of}
use Rattle.dmr_bptc.specs.Mending.{fails, syndrome}
use Rattle.dmr_bptc.proofs.TableLemmas.{agree_in, agree_in-at, agree_in_fours, agree_in_fours-at}
use Rattle.dmr_bptc.proofs.ParityLemmas.{equation_at}
use Rattle.dmr_bptc.proofs.OddSumLemmas.{odd_below-same, odd_below-one, odd_below-parity, added-bit, added-lt, added_by}

-- ---- the entries

-- one number of an entry
unfoldable pub sum_entry : ℕ → ℕ → ℕ → ℕ
sum_entry part k value = get_or (get_or (get_or SUMS.entries k []) value []) part 0

-- the number that one place adds
unfoldable pub sum_number : ℕ → ℕ → ℕ
sum_number part place = get_or (get_or (get_or SUMS.entries (place / 4) []) (2 ^ (3 - place % 4)) []) part 0

-- the entries of a group of four add the same as its places one by one
entries_right : agree_in_fours (λ k part value. sum_entry part k value == added_by (sum_number part) k value)
    (λ k part value. true) 16 49 ≡ true
unfolding agree_in_fours agree_in sum_entry sum_number added_by added
entries_right = refl

pub sum_entry-is : (part k value : ℕ) → part < 4 → k < 49 → value < 16 → sum_entry part k value ≡ added_by (sum_number part) k value
sum_entry-is part k value part_lt k_lt lt =
    eqb-true _ _ (agree_in_fours-at (λ k part value. sum_entry part k value == added_by (sum_number part) k value)
    (λ k part value. true) 16 49
    k part value entries_right k_lt part_lt lt)

-- ---- syndromes

-- the coefficient of a place in an equation of a line: how often, modulo 2, a bit of the equation has this place
abbrev pub coefficient : GridLine → ℕ × List ℕ → ℕ → Bool
coefficient line e place = parity (λ k. line_place line k == place) (e.0 ∷ e.1)

-- one bit of the number that a place adds has the coefficients of the equation of a column, or of a row
abbrev bit_of : ℕ → ℕ → ℕ → ℕ → Bool
bit_of part line e place = bit_at (sum_number part place) (4 * line + (3 - e)) == 1

columns_right : agree_in_fours (bit_of 0) (λ column e. coefficient (Column column) (equation_at column_equations e)) 196 15 ≡ true
unfolding agree_in_fours agree_in column_equations sum_number
columns_right = refl

rows_right : agree_in_fours (bit_of 1) (λ row e. coefficient (Row row) (equation_at row_equations e)) 196 13 ≡ true
unfolding agree_in_fours agree_in row_equations sum_number
rows_right = refl

pub column_bit : (column e place : ℕ) → column < 15 → e < 4 → place < 196 →
    (bit_at (sum_number 0 place) (4 * column + (3 - e)) == 1) ≡ coefficient (Column column) (equation_at column_equations e) place
column_bit column e place lt e_lt place_lt =
    agree_in_fours-at (bit_of 0) (λ column e. coefficient (Column column) (equation_at column_equations e)) 196 15
    column e place columns_right lt e_lt place_lt

pub row_bit : (row e place : ℕ) → row < 13 → e < 4 → place < 196 →
    (bit_at (sum_number 1 place) (4 * row + (3 - e)) == 1) ≡ coefficient (Row row) (equation_at row_equations e) place
row_bit row e place lt e_lt place_lt =
    agree_in_fours-at (bit_of 1) (λ row e. coefficient (Row row) (equation_at row_equations e)) 196 13
    row e place rows_right lt e_lt place_lt

pub line_place-lt : (line : GridLine) (k : ℕ) → line_place line k < 196
line_place-lt (Row row) k = omega arith
line_place-lt (Column column) k = omega arith

pub bit_cond : (m : ℕ) → m < 2 → m ≡ cond (m == 1) 1 0
bit_cond zero lt = refl
bit_cond (suc zero) lt = refl
bit_cond (suc (suc m)) lt = absurd (omega arith)

pub syndrome-four : (line : GridLine) (bit : ℕ → Bool)
    → 8 * fails bit (equation_at (equations_of line) 0) + 4 * fails bit (equation_at (equations_of line) 1) + 2 * fails bit
    (equation_at (equations_of line) 2) + fails bit (equation_at (equations_of line) 3) ≡ syndrome (equations_of line) bit
unfolding row_equations column_equations
syndrome-four (Row row) bit = omega arith
syndrome-four (Column column) bit = omega arith

-- if the numbers have an equation's coefficients in a bit, that bit of their sum is 1 exactly if the line fails the
-- equation
failure_bit : (word : List Bool) (line : GridLine) (e : ℕ × List ℕ) (number : ℕ → ℕ) (j : ℕ)
    → ((place : ℕ) → place < 196 → (bit_at (number place) j == 1) ≡ coefficient line e place)
    → bit_at (added (word_bit word) number 196) j ≡ fails (line_bit word line) e
failure_bit word line e number j is =
    bit_cond (bit_at (added (word_bit word) number 196) j) (omega arith)
    ∙ ap (λ b. cond b 1 0)
    (added-bit (word_bit word) number j 196
    ∙ odd_below-same (λ q. word_bit word q && (bit_at (number q) j == 1)) (λ q. word_bit word q && coefficient line e q) 196
    (λ q lt. ap (λ b. word_bit word q && b) (is q lt))
    ∙ odd_below-parity (word_bit word) (line_place line) 196 (line_place-lt line) (e.0 ∷ e.1))

-- four bits of a number, by their places
pub four_of : (n s : ℕ) → n / 2 ^ s % 16 ≡ 8 * bit_at n (s + 3) + 4 * bit_at n (s + 2) + 2 * bit_at n (s + 1) + bit_at n (s + 0)
four_of n s =
    let third : n / 2 ^ s / 2 ^ 3 ≡ n / 2 ^ (s + 3) = shr-shr n s 3 in
    let second : n / 2 ^ s / 2 ^ 2 ≡ n / 2 ^ (s + 2) = shr-shr n s 2 in
    let first : n / 2 ^ s / 2 ^ 1 ≡ n / 2 ^ (s + 1) = shr-shr n s 1 in
    let none : n / 2 ^ s / 2 ^ 0 ≡ n / 2 ^ (s + 0) = shr-shr n s 0 in
    omega (arith, third, second, first, none)

-- four bits of the sum are the syndrome of the line
syndrome_bits : (word : List Bool) (line : GridLine) (number : ℕ → ℕ) (s : ℕ)
    → ((e place : ℕ) → e < 4 → place < 196 → (bit_at (number place) (s + (3 - e)) == 1) ≡ coefficient line
    (equation_at (equations_of line) e) place)
    → added (word_bit word) number 196 / 2 ^ s % 16 ≡ syndrome (equations_of line) (line_bit word line)
syndrome_bits word line number s is =
    let bit : (e : ℕ) → e < 4 → bit_at (added (word_bit word) number 196) (s + (3 - e)) ≡ fails (line_bit word line)
    (equation_at (equations_of line) e) =
    λ e lt. failure_bit word line (equation_at (equations_of line) e) number (s + (3 - e)) (λ place place_lt. is e place lt place_lt) in
    four_of (added (word_bit word) number 196) s
    ∙ omega (
      arith,
      bit 0 (omega arith),
      bit 1 (omega arith),
      bit 2 (omega arith),
      bit 3 (omega arith),
      syndrome-four line (line_bit word line),
    )

pub columns-are : (word : List Bool) (column : ℕ) → column < 15 → added (word_bit word) (sum_number 0) 196 / 2 ^
    (4 * column) % 16 ≡ syndrome column_equations (λ row. cell word row column)
columns-are word column lt =
    syndrome_bits word (Column column) (sum_number 0) (4 * column) (λ e place e_lt place_lt. column_bit column e place lt e_lt place_lt)

pub rows-are : (word : List Bool) (row : ℕ) → row < 13 → added (word_bit word) (sum_number 1) 196 / 2 ^
    (4 * row) % 16 ≡ syndrome row_equations (λ column. cell word row column)
rows-are word row lt = syndrome_bits word (Row row) (sum_number 1) (4 * row) (λ e place e_lt place_lt. row_bit row e place lt e_lt place_lt)

-- ---- bounds

columns_small : agree_below (λ place. ltb (sum_number 0 place) (2 ^ 60)) (λ _. true) 196 ≡ true
unfolding sum_number
columns_small = refl

rows_small : agree_below (λ place. ltb (sum_number 1 place) (2 ^ 52)) (λ _. true) 196 ≡ true
unfolding sum_number
rows_small = refl

pub column_number-lt : (place : ℕ) → place < 196 → sum_number 0 place < 2 ^ 60
column_number-lt place lt = ltb-true (sum_number 0 place) (2 ^ 60)
    (agree_below_at (λ place. ltb (sum_number 0 place) (2 ^ 60)) (λ _. true) 196 place columns_small lt)

pub row_number-lt : (place : ℕ) → place < 196 → sum_number 1 place < 2 ^ 52
row_number-lt place lt =
    ltb-true (sum_number 1 place) (2 ^ 52) (agree_below_at (λ place. ltb (sum_number 1 place) (2 ^ 52)) (λ _. true) 196 place rows_small lt)

pub columns-lt : (bit : ℕ → Bool) → added bit (sum_number 0) 196 < 2 ^ 60
columns-lt bit = added-lt bit (sum_number 0) 60 196 column_number-lt

pub rows-lt : (bit : ℕ → Bool) → added bit (sum_number 1) 196 < 2 ^ 52
rows-lt bit = added-lt bit (sum_number 1) 52 196 row_number-lt

-- ---- information

-- one bit of the number that a place adds is 1 only at the place of the information bit
abbrev adds_bit : ℕ → ℕ → Bool
adds_bit k place = bit_at (sum_number (2 + k / 64) place) (63 - k % 64) == 1

information_right : agree_in adds_bit (λ k place. place_of ((k + 3) / 11) ((k + 3) % 11) == place) 196 96 ≡ true
unfolding agree_in sum_number
information_right = refl

pub information_bit : (k place : ℕ) → k < 96 → place < 196 →
    (bit_at (sum_number (2 + k / 64) place) (63 - k % 64) == 1) ≡ (place_of ((k + 3) / 11) ((k + 3) % 11) == place)
information_bit k place lt place_lt =
    agree_in-at adds_bit (λ k place. place_of ((k + 3) / 11) ((k + 3) % 11) == place) 196 96 k place information_right lt place_lt

two_words : (f : ℕ → ℕ) (n : ℕ) → n < 2 → get_or (f 2 ∷ f 3 ∷ []) n 0 ≡ f (2 + n)
two_words f zero lt = refl
two_words f (suc zero) lt = refl
two_words f (suc (suc n)) lt = absurd (omega arith)

pub information-is : (word : List Bool) (k : ℕ) → k < 96
    → packed_bit (added (word_bit word) (sum_number 2) 196 ∷ added (word_bit word) (sum_number 3) 196 ∷ []) k ≡ cell word ((k + 3) / 11)
    ((k + 3) % 11)
information-is word k lt =
    let place : ℕ = place_of ((k + 3) / 11) ((k + 3) % 11) in
    ap (λ n. n / 2 ^ (63 - k % 64) % 2 == 1) (two_words (λ part. added (word_bit word) (sum_number part) 196) (k / 64) (omega arith))
    ∙ added-bit (word_bit word) (sum_number (2 + k / 64)) (63 - k % 64) 196
    ∙ odd_below-same (λ q. word_bit word q && (bit_at (sum_number (2 + k / 64) q) (63 - k % 64) == 1))
    (λ q. word_bit word q && (place_of ((k + 3) / 11) ((k + 3) % 11) == q)) 196
    (λ q q_lt. ap (λ b. word_bit word q && b) (information_bit k q lt q_lt))
    ∙ odd_below-one (word_bit word) (place_of ((k + 3) / 11) ((k + 3) % 11)) 196 (omega arith)
