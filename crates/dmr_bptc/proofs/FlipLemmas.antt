-- The sums of a word in which one place is turned over: each changes by what the place adds.
use Rattle.std.proofs.Common.{◌≡◌, ◌==◌, ℕ, zero, suc, ◌+◌, ◌-◌, ◌*◌, ◌/◌, ◌%◌, ◌^◌, ◌<◌, Bool, true, false, not, cond, List, [], ◌∷◌}
use Rattle.std.proofs.Common.{get_or, bit_xor, refl, sym, ap, ◌∙◌, arith}
use Rattle.std.specs.Int.{bit_at}
use Rattle.std.proofs.lemmas.Nat.{xor_lt}
use Rattle.std.proofs.lemmas.Nat.Bits.{bit_at_xor}
use Rattle.dmr_bits.specs.Words.{word_bit}
use Rattle.dmr_bits.specs.Packed.{packed_bit}
use Rattle.dmr_bptc.specs.declared.layout.GridLine.{GridLine}
use Rattle.dmr_bptc.specs.declared.layout.GridLine.TheVariants.{Row, Column}
use Rattle.dmr_bptc.specs.Bptc.{add_bits, parity, place_of}
use Rattle.dmr_bptc.specs.Lines.{line_place, line_bit, equations_of}
use Rattle.dmr_bptc.specs.Mending.{fails, syndrome}
use Rattle.dmr_bptc.specs.Sums.{AreSums, IsFlipped}
use Rattle.dmr_bptc.proofs.BitSumLemmas.{parity-add, parity-all}
use Rattle.dmr_bptc.proofs.ParityLemmas.{equation_at}
use Rattle.dmr_bptc.proofs.OddSumLemmas.{odd_pair}
use Rattle.dmr_bptc.proofs.SumTableLemmas.{sum_number, sum_entry, coefficient, bit_cond, four_of, syndrome-four, column_bit, row_bit}
use Rattle.dmr_bptc.proofs.SumTableLemmas.{column_number-lt, row_number-lt, information_bit}

-- ---- bits

add_bits-swap : (a b : Bool) → add_bits a b ≡ add_bits b a
add_bits-swap true true = refl
add_bits-swap true false = refl
add_bits-swap false true = refl
add_bits-swap false false = refl

turned : (here b : Bool) → cond here (not b) b ≡ add_bits b here
turned true true = refl
turned true false = refl
turned false true = refl
turned false false = refl

flipped_bit : (word flipped : List Bool) (place q : ℕ) → IsFlipped place word flipped →
    word_bit flipped q ≡ add_bits (word_bit word q) (q == place)
flipped_bit word flipped place q is = is.bits q ∙ turned (q == place) (word_bit word q)

-- an equation's failure turns over if the place is that of an odd number of the equation's bits
odd_sum : (a b : Bool) → cond {A = ℕ} (add_bits a b) 1 0 ≡ (cond a 1 0 + cond b 1 0) % 2
odd_sum true true = refl
odd_sum true false = refl
odd_sum false true = refl
odd_sum false false = refl

cond-small : (b : Bool) → cond {A = ℕ} b 1 0 < 2
cond-small true = omega arith
cond-small false = omega arith

-- a number of four bits has these bits alone
four_digits : (a b c d x y z w : ℕ) → a < 2 → b < 2 → c < 2 → d < 2 → x < 2 → y < 2 → z < 2 → w < 2 →
    8 * a + 4 * b + 2 * c + d ≡ 8 * x + 4 * y + 2 * z + w → (a ≡ x) × (b ≡ y) × (c ≡ z) × (d ≡ w)
four_digits a b c d x y z w a_lt b_lt c_lt d_lt x_lt y_lt z_lt w_lt same = (omega arith, omega arith, omega arith, omega arith)

module _ (word flipped : List Bool) (place : ℕ) (is : IsFlipped place word flipped) where
  flipped_fails : (line : GridLine) (e : ℕ × List ℕ) → fails (line_bit flipped line) e ≡
      (fails (line_bit word line) e + cond (coefficient line e place) 1 0) % 2
  flipped_fails line e =
      ap {B = ℕ} (λ b. cond b 1 0)
      (parity-all (line_bit flipped line) (λ k. add_bits (line_bit word line k) (line_place line k == place)) (e.0 ∷ e.1)
      (λ k. flipped_bit word flipped place (line_place line k) is)
      ∙ parity-add (line_bit word line) (λ k. line_place line k == place) (e.0 ∷ e.1))
      ∙ odd_sum (parity (line_bit word line) (e.0 ∷ e.1)) (coefficient line e place)

  -- four bits of a sum to which is added what the place adds
  flipped_syndrome : (line : GridLine) (sum number s : ℕ) → sum / 2 ^ s % 16 ≡ syndrome (equations_of line) (line_bit word line)
      → ((e : ℕ) → e < 4 → (bit_at number (s + (3 - e)) == 1) ≡ coefficient line (equation_at (equations_of line) e) place)
      → bit_xor sum number / 2 ^ s % 16 ≡ syndrome (equations_of line) (line_bit flipped line)
  flipped_syndrome line sum number s before adds =
      let added : (e : ℕ) → e < 4 → bit_at number (s + (3 - e)) ≡ cond (coefficient line (equation_at (equations_of line) e) place) 1 0 =
      λ e lt. bit_cond (bit_at number (s + (3 - e))) (omega arith) ∙ ap {B = ℕ} (λ b. cond b 1 0) (adds e lt) in
      let now : (e : ℕ) → e < 4 → bit_at sum (s + (3 - e)) ≡ fails (line_bit word line) (equation_at (equations_of line) e) →
      bit_at (bit_xor sum number) (s + (3 - e)) ≡ fails (line_bit flipped line) (equation_at (equations_of line) e) =
      λ e lt same. bit_at_xor sum number (s + (3 - e)) ∙ (λ i. (same i + added e lt i) % 2)
      ∙ sym (flipped_fails line (equation_at (equations_of line) e)) in
      let small : (e : ℕ) → fails (line_bit word line) (equation_at (equations_of line) e) < 2 = λ e. cond-small
      (parity (line_bit word line) ((equation_at (equations_of line) e).0 ∷ (equation_at (equations_of line) e).1)) in
      let same = four_digits (bit_at sum (s + 3)) (bit_at sum (s + 2)) (bit_at sum (s + 1)) (bit_at sum (s + 0))
      (fails (line_bit word line) (equation_at (equations_of line) 0)) (fails (line_bit word line) (equation_at (equations_of line) 1))
      (fails (line_bit word line) (equation_at (equations_of line) 2)) (fails (line_bit word line) (equation_at (equations_of line) 3))
      (omega arith) (omega arith) (omega arith) (omega arith) (small 0) (small 1) (small 2) (small 3)
      (sym (four_of sum s) ∙ before ∙ sym (syndrome-four line (line_bit word line))) in
      four_of (bit_xor sum number) s
      ∙ omega (
        arith,
        now 0 (omega arith) same.0,
        now 1 (omega arith) same.1,
        now 2 (omega arith) same.2,
        now 3 (omega arith) same.3,
        syndrome-four line (line_bit flipped line),
      )

  -- an information bit of two numbers to which are added what the place adds
  flipped_information : (high low a b k bit : ℕ) → k < 96 → packed_bit (high ∷ low ∷ []) k ≡ word_bit word bit →
      (bit_at (get_or (a ∷ b ∷ []) (k / 64) 0) (63 - k % 64) == 1) ≡ (bit == place)
      → packed_bit (bit_xor high a ∷ bit_xor low b ∷ []) k ≡ word_bit flipped bit
  flipped_information high low a b k bit lt before adds =
      ap (λ n. bit_at n (63 - k % 64) == 1) (both (k / 64) (omega arith))
      ∙ ap (λ n. n == 1) (bit_at_xor (get_or (high ∷ low ∷ []) (k / 64) 0) (get_or (a ∷ b ∷ []) (k / 64) 0) (63 - k % 64))
      ∙ odd_pair (bit_at (get_or (high ∷ low ∷ []) (k / 64) 0) (63 - k % 64)) (bit_at (get_or (a ∷ b ∷ []) (k / 64) 0) (63 - k % 64))
      (omega arith) (omega arith)
      ∙ (λ i. add_bits (adds i) (before i))
      ∙ add_bits-swap (bit == place) (word_bit word bit)
      ∙ sym (flipped_bit word flipped place bit is)
    where
      both : (n : ℕ) → n < 2 → get_or (bit_xor high a ∷ bit_xor low b ∷ []) n 0 ≡ bit_xor (get_or (high ∷ low ∷ []) n 0)
          (get_or (a ∷ b ∷ []) n 0)
      both zero n_lt = refl
      both (suc zero) n_lt = refl
      both (suc (suc n)) n_lt = absurd (omega arith)

-- ---- what a place adds

two_numbers : (place n : ℕ) → n < 2 → get_or (sum_number 2 place ∷ sum_number 3 place ∷ []) n 0 ≡ sum_number (2 + n) place
two_numbers place zero lt = refl
two_numbers place (suc zero) lt = refl
two_numbers place (suc (suc n)) lt = absurd (omega arith)

pub are_sums-flipped : (word flipped : List Bool) (place columns rows high low : ℕ) → place < 196 → IsFlipped place word flipped
    → AreSums word (record { columns = columns; rows = rows; high = high; low = low })
    → AreSums flipped (record {
      columns = bit_xor columns (sum_number 0 place);
      rows = bit_xor rows (sum_number 1 place);
      high = bit_xor high (sum_number 2 place);
      low = bit_xor low (sum_number 3 place);
    })
are_sums-flipped word flipped place columns rows high low lt is before = record {
  len = is.len;
  columns = λ column column_lt. flipped_syndrome word flipped place is (Column column) columns (sum_number 0 place) (4 * column)
      (before.columns column column_lt) (λ e e_lt. column_bit column e place column_lt e_lt lt);
  rows = λ row row_lt. flipped_syndrome word flipped place is (Row row) rows (sum_number 1 place) (4 * row) (before.rows row row_lt)
      (λ e e_lt. row_bit row e place row_lt e_lt lt);
  small_columns = xor_lt 60 columns (sum_number 0 place) before.small_columns (column_number-lt place lt);
  small_rows = xor_lt 52 rows (sum_number 1 place) before.small_rows (row_number-lt place lt);
  information = λ k k_lt. flipped_information word flipped place is high low (sum_number 2 place) (sum_number 3 place) k
      (place_of ((k + 3) / 11) ((k + 3) % 11)) k_lt (before.information k k_lt)
      (ap (λ n. bit_at n (63 - k % 64) == 1) (two_numbers place (k / 64) (omega arith)) ∙ information_bit k place k_lt lt);
}

-- the entry of a single place
single : (m : ℕ) → m < 4 → 2 ^ (3 - m) ≡ 8 / 2 ^ m
single zero lt = refl
single (suc zero) lt = refl
single (suc (suc zero)) lt = refl
single (suc (suc (suc zero))) lt = refl
single (suc (suc (suc (suc m)))) lt = absurd (omega arith)

pub sum_number-entry : (part place : ℕ) → sum_number part place ≡ sum_entry part (place / 4) (8 / 2 ^ (place % 4))
unfolding sum_number sum_entry
sum_number-entry part place = ap (sum_entry part (place / 4)) (single (place % 4) (omega arith))
