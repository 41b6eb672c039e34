-- A sum of codewords is a codeword.
use Rattle.std.proofs.Common.{◌≡◌, ◌==◌, ℕ, zero, suc, ◌-◌, ◌/◌, ◌%◌, ◌^◌, ◌<◌, Bool, ◌&&◌, List, [], ◌∷◌, length, get_or, refl, ap, ◌∙◌}
use Rattle.std.proofs.Common.{arith}
use Rattle.std.specs.Int.{bit_at}
use Rattle.dmr_bits.specs.Bits.{octet_bit}
use Rattle.dmr_bits.specs.Packed.{packed_bit}
use Rattle.dmr_bptc.specs.Bptc.{row_equations, column_equations, cell, place_of, IsCodeword}
use Rattle.dmr_bptc.specs.Groups.{added, number_of_bit, numbers_added}
use Rattle.dmr_bptc.specs.Mending.{syndrome}
use Rattle.dmr_bptc.proofs.LineLemmas.{satisfies-from_syndrome, row_indices, column_indices}
use Rattle.dmr_bptc.proofs.ParityLemmas.{satisfies-same}
use Rattle.dmr_bptc.proofs.OddSumLemmas.{odd_below, satisfies-odd_below, added-bit}

-- one of four numbers, by its index
pub four_numbers : (f : ℕ → ℕ) (n : ℕ) → n < 4 → get_or (f 0 ∷ f 1 ∷ f 2 ∷ f 3 ∷ []) n 0 ≡ f n
four_numbers f zero lt = refl
four_numbers f (suc zero) lt = refl
four_numbers f (suc (suc zero)) lt = refl
four_numbers f (suc (suc (suc zero))) lt = refl
four_numbers f (suc (suc (suc (suc n)))) lt = absurd (omega arith)

-- a bit of the four numbers that the set bits of octets add up to
pub bit-of_sum : (entries : List (List (List ℕ))) (octets : List ℕ) (n place : ℕ) → place < 256
    → packed_bit (numbers_added entries octets n) place ≡ odd_below
    (λ k. octet_bit octets k && (bit_at (number_of_bit entries (place / 64) k) (63 - place % 64) == 1)) n
bit-of_sum entries octets n place lt =
    ap (λ m. m / 2 ^ (63 - place % 64) % 2 == 1)
    (four_numbers (λ part. added (octet_bit octets) (number_of_bit entries part) n) (place / 64) (omega arith))
    ∙ added-bit (octet_bit octets) (number_of_bit entries (place / 64)) (63 - place % 64) n

-- a word is a codeword if each of its bits is a sum of the bits there of codewords; `code k` is that of summand k
pub codeword-from_sum : (bit : ℕ → Bool) (code : ℕ → ℕ → Bool) (n : ℕ) (word : List Bool) → length word ≡ 196
    → ((row column : ℕ) → cell word row column ≡ odd_below (λ k. bit k && code k (place_of row column)) n)
    → ((k row : ℕ) → k < n → row < 13 → syndrome row_equations (λ column. code k (place_of row column)) ≡ 0)
    → ((k column : ℕ) → k < n → column < 15 → syndrome column_equations (λ row. code k (place_of row column)) ≡ 0)
    → IsCodeword word
codeword-from_sum bit code n word len is rows columns = record {
  len = len;
  rows = λ row lt. satisfies-same row_equations (λ column. cell word row column)
      (λ column. odd_below (λ k. bit k && code k (place_of row column)) n) 15 row_indices (λ column _. is row column)
      (satisfies-odd_below row_equations bit (λ k column. code k (place_of row column)) n (λ k k_lt.
      satisfies-from_syndrome row_equations (λ column. code k (place_of row column)) (rows k row k_lt lt)));
  columns = λ column lt. satisfies-same column_equations (λ row. cell word row column)
      (λ row. odd_below (λ k. bit k && code k (place_of row column)) n) 13 column_indices (λ row _. is row column)
      (satisfies-odd_below column_equations bit (λ k row. code k (place_of row column)) n (λ k k_lt.
      satisfies-from_syndrome column_equations (λ row. code k (place_of row column)) (columns k column k_lt lt)));
}
