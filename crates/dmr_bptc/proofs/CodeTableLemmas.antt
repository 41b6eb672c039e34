-- The table of codewords is that of the equations, the interleaving and the information's cells.
use Rattle.std.proofs.Common.{◌≡◌, ◌==◌, ℕ, ◌+◌, ◌-◌, ◌/◌, ◌%◌, ◌^◌, ◌<◌, ◌≤◌, Bool, true, false, ◌&&◌, List, length, get_or, refl, sym, ap}
use Rattle.std.proofs.Common.{◌∙◌, arith, ⊎_elim}
use Rattle.std.specs.Int.{bit_at}
use Rattle.std.proofs.Math.Nat.{zero-div}
use Rattle.std.proofs.lemmas.Bool.{agree_below, agree_below_at, eqb-true, cases_lt}
use Rattle.std.proofs.lemmas.List.{get_or_past}
use Rattle.dmr_bits.specs.Bits.{octet_bit}
use Rattle.dmr_bits.specs.Words.{word_bit}
use Rattle.dmr_bits.specs.Packed.{packed_bit}
use Rattle.dmr_bptc.specs.Groups.{added, number_at, number_of_bit, AreSumsOfBits, numbers_added}
use Rattle.dmr_bptc.specs.declared.encoding.TheConstants.{ENCODED}
use Rattle.dmr_bptc.specs.Bptc.{row_equations, column_equations, cell, place_of, IsEncoding}
use Rattle.dmr_bptc.specs.Mending.{syndrome}
use Rattle.dmr_bptc.proofs.TableLemmas.{agree_in, agree_in-at, agree_in_fours, agree_in_fours-at}
use Rattle.dmr_bptc.proofs.CodewordSumLemmas.{bit-of_sum, codeword-from_sum}
use Rattle.dmr_bptc.proofs.OddSumLemmas.{odd_below, odd_below-same, odd_below-none, odd_below-one, added_by}
use Rattle.std.proofs.Math.Bool.{and-false}

-- ---- the entries

-- one number of an entry
unfoldable pub code_entry : ℕ → ℕ → ℕ → ℕ
code_entry part k value = number_at ENCODED.entries part k value

-- the number that one information bit adds
unfoldable pub code_number : ℕ → ℕ → ℕ
code_number part k = number_of_bit ENCODED.entries part k

-- the entries of a group of four add the same as its bits one by one
entries_right : agree_in_fours (λ k part value. code_entry part k value == added_by (code_number part) k value)
    (λ k part value. true) 16 24 ≡ true
unfolding agree_in_fours agree_in code_entry code_number added_by added
entries_right = refl

code_entry-is : (part k value : ℕ) → part < 4 → k < 24 → value < 16 → code_entry part k value ≡ added_by (code_number part) k value
code_entry-is part k value part_lt k_lt lt =
    eqb-true _ _ (agree_in_fours-at (λ k part value. code_entry part k value == added_by (code_number part) k value)
    (λ k part value. true) 16 24
    k part value entries_right k_lt part_lt lt)

pub encoded-sums : AreSumsOfBits ENCODED.entries
unfolding code_entry code_number added_by
encoded-sums part group value part_lt group_lt lt = code_entry-is part group value part_lt group_lt lt

-- ---- the codeword of one information bit

-- bit `place` of the codeword of information bit k
unfoldable pub code_bit : ℕ → ℕ → Bool
code_bit k place = bit_at (code_number (place / 64) k) (63 - place % 64) == 1

-- it satisfies the equations of each row and of each column
abbrev row_syndrome : ℕ → ℕ → ℕ
row_syndrome k row = syndrome row_equations (λ column. code_bit k (place_of row column))

rows_right : agree_in (λ k row. row_syndrome k row == 0) (λ k row. true) 13 96 ≡ true
unfolding agree_in row_equations code_bit code_number
rows_right = refl

abbrev column_syndrome : ℕ → ℕ → ℕ
column_syndrome k column = syndrome column_equations (λ row. code_bit k (place_of row column))

columns_right : agree_in (λ k column. column_syndrome k column == 0) (λ k column. true) 15 96 ≡ true
unfolding agree_in column_equations code_bit code_number
columns_right = refl

-- only the codeword of information bit j has a 1 in the cell of that bit
abbrev in_cell_of : ℕ → ℕ → Bool
in_cell_of j k = code_bit k (place_of ((j + 3) / 11) ((j + 3) % 11))

information_right : agree_in in_cell_of (λ j k. j == k) 96 96 ≡ true
unfolding agree_in code_bit code_number
information_right = refl

-- none of the codewords of the first `count` information bits has a 1 at this place
unfoldable none_has : ℕ → ℕ → Bool
none_has place count = agree_below (λ k. code_bit k place) (λ _. false) count

none_has-at : (place count k : ℕ) → none_has place count ≡ true → k < count → code_bit k place ≡ false
unfolding none_has
none_has-at place count k all lt = agree_below_at (λ k. code_bit k place) (λ _. false) count k all lt

free_right : none_has 0 96 ≡ true
unfolding none_has code_bit code_number
free_right = refl

reserved_right : agree_below (λ column. none_has (place_of 0 column) 96) (λ _. true) 3 ≡ true
unfolding none_has code_bit code_number
reserved_right = refl

after_right : agree_below (λ n. none_has (196 + n) 96) (λ _. true) 60 ≡ true
unfolding none_has code_bit code_number
after_right = refl

-- ---- the sum of codewords

-- bit `place` of the sum of the codewords of the set information bits
abbrev pub sum_bit : List ℕ → ℕ → Bool
sum_bit octets place = odd_below (λ k. octet_bit octets k && code_bit k place) 96

none : (octets : List ℕ) (place : ℕ) → none_has place 96 ≡ true → sum_bit octets place ≡ false
none octets place is = odd_below-none (λ k. octet_bit octets k && code_bit k place) 96
    (λ k lt. ap (λ b. octet_bit octets k && b) (none_has-at place 96 k is lt) ∙ and-false (octet_bit octets k))

-- the four numbers that the table's entries add up to
abbrev pub code_words : List ℕ → List ℕ
code_words octets = numbers_added ENCODED.entries octets 96

packed_bit-code_words : (octets : List ℕ) (place : ℕ) → place < 256 → packed_bit (code_words octets) place ≡ sum_bit octets place
unfolding code_bit code_number
packed_bit-code_words octets place lt = bit-of_sum ENCODED.entries octets 96 place lt

pub code_words-after : (octets : List ℕ) (q : ℕ) → 196 ≤ q → packed_bit (code_words octets) q ≡ false
code_words-after octets q le =
    ⊎_elim
    (λ (lt : q < 256).
    let at : 196 + (q - 196) ≡ q = omega arith in
    packed_bit-code_words octets q lt
    ∙ none octets q (ap (λ place. none_has place 96) (sym at) ∙ agree_below_at (λ n. none_has (196 + n) 96) (λ _. true) 60
    (q - 196) after_right (omega arith)))
    (λ (past : 256 ≤ q). let gone : get_or (code_words octets) (q / 64) 0 ≡ 0 = get_or_past (code_words octets) (q / 64) 0 (omega arith) in
    rw (gone, zero-div (2 ^ (63 - q % 64))) refl)
    (cases_lt q 256)

-- a word with the bits of those numbers is the encoding
pub encoding-is : (octets : List ℕ) (word : List Bool) → length word ≡ 196 →
    ((q : ℕ) → word_bit word q ≡ packed_bit (code_words octets) q) → IsEncoding octets word
encoding-is octets word len bits =
    let is : (row column : ℕ) → cell word row column ≡ sum_bit octets (place_of row column) = λ row column. bits (place_of row column)
    ∙ packed_bit-code_words octets (place_of row column) (omega arith) in
    record {
      is_codeword = codeword-from_sum (octet_bit octets) code_bit 96 word len is
          (λ k row k_lt lt. eqb-true _ _ (agree_in-at (λ k row. row_syndrome k row == 0) (λ k row. true) 13 96 k row rows_right k_lt lt))
          (λ k column k_lt lt. eqb-true _ _
          (agree_in-at (λ k column. column_syndrome k column == 0) (λ k column. true) 15 96 k column columns_right k_lt lt));
      information = λ j lt. sym (
          is ((j + 3) / 11) ((j + 3) % 11)
          ∙ odd_below-same (λ k. octet_bit octets k && code_bit k (place_of ((j + 3) / 11) ((j + 3) % 11)))
          (λ k. octet_bit octets k && (j == k)) 96
          (λ k k_lt. ap (λ b. octet_bit octets k && b) (agree_in-at in_cell_of (λ j k. j == k) 96 96 j k information_right lt k_lt))
          ∙ odd_below-one (octet_bit octets) j 96 lt);
      free = bits 0 ∙ packed_bit-code_words octets 0 (omega arith) ∙ none octets 0 free_right;
      reserved = λ column lt. is 0 column ∙ none octets (place_of 0 column)
          (agree_below_at (λ column. none_has (place_of 0 column) 96) (λ _. true) 3 column reserved_right lt);
    }
