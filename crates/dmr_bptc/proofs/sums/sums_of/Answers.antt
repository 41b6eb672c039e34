use Rattle.std.proofs.Common.{◌≡◌, ℕ, ◌+◌, ◌-◌, ◌*◌, ◌/◌, ◌%◌, ◌^◌, ◌<◌, [], ◌∷◌, List, Bool, refl, bit_and, bit_xor, ap, sym, subst, ◌∙◌}
use Rattle.std.proofs.Common.{arith}
use Rattle.std.proofs.lemmas.Nat.{and_mask}
use Rattle.dmr_bits.specs.Bits.{bits_value}
use Rattle.dmr_bits.specs.Words.{word_bit}
use Rattle.dmr_bits.specs.Packed.{packed_bit}
use Rattle.dmr_bits.proofs.Laws.{bits_value-lt, bits_value-field}
use Rattle.dmr_bptc.specs.Groups.{added}
use Rattle.dmr_bptc.proofs.OddSumLemmas.{added_by, added-four}
use Rattle.dmr_bptc.proofs.SumTableLemmas.{sum_number, sum_entry, sum_entry-is, columns-are, rows-are, columns-lt, rows-lt, information-is}
use Rattle.dmr_bptc.proofs.sums.sums_of.Goals as goal

pub loop-k-init : goal.loop-k-init
unfolding added
loop-k-init c = record { columns = refl; rows = refl; high = refl; low = refl }

-- four bits in a number of 64 bits
four_of_part : (bit : ℕ → Bool) (k j part : ℕ) → j < 16 → part ≡ bits_value bit (64 * k) 64 →
    bit_and (part / 2 ^ (60 - 4 * j)) 15 ≡ bits_value bit (4 * (16 * k + j)) 4
four_of_part bit k j part lt is =
    and_mask (part / 2 ^ (60 - 4 * j)) 4
    ∙ ap (λ n. n / 2 ^ (60 - 4 * j) % 2 ^ 4) is
    ∙ bits_value-field bit (64 * k) 64 (4 * (16 * k + j)) 4 (60 - 4 * j) (omega arith) (omega arith)

step : (word : List Bool) (number k j part sum : ℕ) → number < 4 → 16 * k + j < 49 → j < 16 → part ≡ bits_value (word_bit word) (64 * k) 64
    → sum ≡ added (word_bit word) (sum_number number) (4 * (16 * k + j))
    → bit_xor sum (sum_entry number (16 * k + j) (bit_and (part / 2 ^ (60 - 4 * j)) 15)) ≡ added (word_bit word) (sum_number number)
    (4 * (16 * k + j + 1))
step word number k j part sum number_lt group_lt lt is so_far =
    let value : bit_and (part / 2 ^ (60 - 4 * j)) 15 ≡ bits_value (word_bit word) (4 * (16 * k + j)) 4 =
    four_of_part (word_bit word) k j part lt is in
    let small : bit_and (part / 2 ^ (60 - 4 * j)) 15 < 16 = omega (arith, value, bits_value-lt (word_bit word) (4 * (16 * k + j)) 4) in
    ap (λ x. bit_xor x (sum_entry number (16 * k + j) (bit_and (part / 2 ^ (60 - 4 * j)) 15))) so_far
    ∙ added-four (word_bit word) (sum_number number) (16 * k + j) (sum_entry number (16 * k + j) (bit_and (part / 2 ^ (60 - 4 * j)) 15))
    (sum_entry-is number (16 * k + j) (bit_and (part / 2 ^ (60 - 4 * j)) 15) number_lt group_lt small
    ∙ ap (added_by (sum_number number) (16 * k + j)) value)

next : (word : List Bool) (number k j part sum : ℕ) → number < 4 → k < 3 → j < 16 → part ≡ bits_value (word_bit word) (64 * k) 64
    → sum ≡ added (word_bit word) (sum_number number) (4 * (16 * k + j))
    → bit_xor sum (sum_entry number (16 * k + j) (bit_and (part / 2 ^ (60 - 4 * j)) 15)) ≡ added (word_bit word) (sum_number number)
    (4 * (16 * k + (j + 1)))
next word number k j part sum number_lt k_lt lt is so_far =
    let e : 16 * k + j + 1 ≡ 16 * k + (j + 1) = omega arith in
    step word number k j part sum number_lt (omega arith) lt is so_far ∙ ap (λ n. added (word_bit word) (sum_number number) (4 * n)) e

-- the last four places, 192 to 195
last : (word : List Bool) (number k part sum : ℕ) → number < 4 → k ≡ 3 → part ≡ bits_value (word_bit word) (64 * 3) 64
    → sum ≡ added (word_bit word) (sum_number number) (64 * k)
    → bit_xor sum (sum_entry number 48 (bit_and (part / 2 ^ 60) 15)) ≡ added (word_bit word) (sum_number number) 196
last word number k part sum number_lt at_end is so_far =
    let e : 64 * k ≡ 4 * (16 * 3 + 0) = omega arith in
    step word number 3 0 part sum number_lt (omega arith) (omega arith) is (so_far ∙ ap (added (word_bit word) (sum_number number)) e)

pub loop-j-preserved : goal.loop-j-preserved
unfolding sum_entry
loop-j-preserved c = record {
  columns = next c.args.word.now 0 c.loop-k.k c.loop-j.j c.part-part.result c.loop-j.columns (omega arith) (omega arith)
      (omega arith) c.part-part.ensures.is c.loop-j.invariant.columns;
  rows = next c.args.word.now 1 c.loop-k.k c.loop-j.j c.part-part.result c.loop-j.rows (omega arith) (omega arith)
      (omega arith) c.part-part.ensures.is c.loop-j.invariant.rows;
  high = next c.args.word.now 2 c.loop-k.k c.loop-j.j c.part-part.result c.loop-j.high (omega arith) (omega arith)
      (omega arith) c.part-part.ensures.is c.loop-j.invariant.high;
  low = next c.args.word.now 3 c.loop-k.k c.loop-j.j c.part-part.result c.loop-j.low (omega arith) (omega arith)
      (omega arith) c.part-part.ensures.is c.loop-j.invariant.low;
}

pub returns : goal.returns
unfolding sum_entry
returns c =
    let columns = last c.args.word.now 0 c.loop-k.k c.part.result c.loop-k.columns (omega arith)
    (omega arith) c.part.ensures.is c.loop-k.invariant.columns in
    let rows = last c.args.word.now 1 c.loop-k.k c.part.result c.loop-k.rows (omega arith)
    (omega arith) c.part.ensures.is c.loop-k.invariant.rows in
    let high = last c.args.word.now 2 c.loop-k.k c.part.result c.loop-k.high (omega arith)
    (omega arith) c.part.ensures.is c.loop-k.invariant.high in
    let low =
    last c.args.word.now 3 c.loop-k.k c.part.result c.loop-k.low (omega arith) (omega arith) c.part.ensures.is c.loop-k.invariant.low in
    record {
      len = c.part.ensures.len;
      columns = λ column lt. ap (λ n. n / 2 ^ (4 * column) % 16) columns ∙ columns-are c.args.word.now column lt;
      rows = λ row lt. ap (λ n. n / 2 ^ (4 * row) % 16) rows ∙ rows-are c.args.word.now row lt;
      small_columns = subst (λ n. n < 2 ^ 60) (sym columns) (columns-lt (word_bit c.args.word.now));
      small_rows = subst (λ n. n < 2 ^ 52) (sym rows) (rows-lt (word_bit c.args.word.now));
      information = λ k lt. (λ i. packed_bit (high i ∷ low i ∷ []) k) ∙ information-is c.args.word.now k lt;
    }
