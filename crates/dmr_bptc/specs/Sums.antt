-- The sums of a word. Only contracts of internal functions name these definitions; nothing above depends on them.
use Rattle.std.specs.Prelude.{◌≡◌, ◌==◌, ℕ, ◌+◌, ◌*◌, ◌/◌, ◌%◌, ◌^◌, ◌<◌, Bool, not, List, [], ◌∷◌}
use Rattle.std.specs.Prelude.{length, if◌then◌else◌}
use Rattle.dmr_bits.specs.Bits.{count_from}
use Rattle.dmr_bits.specs.Words.{word_bit}
use Rattle.dmr_bits.specs.Packed.{packed_bit}
use Rattle.dmr_bptc.specs.declared.sums.Sums.{Sums}
use Rattle.dmr_bptc.specs.Bptc.{cell, row_equations, column_equations}
use Rattle.dmr_bptc.specs.Mending.{syndrome}

-- the syndrome of a line, of 16 in a number: four bits for each, those of line 0 the least significant
abbrev pub syndrome_at : ℕ → ℕ → ℕ
syndrome_at syndromes line = syndromes / 2 ^ (4 * line) % 16

-- how many lines fail
abbrev pub failing_lines : ℕ → ℕ
failing_lines syndromes = count_from (λ line. not (syndrome_at syndromes line == 0)) 0 16

-- the syndromes of a word's columns and rows, and its information
pub record AreSums (word : List Bool) (sums : Sums) : Type 0 where
  pub len : length word ≡ 196
  pub columns : (column : ℕ) → column < 15
      → syndrome_at sums.columns column ≡ syndrome column_equations (λ row. cell word row column)
  pub rows : (row : ℕ) → row < 13
      → syndrome_at sums.rows row ≡ syndrome row_equations (λ column. cell word row column)
  pub small_columns : sums.columns < 2 ^ 60
  pub small_rows : sums.rows < 2 ^ 52
  pub information : (k : ℕ) → k < 96
      → packed_bit (sums.high ∷ sums.low ∷ []) k ≡ cell word ((k + 3) / 11) ((k + 3) % 11)

-- a word, and the same with the bit at a place turned over
pub record IsFlipped (place : ℕ) (word flipped : List Bool) : Type 0 where
  pub len : length flipped ≡ 196
  pub bits : (q : ℕ)
      → word_bit flipped q ≡ (if q == place then not (word_bit word q) else word_bit word q)
