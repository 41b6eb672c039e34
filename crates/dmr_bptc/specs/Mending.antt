-- The mending of a line: the bit that the failed equations point to is inverted.
use Rattle.std.specs.Prelude.{◌==◌, ℕ, ◌+◌, ◌*◌, ◌^◌, Bool, List, [], ◌∷◌, length, if◌then◌else◌}
use Rattle.dmr_bptc.specs.Bptc.{add_bits, parity}

-- 1 if the line fails the equation, else 0
abbrev pub fails : (ℕ → Bool) → ℕ × List ℕ → ℕ
fails line e = if add_bits (line e.0) (parity line e.1) then 1 else 0

-- the syndrome of a line: a number with a bit for each equation, the first most significant; the bit is 1 if the line
-- fails it
abbrev pub syndrome : List (ℕ × List ℕ) → (ℕ → Bool) → ℕ
syndrome [] line = 0
syndrome (e ∷ es) line = 2 ^ length es * fails line e + syndrome es line

-- the mark of a bit: the syndrome of a line in which only this bit is wrong
abbrev pub mark : List (ℕ × List ℕ) → ℕ → ℕ
mark es k = syndrome es (λ j. j == k)

-- the mended line: the bit whose mark is the line's syndrome is inverted
abbrev pub corrected_line : List (ℕ × List ℕ) → (ℕ → Bool) → ℕ → Bool
corrected_line es line k = add_bits (line k) (syndrome es line == mark es k)
