-- How often a desk was asked whether the term is over.
use Rattle.std.specs.Prelude.{◌≡◌, ◌+◌, ℕ, Option, Some, None}

-- a desk was asked this often between two times: if it counts the questions at the second, it counted them at the first,
-- and has counted as many more
abbrev pub Questioned : Option ℕ → ℕ → Option ℕ → Type 0
Questioned before count None = Unit {0}
Questioned None count (Some after) = ⊥
Questioned (Some before) count (Some after) = after ≡ before + count
