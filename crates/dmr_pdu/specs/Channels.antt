-- The range of channel numbers.
use Rattle.std.specs.Prelude.{ℕ, ◌≤◌}

-- a number that a channel may have: 1 to 4094
abbrev pub IsChannel : ℕ → Type 0
IsChannel n = (1 ≤ n) × (n ≤ 4094)
