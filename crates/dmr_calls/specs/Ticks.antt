-- Ticks.
use Rattle.std.specs.Prelude.{ℕ, ◌+◌, min}
use Rattle.dmr_calls.specs.Limits.{most_ticks}

-- one more tick; the count stays at 65,535
abbrev pub one_more : ℕ → ℕ
one_more n = min most_ticks (n + 1)
