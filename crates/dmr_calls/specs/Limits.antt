-- The numbers of this crate's definitions that this project's profile states.
use Rattle.std.specs.Prelude.{ℕ}

-- the most asks that are active at a time
abbrev pub most_asks : ℕ
most_asks = 32

-- the most lines that are active at a time
abbrev pub most_lines : ℕ
most_lines = 32

-- the most calls that are active at a time: one on each slot of the site except the control slot
abbrev pub most_calls : ℕ
most_calls = 31

-- the most lines that a reply lists
abbrev pub most_listed : ℕ
most_listed = 16

-- the greatest count of ticks in ages, quiet times and waiting times
abbrev pub most_ticks : ℕ
most_ticks = 65535
