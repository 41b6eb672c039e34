-- The number of this crate's definitions.
use Rattle.std.specs.Prelude.{ℕ}

-- the most entries of any table, since their places are numbers of 16 bits
abbrev pub most_entries : ℕ
most_entries = 65536
