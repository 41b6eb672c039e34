-- The number of this crate's definitions, as this project's profile states it.
use Rattle.std.specs.Prelude.{ℕ}

-- the most octets of a line before its LF, including a CR
abbrev pub longest_line : ℕ
longest_line = 80
