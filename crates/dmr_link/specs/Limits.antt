-- The limits of a link, as this project's profile states them.
use Rattle.std.specs.Prelude.{ℕ}

-- the most reads that a call of `serve` makes
abbrev pub most_reads : ℕ
most_reads = 64

-- the most interruptions in a row, of reads or of writes, after which a link tries again; one more is a fault
abbrev pub most_interruptions : ℕ
most_interruptions = 16
