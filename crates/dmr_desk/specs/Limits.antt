-- The numbers of this crate's definitions, as this project's profile states them.
use Rattle.std.specs.Prelude.{ℕ}

-- the most entries that a desk's journal may have
abbrev pub most_entries : ℕ
most_entries = 100000

-- the most actors of a desk: a worker for each of 16 carriers, the ticker, and the console's worker
abbrev pub most_actors : ℕ
most_actors = 18
