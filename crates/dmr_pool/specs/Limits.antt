-- The number of this crate's definitions that this project's profile states.
use Rattle.std.specs.Prelude.{ℕ}

-- the most PDUs that wait for a slot
abbrev pub most_pdus_of_a_slot : ℕ
most_pdus_of_a_slot = 64
