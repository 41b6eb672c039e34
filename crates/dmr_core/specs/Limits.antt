-- The number of this crate's definitions that this project's profile states. The other limits are in the crates below.
use Rattle.std.specs.Prelude.{ℕ}

-- the most PDUs in the control slot's outbox with which there is room for the answer to a request
abbrev pub most_with_room : ℕ
most_with_room = 56
