-- The numbers of this crate's definitions that this project's profile states.
use Rattle.std.specs.Prelude.{ℕ}

-- the number of noise numbers: a Noise counts until as many Polls of the control carrier came after it
abbrev pub polls_of_window : ℕ
polls_of_window = 32

-- the most Noises that are counted between two Polls
abbrev pub most_noises : ℕ
most_noises = 15

-- one of this number of Fills is a late entry, if a talkgroup call is active and the control channel is not to be moved
abbrev pub late_entry_interval : ℕ
late_entry_interval = 4
