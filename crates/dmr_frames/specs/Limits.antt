-- The numbers of the link format.
use Rattle.std.specs.Prelude.{ℕ}

-- the octets of the longest frames: RX and TX of version 2, with type, length, number, slot, and the 25 of a word
abbrev pub longest_frame : ℕ
longest_frame = 29
