-- The numbers of a connection's TX frames. In a version that numbers bursts they count from 0, and 0 follows 255.
use Rattle.std.specs.Prelude.{ℕ, ◌+◌, ◌%◌, List, Option, Some, None, option_map, if◌then◌else◌}
use Rattle.std.specs.Prelude.{flat_map, fold, scan}
use Rattle.dmr_frames.specs.declared.frame.FrameOut.{FrameOut}
use Rattle.dmr_frames.specs.declared.frame.FrameOut.TheVariants as out
use Rattle.dmr_frames.specs.Frames.{spelling_out}
use Rattle.dmr_frames.specs.Versions.{has_numbers, named_or_first}

-- the number of a connection's first TX, or none, by the version in its WELCOME
abbrev pub first_number : ℕ → Option ℕ
first_number version = if has_numbers (named_or_first version) then Some 0 else None

-- the octets of a frame; a TX has the number `next`
abbrev pub frame_text : Option ℕ → FrameOut → List ℕ
frame_text next (out.Tx number slot word) = spelling_out (out.Tx next slot word)
frame_text next other = spelling_out other

-- the number of the next TX after a frame; a WELCOME starts the numbers, if its version has them
abbrev pub next_after : Option ℕ → FrameOut → Option ℕ
next_after next (out.Welcome version) = first_number version
next_after next (out.Tx number slot word) = option_map (λ n. (n + 1) % 256) next
next_after next other = next

-- the octets of frames, each TX with its number
abbrev pub frames_text : Option ℕ → List FrameOut → List ℕ
frames_text next frames = flat_map (λ text. text) (scan next_after frame_text next frames)

-- the number of the next TX after frames
abbrev pub next_after_frames : Option ℕ → List FrameOut → Option ℕ
next_after_frames next frames = fold next_after next frames
