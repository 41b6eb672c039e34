-- The lines of a script that say inputs.
use Rattle.std.specs.Prelude.{ℕ, List, ◌++◌, codes, decimal, flat_map}
use Rattle.hex.specs.Hex.{encode_upper}
use Rattle.dmr_link.specs.Input.{Input, At, Opening, Octets, Cutting, Saying, Ticking}
use Rattle.dmr_replay.specs.Script.{RepeatedInput}

-- the line of an input that comes this number of times, with its LF. The octets of an operator's line end with that LF
abbrev pub line_by : Input → ℕ → List ℕ
line_by (At carrier Opening) times = codes "open " ++ decimal carrier ++ codes "\n"
line_by (At carrier (Octets octets)) times =
    codes "bytes " ++ decimal carrier ++ codes " " ++ encode_upper octets ++ codes "\n"
line_by (At carrier Cutting) times = codes "cut " ++ decimal carrier ++ codes "\n"
line_by (Saying octets) times = codes "say " ++ octets
line_by Ticking times = codes "tick " ++ decimal times ++ codes "\n"

-- the line of a repeated input
abbrev pub line_of : RepeatedInput → List ℕ
line_of given = line_by given.input given.times

-- the lines of inputs, one after another
abbrev pub text_of : List RepeatedInput → List ℕ
text_of given = flat_map line_of given
