-- Between two frames.
use Rattle.std.specs.Prelude.{Bool, true, false, [], ◌∷◌}
use Rattle.dmr_frames.specs.Rest.{Rest, Open, Faulty}

-- no frame has begun, and there was no fault
abbrev pub is_between : Rest → Bool
is_between (Open table []) = true
is_between (Open table (x ∷ octets)) = false
is_between (Faulty cause) = false
