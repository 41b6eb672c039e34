-- Which of the newcomers is served next, and which is closed when there are too many.
use Rattle.std.specs.Prelude.{ℕ, ◌-◌, Bool, not, List, [], ◌∷◌, length, Option, Some, None}
use Rattle.std.specs.Prelude.{position, if◌then◌else◌}
use Rattle.std.specs.Option.{option_or, unwrap_or}
use Rattle.dmr_port.specs.declared.waiting_room.Newcomer.{Newcomer}

-- the place of the newest newcomer
abbrev pub place_of_newest : List Newcomer → ℕ
place_of_newest newcomers = length newcomers - 1

-- the place of the oldest newcomer, if there is one
abbrev pub place_of_oldest : List Newcomer → Option ℕ
place_of_oldest [] = None
place_of_oldest (newcomer ∷ newcomers) = Some 0

-- the place of the first newcomer that has sent a HELLO for this carrier
abbrev pub place_of_claimant : List Newcomer → Option ℕ
place_of_claimant newcomers = position (λ (n : Newcomer). n.has_hello) newcomers

-- the place of the first newcomer that has sent none
abbrev pub place_of_stranger : List Newcomer → Option ℕ
place_of_stranger newcomers = position (λ (n : Newcomer). not n.has_hello) newcomers

-- the place of the newcomer that is served next: the first with a HELLO, or else the oldest
abbrev pub place_of_next : List Newcomer → Option ℕ
place_of_next newcomers = option_or (place_of_claimant newcomers) (place_of_oldest newcomers)

-- the place of the newcomer that is closed if there are too many: the first without a HELLO, or else the newest. If
-- nobody sends a HELLO, it is the newest
abbrev pub place_of_refused : Bool → List Newcomer → ℕ
place_of_refused by_hello newcomers =
    if by_hello then unwrap_or (place_of_stranger newcomers) (place_of_newest newcomers)
    else place_of_newest newcomers
