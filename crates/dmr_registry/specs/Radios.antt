-- Registered radios: a list of numbers, in the order in which they joined.
use Rattle.std.specs.Prelude.{ℕ, List, [], ◌∷◌, ◌++◌, ◌==◌, ◌≢◌, Bool, true, false, not, nat_le}
use Rattle.std.specs.Prelude.{filter, length, if◌then◌else◌, Result, Ok, Err}
use Rattle.std.specs.List.{list_any, AllPairs}
use Rattle.dmr_registry.specs.declared.registry.Full.{Full}
use Rattle.dmr_registry.specs.Limits.{most_radios}

-- no radio occurs twice
abbrev pub AreDistinct : List ℕ → Type 0
AreDistinct radios = AllPairs (λ a b. a ≢ b) radios

-- a radio is registered
abbrev pub is_registered_in : List ℕ → ℕ → Bool
is_registered_in radios radio = list_any (λ r. r == radio) radios

-- no more radios may join
abbrev pub is_full : List ℕ → Bool
is_full radios = nat_le most_radios (length radios)

-- the answer to a radio that joins: whether it is new, or that there is no place
abbrev pub answer_to_join : List ℕ → ℕ → Result Bool Full
answer_to_join radios radio =
    if is_registered_in radios radio then Ok false else if is_full radios then Err (record {})
    else Ok true

-- the radios after one joined: a new one is added at the end, if there is a place
abbrev pub radios_after_join : List ℕ → ℕ → List ℕ
radios_after_join radios radio =
    if is_registered_in radios radio then radios else if is_full radios then radios
    else radios ++ radio ∷ []

-- the radios after one left: the others, in their order
abbrev pub without : List ℕ → ℕ → List ℕ
without radios radio = filter (λ r. not (r == radio)) radios
