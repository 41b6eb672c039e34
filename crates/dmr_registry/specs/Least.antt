-- The least registered radios from a number on.
use Rattle.std.specs.Prelude.{◌≡◌, ℕ, zero, suc, ◌+◌, ◌<◌, ◌≤◌, List, [], ◌∷◌, length, ◌⊎◌, filter}
use Rattle.std.specs.Prelude.{min, nat_le, Option, Some, None}
use Rattle.std.specs.Option.{option_map_or}
use Rattle.std.specs.List.{All, AllPairs, Contains}
use Rattle.dmr_registry.specs.Limits.{most_listed}

-- the registered radios from the number on, in the order in which they joined
abbrev pub held_from : List ℕ → ℕ → List ℕ
held_from radios from = filter (λ radio. nat_le from radio) radios

-- a registered radio from the number on
abbrev pub IsHeldFrom : List ℕ → ℕ → ℕ → Type 0
IsHeldFrom radios from radio = Contains radios radio × (from ≤ radio)

-- the 16 least registered radios from the number on, or all if there are fewer: each of the others is above them all
pub record AreLeast (radios : List ℕ) (from : ℕ) (least : List ℕ) : Type 0 where
  pub ascending : AllPairs (λ a b. a < b) least
  pub few : length least ≤ most_listed
  pub held : All (IsHeldFrom radios from) least
  pub others : (radio : ℕ) → IsHeldFrom radios from radio
      → Contains least radio ⊎ ((length least ≡ most_listed) × All (λ r. r < radio) least)

-- the least of some numbers
abbrev pub least_of : List ℕ → Option ℕ
least_of [] = None
least_of (n ∷ ns) = Some (option_map_or (λ (m : ℕ). min n m) (least_of ns) n)

-- at most `count` registered radios: the least from the number on, then the least above it, and so on
abbrev pub next_from : ℕ → List ℕ → ℕ → List ℕ
next_from zero radios from = []
next_from (suc count) radios from =
    option_map_or (λ (radio : ℕ). radio ∷ next_from count radios (radio + 1))
    (least_of (held_from radios from))
    []

-- the 16 least registered radios from the number on, or all if there are fewer
unfoldable pub least_from : List ℕ → ℕ → List ℕ
least_from radios from = next_from most_listed radios from
