-- A table of radios, and the radios that are registered.
use Rattle.std.proofs.Common.{arith, ◌≡◌, ℕ, zero, suc, ◌<◌, ◌≤◌, List, [], ◌∷◌, length, Bool, true, false, Option, Some, None, refl, ap}
use Rattle.std.proofs.Common.{eqb-true, eq-eqb}
use Rattle.std.specs.Prelude.{◌==◌, ◌||◌, MatchOption}
use mathlib.Core.Bool.{false≢true}
use Rattle.std.specs.List.{All, Contains}
use Rattle.std.proofs.lemmas.List.Elements.{All-contains, Contains-get_or}
use Rattle.dmr_table.specs.Entries.{IsLeastFrom}
use Rattle.dmr_registry.specs.Radios.{is_registered_in}
use Rattle.dmr_registry.specs.Least.{held_from}
use Rattle.dmr_registry.proofs.LeastLemmas.{held_from-contains, held_from-held}

-- a radio that is registered is among the radios
pub held_contains : (radios : List ℕ) (radio : ℕ) → is_registered_in radios radio ≡ true → Contains radios radio
held_contains [] radio held = absurd (false≢true held)
held_contains (r ∷ radios) radio held = by_first (r == radio) refl (held_contains radios radio) held
  where
    by_first : (b : Bool) → (r == radio) ≡ b → (is_registered_in radios radio ≡ true → Contains radios radio) →
        (b || is_registered_in radios radio) ≡ true → Contains (r ∷ radios) radio
    by_first true same more held = (0, omega arith, eqb-true r radio same)
    by_first false other more held = let there = more held in (suc there.0, omega (arith, there.1), there.2)

-- a radio among the radios is registered
pub contains_held : (radios : List ℕ) (radio : ℕ) → Contains radios radio → is_registered_in radios radio ≡ true
contains_held [] radio there = absurd (omega (arith, there.1))
contains_held (r ∷ radios) radio (zero, within, same) = ap (λ b. b || is_registered_in radios radio) (eq-eqb r radio same)
contains_held (r ∷ radios) radio (suc k, within, same) = either (r == radio) (contains_held radios radio (k, omega (arith, within), same))
  where
    either : (b : Bool) → is_registered_in radios radio ≡ true → (b || is_registered_in radios radio) ≡ true
    either true held = refl
    either false held = held

-- a list without elements is empty
nothing_in : (radios : List ℕ) → ((radio : ℕ) → ¬ Contains radios radio) → length radios ≡ 0
nothing_in [] none = refl
nothing_in (r ∷ radios) none = absurd (none r (0, omega arith, refl))

-- the least entry from a number on is the least registered radio from there
pub least_held : (radios : List ℕ) (from : ℕ) (found : Option ℕ) → MatchOption found (All (λ r. r < from) radios)
    (IsLeastFrom (λ r. r) from radios) → MatchOption found (length (held_from radios from) ≡ 0)
    (λ least. Contains (held_from radios from) least × All (λ radio. least ≤ radio) (held_from radios from))
least_held radios from None below = nothing_in (held_from radios from) (λ radio there.
    let held = held_from-held radios from radio there in
    let under = All-contains (λ r. r < from) radios radio below held.0 in
    omega (arith, held.1, under))
least_held radios from (Some least) is = (
  held_from-contains radios from least (is.stands, is.reaches),
  λ k d within.
      let held = held_from-held radios from _ (Contains-get_or (held_from radios from) k d within) in
      All-contains (λ r. from ≤ r → least ≤ r) radios _ is.below held.0 held.1,
)
