-- Look-ups among the places, and the entries that they find.
use Rattle.std.proofs.Common.{arith, ◌≡◌, ◌≢◌, ℕ, ◌*◌, ◌<◌, ◌≤◌, List, length, sym, ap, subst, ◌∙◌, false, get_or}
use Rattle.std.specs.Prelude.{◌==◌, Some, None, find}
use Rattle.std.proofs.lemmas.Bool.Decides.{nat_tests}
use Rattle.std.specs.List.{All, remove}
use Rattle.dmr_table.specs.declared.places.Place.{Place}
use Rattle.dmr_table.specs.Places.{IsGap, HasFirst, ArePlaces}
use Rattle.dmr_table.specs.Entries.{without_first, IsLeastFrom}
use Rattle.dmr_table.proofs.PlacesLemmas.{first_is, none_is, all_below, least_is}
use Rattle.dmr_table.proofs.EntriesLemmas.{IsFirst, first_found, first_left_out, none_found, none_left_out}

-- a number below another differs from it
below_is_other : (a b : ℕ) → a < b → (a == b) ≡ false
below_is_other a b below = grind (arith, nat_tests)

-- the entry found by the key, and the entries without it, if there is none
pub record NoneHasKey {X : Type 0} (f : X → ℕ) (key : ℕ) (xs : List X) : Type 0 where
  pub found : find (λ x. f x == key) xs ≡ None
  pub left : without_first (λ x. f x == key) xs ≡ xs

-- the same if x is the first of the key, at n
pub record FirstHasKey {X : Type 0} (f : X → ℕ) (key : ℕ) (xs : List X) (n : ℕ) (x : X) : Type 0 where
  pub found : find (λ x. f x == key) xs ≡ Some x
  pub left : without_first (λ x. f x == key) xs ≡ remove xs n

-- no entry has the key
none_has : {X : Type 0} (f : X → ℕ) (key : ℕ) (xs : List X) → All (λ x. (f x == key) ≡ false) xs → NoneHasKey f key xs
none_has f key xs none = record { found = none_found (λ x. f x == key) xs none; left = none_left_out (λ x. f x == key) xs none }

module _ {X : Type 0} (f : X → ℕ) (xs : List X) (ps : List Place) (key : ℕ) (are : ArePlaces f xs ps) where
  -- if no place is from the key on
  pub past_all : IsGap ps (key * 65536) (length ps) → length xs ≤ 65536 → NoneHasKey f key xs
  past_all gap few = none_has f key xs (λ k d within. below_is_other _ key (all_below f xs ps few are key gap k d within))

  -- if the first place from the key on is of another key
  pub other_key : (i : ℕ) (p : Place) → HasFirst ps key i → p ≡ get_or ps i p → p.key ≢ key → length xs ≤ 65536 → NoneHasKey f key xs
  other_key i p first read other few =
      none_has f key xs (none_is f xs ps few are key i p first (λ same. other (ap (λ (q : Place). q.key) read ∙ same)))

  -- if it is of the key
  pub first_entry : (i : ℕ) (p : Place) (x : X) → HasFirst ps key i → p ≡ get_or ps i p → p.key ≡ key → x ≡ get_or xs p.index x →
      length xs ≤ 65536 → FirstHasKey f key xs p.index x
  first_entry i p x first read same entry few =
      let test = λ (y : X). f y == key in
      let is : IsFirst test xs p.index = subst (λ (n : ℕ). IsFirst test xs n) (sym (ap (λ (q : Place). q.index) read))
      (first_is f xs ps few are key i p first (sym (ap (λ (q : Place). q.key) read) ∙ same)) in
      record { found = first_found test xs p.index x is ∙ ap (λ (y : X). Some y) (sym entry); left = first_left_out test xs p.index x is }

  -- the entry at the first place from the key on
  pub least_entry : (i : ℕ) (p : Place) (x : X) → HasFirst ps key i → p ≡ get_or ps i p → x ≡ get_or xs p.index x → length xs ≤ 65536 →
      IsLeastFrom f key xs x
  least_entry i p x first read entry few = least_is f xs ps few are key i p x first (entry ∙ ap (λ (q : Place). get_or xs q.index x) read)

  -- if no place is from the key on
  pub no_least : IsGap ps (key * 65536) (length ps) → length xs ≤ 65536 → All (λ x. f x < key) xs
  no_least gap few = all_below f xs ps few are key gap
