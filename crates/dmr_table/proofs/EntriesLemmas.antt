-- Entries that are found and removed.
use Rattle.std.proofs.Common.{arith, ◌≡◌, ℕ, zero, suc, ◌<◌, List, [], ◌∷◌, length, Bool, true, false, refl, ap, ◌∙◌, get_or}
use Rattle.std.specs.Prelude.{◌||◌, Some, None, find, filter, not, is_some, if◌then◌else◌}
use mathlib.Core.Bool.{true≢false, false≢true}
use Rattle.std.specs.List.{All, remove, list_any}
use Rattle.dmr_table.specs.Entries.{without_first}

-- the first that passes the test
pub record IsFirst {X : Type 0} (test : X → Bool) (xs : List X) (n : ℕ) : Type 0 where
  pub within : n < length xs
  pub passes : (d : X) → test (get_or xs n d) ≡ true
  pub earlier : (k : ℕ) (d : X) → k < n → test (get_or xs k d) ≡ false

module _ {X : Type 0} (test : X → Bool) where
  -- the first that passes, after one that does not
  first_tail : (x : X) (xs : List X) (n : ℕ) → IsFirst test (x ∷ xs) (suc n) → IsFirst test xs n
  first_tail x xs n first = record {
    within = omega (arith, first.within);
    passes = first.passes;
    earlier = λ k d before. first.earlier (suc k) d
        (omega (arith, before));
  }

  -- the first that passes is the one found
  pub first_found : (xs : List X) (n : ℕ) (d : X) → IsFirst test xs n → find test xs ≡ Some (get_or xs n d)
  first_found [] n d first = absurd (omega (arith, first.within))
  first_found (x ∷ xs) zero d first = ap (λ b. if b then Some x else find test xs) (first.passes d)
  first_found (x ∷ xs) (suc n) d first =
      ap (λ b. if b then Some x else find test xs) (first.earlier 0 d (omega arith)) ∙ first_found xs n d (first_tail x xs n first)

  -- the first that passes is the one left out
  pub first_left_out : (xs : List X) (n : ℕ) (d : X) → IsFirst test xs n → without_first test xs ≡ remove xs n
  first_left_out [] n d first = absurd (omega (arith, first.within))
  first_left_out (x ∷ xs) zero d first = ap (λ b. if b then xs else x ∷ without_first test xs) (first.passes d)
  first_left_out (x ∷ xs) (suc n) d first = ap (λ b. if b then xs else x ∷ without_first test xs) (first.earlier 0 d (omega arith))
      ∙ ap (λ ys. x ∷ ys) (first_left_out xs n d (first_tail x xs n first))

  -- if none passes, none is found
  pub none_found : (xs : List X) → All (λ x. test x ≡ false) xs → find test xs ≡ None
  none_found [] none = refl
  none_found (x ∷ xs) none = ap (λ b. if b then Some x else find test xs) (none 0 x (omega arith))
      ∙ none_found xs (λ k d within. none (suc k) d (omega (arith, within)))

  -- if none passes, none is left out
  pub none_left_out : (xs : List X) → All (λ x. test x ≡ false) xs → without_first test xs ≡ xs
  none_left_out [] none = refl
  none_left_out (x ∷ xs) none = ap (λ b. if b then xs else x ∷ without_first test xs) (none 0 x (omega arith))
      ∙ ap (λ ys. x ∷ ys) (none_left_out xs (λ k d within. none (suc k) d (omega (arith, within))))

  -- an element is found if one passes
  pub any_found : (xs : List X) → is_some (find test xs) ≡ list_any test xs
  any_found [] = refl
  any_found (x ∷ xs) = by_first (test x) (any_found xs)
    where
      by_first : (b : Bool) → is_some (find test xs) ≡ list_any test xs →
          is_some (if b then Some x else find test xs) ≡ (b || list_any test xs)
      by_first true same = refl
      by_first false same = same

  -- the first that passes is not among those that do not pass
  pub others_same : (xs : List X) → filter (λ x. not (test x)) (without_first test xs) ≡ filter (λ x. not (test x)) xs
  others_same [] = refl
  others_same (x ∷ xs) = by_first (test x) refl (others_same xs)
    where
      by_first : (b : Bool) → test x ≡ b → filter (λ x. not (test x)) (without_first test xs) ≡ filter (λ x. not (test x)) xs →
          filter (λ x. not (test x)) (if b then xs else x ∷ without_first test xs) ≡
          (if not b then x ∷ filter (λ x. not (test x)) xs else filter (λ x. not (test x)) xs)
      by_first true is more = refl
      by_first false is more = ap (λ b. if not b then x ∷ filter (λ x. not (test x)) (without_first test xs) else filter (λ x. not (test x))
          (without_first test xs)) is ∙ ap (λ ys. x ∷ ys) more

  -- if none is found, leaving out the first and leaving out all are the same
  pub none_left : (xs : List X) → is_some (find test xs) ≡ false → without_first test xs ≡ filter (λ x. not (test x)) xs
  none_left [] none = refl
  none_left (x ∷ xs) none = by_first (test x) (none_left xs) none
    where
      by_first : (b : Bool) → (is_some (find test xs) ≡ false → without_first test xs ≡ filter (λ x. not (test x)) xs) →
          is_some (if b then Some x else find test xs) ≡ false → (if b then xs else x ∷ without_first test xs) ≡
          (if not b then x ∷ filter (λ x. not (test x)) xs else filter (λ x. not (test x)) xs)
      by_first true more none = absurd (true≢false none)
      by_first false more none = ap (λ ys. x ∷ ys) (more none)

  -- if one is found, one fewer remains
  pub one_fewer : (xs : List X) → is_some (find test xs) ≡ true → length (without_first test xs) < length xs
  one_fewer [] some = absurd (false≢true some)
  one_fewer (x ∷ xs) some = by_first (test x) (one_fewer xs) some
    where
      by_first : (b : Bool) → (is_some (find test xs) ≡ true → length (without_first test xs) < length xs) →
          is_some (if b then Some x else find test xs) ≡ true → length (if b then xs else x ∷ without_first test xs) < suc (length xs)
      by_first true more some = omega arith
      by_first false more some = omega (arith, more some)
