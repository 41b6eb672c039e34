-- Lists after elements were added at the end, removed, and changed in place, and the elements found in them.
use Rattle.std.proofs.Common.{◌≡◌, ◌≤◌, ◌+◌, ℕ, List, [], ◌∷◌, ◌++◌, Bool, true, false, refl, arith, map, filter, length}
use Rattle.std.specs.Prelude.{find, if◌then◌else◌, not, option_map, slice_get, Option, Some, None, ◌||◌, ◌&&◌, ◌==◌}
use Rattle.std.proofs.lemmas.Bool.Decides.{nat_tests}
use Rattle.std.specs.List.{list_any}
use Rattle.dmr_core.specs.Sound.{total}

pub true_false : {X : Type 0} (b : Bool) → b ≡ true → b ≡ false → X
true_false b h k = cc

-- totals
pub total-append : {X : Type 0} (f : X → ℕ) (xs : List X) (y : X) → total f (xs ++ y ∷ []) ≡ total f xs + f y
total-append f [] y = omega arith
total-append f (x ∷ xs) y = omega (arith, total-append f xs y)

pub total-filter : {X : Type 0} (f : X → ℕ) (q : X → Bool) (xs : List X) → total f (filter q xs) ≤ total f xs
total-filter f q [] = omega arith
total-filter f q (x ∷ xs) = let more = total-filter f q xs in grind arith

pub total-map : {X : Type 0} (f : X → ℕ) (g : X → X) (same : (x : X) → f (g x) ≡ f x) (xs : List X) → total f (map g xs) ≡ total f xs
total-map f g same [] = refl
total-map f g same (x ∷ xs) = rw (same x, total-map f g same xs) refl

pub total-ones : {X : Type 0} (xs : List X) → total (λ (x : X). 1) xs ≡ length xs
total-ones [] = refl
total-ones (x ∷ xs) = omega (arith, total-ones xs)

-- an element that was found counts, and no longer counts after it was removed
pub total_some : {X : Type 0} (f : X → ℕ) (p : X → Bool) (xs : List X) (y : X) → find p xs ≡ Some y → f y ≤ total f xs
total_some f p [] y h = cc
total_some f p (x ∷ xs) y h = let more = total_some f p xs y in grind arith

pub total_found : {X : Type 0} (f : X → ℕ) (p q : X → Bool) (xs : List X) (y : X) → find p xs ≡ Some y → q y ≡ false
    → total f (filter q xs) + f y ≤ total f xs
total_found f p q [] y h k = cc
total_found f p q (x ∷ xs) y h k = let more = total_found f p q xs y in let less = total-filter f q xs in grind arith

-- whether an element passes
pub any_before : {X : Type 0} (p q : X → Bool) (xs : List X) → list_any p (filter q xs) ≡ true → list_any p xs ≡ true
any_before p q [] h = h
any_before p q (x ∷ xs) h = let more = any_before p q xs in grind arith

pub any-filter : {X : Type 0} (p q : X → Bool) (xs : List X) → list_any p xs ≡ false → list_any p (filter q xs) ≡ false
any-filter p q [] h = h
any-filter p q (x ∷ xs) h = let more = any-filter p q xs in grind arith

pub none-filtered : {X : Type 0} (p : X → Bool) (xs : List X) → list_any p (filter (λ x. not (p x)) xs) ≡ false
none-filtered p [] = refl
none-filtered p (x ∷ xs) = let more = none-filtered p xs in grind arith

pub any-map : {X Y : Type 0} (p : Y → Bool) (q : X → Bool) (g : X → Y) (same : (x : X) → p (g x) ≡ q x) (xs : List X)
    → list_any p (map g xs) ≡ list_any q xs
any-map p q g same [] = refl
any-map p q g same (x ∷ xs) = rw (same x, any-map p q g same xs) refl

pub any-push : {X : Type 0} (p : X → Bool) (xs : List X) (y : X) → list_any p (xs ++ y ∷ []) ≡ (list_any p xs || p y)
any-push p [] y = grind arith
any-push p (x ∷ xs) y = let more = any-push p xs y in grind arith

pub neither : {X : Type 0} (p q : X → Bool) (xs : List X) → list_any p xs ≡ false → list_any q xs ≡ false
    → list_any (λ x. p x || q x) xs ≡ false
neither p q [] h k = refl
neither p q (x ∷ xs) h k = let more = neither p q xs in grind arith

pub length-filter_le : {X : Type 0} (q : X → Bool) (xs : List X) → length (filter q xs) ≤ length xs
length-filter_le q [] = omega arith
length-filter_le q (x ∷ xs) = let more = length-filter_le q xs in grind arith

-- the first element that passes
pub find_passes : {X : Type 0} (p : X → Bool) (xs : List X) (x : X) → find p xs ≡ Some x → p x ≡ true
find_passes p [] x h = cc
find_passes p (y ∷ ys) x h = let more = find_passes p ys x in grind arith

pub find_any : {X : Type 0} (p q : X → Bool) (xs : List X) (x : X) → find p xs ≡ Some x → q x ≡ true → list_any q xs ≡ true
find_any p q [] x h k = cc
find_any p q (y ∷ ys) x h k = let more = find_any p q ys x in grind arith

pub none_found : {X : Type 0} (p : X → Bool) (xs : List X) → find p xs ≡ None → list_any p xs ≡ false
none_found p [] h = refl
none_found p (x ∷ xs) h = let more = none_found p xs in grind arith

pub none_passes : {X : Type 0} (p : X → Bool) (xs : List X) → list_any p xs ≡ false → find p xs ≡ None
none_passes p [] h = refl
none_passes p (x ∷ xs) h = let more = none_passes p xs in grind arith

pub any_found : {X : Type 0} (p : X → Bool) (xs : List X) → list_any p xs ≡ true → (x : X) × (find p xs ≡ Some x)
any_found {X = X} p xs h = either (find p xs) (none_found p xs)
  where
    either : (o : Option X) → (o ≡ None → list_any p xs ≡ false) → (x : X) × (o ≡ Some x)
    either (Some x) none = (x, refl)
    either None none = true_false _ h (none refl)

pub find_gone : {X : Type 0} (p g : X → Bool) → ((x : X) → p x ≡ true → g x ≡ true) → (xs : List X)
    → find p (filter (λ x. not (g x)) xs) ≡ None
find_gone p g h [] = refl
find_gone p g h (x ∷ xs) = let more = find_gone p g h xs in let here = h x in grind arith

pub find_kept : {X : Type 0} (p g : X → Bool) → ((x : X) → p x ≡ true → g x ≡ false) → (xs : List X)
    → find p (filter (λ x. not (g x)) xs) ≡ find p xs
find_kept p g h [] = refl
find_kept p g h (x ∷ xs) = let more = find_kept p g h xs in let here = h x in grind arith

pub find_new : {X : Type 0} (p : X → Bool) (xs : List X) (x : X) → find p xs ≡ None → p x ≡ true → find p (xs ++ x ∷ []) ≡ Some x
find_new p [] x h k = rw k refl
find_new p (y ∷ ys) x h k = let more = find_new p ys x in grind arith

pub find_same : {X : Type 0} (p : X → Bool) (xs : List X) (x : X) → p x ≡ false → find p (xs ++ x ∷ []) ≡ find p xs
find_same p [] x k = rw k refl
find_same p (y ∷ ys) x k = let more = find_same p ys x in grind arith

-- elements were changed, but not in what is tested and seen
pub found_map : {X Y : Type 0} (p : X → Bool) (seen : X → Y) (f : X → X) → ((x : X) → p (f x) ≡ p x)
    → ((x : X) → seen (f x) ≡ seen x) → (xs : List X) → option_map seen (find p (map f xs)) ≡ option_map seen (find p xs)
found_map p seen f same kept [] = refl
found_map p seen f same kept (x ∷ xs) =
    let test = same x in let value = kept x in let more = found_map p seen f same kept xs in grind arith

-- the first element is the first that passes a test that all pass
pub first_found : {X : Type 0} (xs : List X) → slice_get xs 0 ≡ find (λ (x : X). true) xs
first_found [] = refl
first_found (x ∷ xs) = refl

-- a part of what is found
pub mapped_some : {X Y : Type 0} (f : X → Y) (o : Option X) (y : Y) → option_map f o ≡ Some y → (x : X) × (o ≡ Some x) × (f x ≡ y)
mapped_some f None y h = cc
mapped_some f (Some x) y h = (x, refl, cc)

pub unmapped : {X Y : Type 0} (f : X → Y) (o : Option X) → option_map f o ≡ None → o ≡ None
unmapped f None h = refl
unmapped f (Some x) h = cc

-- what is left of a list
pub filter_none : {X : Type 0} (g : X → Bool) (xs : List X) → list_any g xs ≡ false → filter (λ x. not (g x)) xs ≡ xs
filter_none g [] h = refl
filter_none g (x ∷ xs) h = let more = filter_none g xs in grind arith

pub filter_twice : {X : Type 0} (p q : X → Bool) (xs : List X) → filter q (filter p xs) ≡ filter (λ x. q x && p x) xs
filter_twice p q [] = refl
filter_twice p q (x ∷ xs) = let more = filter_twice p q xs in grind arith

pub map_kept : {X Y : Type 0} (f : X → Y) (g : X → X) → ((x : X) → f (g x) ≡ f x) → (xs : List X) → map f (map g xs) ≡ map f xs
map_kept f g same [] = refl
map_kept f g same (x ∷ xs) = rw (same x, map_kept f g same xs) refl

-- the first of a key, after those of another were removed
pub find_others : {X : Type 0} (key : X → ℕ) (q r : ℕ) (xs : List X)
    → find (λ x. key x == r) (filter (λ x. not (key x == q)) xs) ≡ (if q == r then None else find (λ x. key x == r) xs)
find_others key q r [] = grind arith
find_others key q r (x ∷ xs) = let more = find_others key q r xs in grind (arith, nat_tests)
