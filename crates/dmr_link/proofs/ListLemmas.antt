-- A predicate of all elements of a list, and of those of its parts; and lists of one element, many times.
use Rattle.std.proofs.Common.{◌≡◌, List, [], ◌∷◌, ◌++◌, length, map, replicate, refl, ap}
use Rattle.std.specs.List.{AllByRecursion}

module _ {X : Type 0} (P : X → Type 0) where
  pub all-append : (xs ys : List X) → AllByRecursion P xs → AllByRecursion P ys → AllByRecursion P (xs ++ ys)
  all-append [] ys first second = second
  all-append (x ∷ xs) ys first second = (first.0, all-append xs ys first.1 second)

  pub all-right : (xs ys : List X) → AllByRecursion P (xs ++ ys) → AllByRecursion P ys
  all-right [] ys all = all
  all-right (x ∷ xs) ys all = all-right xs ys all.1

-- each element becomes the same one
pub map_to_one : {X Y : Type 0} (y : Y) (xs : List X) → map (λ _. y) xs ≡ replicate (length xs) y
map_to_one y [] = refl
map_to_one {X} {Y} y (x ∷ xs) = ap (λ (ys : List Y). y ∷ ys) (map_to_one y xs)
