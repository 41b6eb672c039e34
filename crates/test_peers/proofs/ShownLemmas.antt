-- Lists of what is made of each element, with one element replaced, or without one.
use Rattle.std.proofs.Common.{◌≡◌, ◌∙◌, ℕ, zero, suc, List, [], ◌∷◌, remove, map, ap, refl}
use Rattle.std.specs.Prelude.{slice_set}
use Rattle.std.proofs.lemmas.List.{map-set}

pub map_removed : {X Y : Type 0} (f : X → Y) (xs : List X) (i : ℕ) → map f (remove xs i) ≡ remove (map f xs) i
map_removed f [] zero = refl
map_removed f [] (suc i) = refl
map_removed f (a ∷ xs) zero = refl
map_removed f (a ∷ xs) (suc i) = ap (λ ys. f a ∷ ys) (map_removed f xs i)

pub map_replaced : {X Y : Type 0} (f : X → Y) (xs ys : List X) (i : ℕ) (x : X) (y : Y) → ys ≡ slice_set xs i x → f x ≡ y →
    map f ys ≡ slice_set (map f xs) i y
map_replaced f xs ys i x y is at = ap (map f) is ∙ map-set f xs i x ∙ ap (slice_set (map f xs) i) at
