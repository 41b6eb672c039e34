-- Equality of numbers from a place on.
use Rattle.std.proofs.Common.{◌≡◌, ℕ, zero, suc, ◌+◌, List, [], ◌∷◌, subst, sym, add-one, drop}
use Rattle.std.specs.Prelude.{◌&&◌, nat_eq, Some, slice_get}
use Rattle.std.specs.Cmp.Lexicographic.{pointwise}

-- the number at the place, and then the others
same_from_next : (xs ys : List ℕ) (i a b : ℕ) → slice_get xs i ≡ Some a → slice_get ys i ≡ Some b
    → pointwise nat_eq (drop i xs) (drop i ys) ≡ (nat_eq a b && pointwise nat_eq (drop (suc i) xs) (drop (suc i) ys))
same_from_next [] ys i a b h k = cc
same_from_next (x ∷ xs) [] i a b h k = cc
same_from_next (x ∷ xs) (y ∷ ys) zero a b h k =
    let e : x ≡ a = cc in
    let d : y ≡ b = cc in
    λ i. nat_eq (e i) (d i) && pointwise nat_eq xs ys
same_from_next (x ∷ xs) (y ∷ ys) (suc i) a b h k = same_from_next xs ys i a b h k

pub same_from : (xs ys : List ℕ) (i a b : ℕ) → slice_get xs i ≡ Some a → slice_get ys i ≡ Some b
    → pointwise nat_eq (drop i xs) (drop i ys) ≡ (nat_eq a b && pointwise nat_eq (drop (i + 1) xs) (drop (i + 1) ys))
same_from xs ys i a b h k = subst (λ n. pointwise nat_eq (drop i xs) (drop i ys)
    ≡ (nat_eq a b && pointwise nat_eq (drop n xs) (drop n ys))) (sym (add-one i)) (same_from_next xs ys i a b h k)
