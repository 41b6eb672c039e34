-- Facts about lists, numbers and slots that proofs of several crates cite.
use Rattle.std.proofs.Common.{◌≡◌, ◌==◌, ◌||◌, ◌&&◌, ◌+◌, ◌<◌, ℕ, zero, suc, List, [], ◌∷◌, Bool, true, false, cond, drop, length, map}
use Rattle.std.proofs.Common.{get_or}
use Rattle.std.proofs.Common.{replicate, slice_get, Some, ap, arith, refl, sym, ◌∙◌}
use Rattle.std.specs.Prelude.{filter, is_some}
use Rattle.std.specs.List.{list_any, find}
use Rattle.std.proofs.lemmas.Bool.{eqb-false, ne_eqb, false≢true}
use Rattle.std.proofs.lemmas.List.{drop_more}
use Rattle.dmr_pdu.specs.Slots.{place, slot_at}

-- ---- tests

-- both parts of a conjunction hold if it holds
pub left : (a b : Bool) → (a && b) ≡ true → a ≡ true
left true b e = refl
left false b e = e

pub right : (a b : Bool) → (a && b) ≡ true → b ≡ true
right true b e = e
right false b e = absurd (false≢true e)

-- a test of equality that fails also fails with its sides exchanged
pub flipped : (m n : ℕ) → (m == n) ≡ false → (n == m) ≡ false
flipped m n h = ne_eqb n m (λ e. eqb-false m n h (sym e))

-- ---- lists

-- a search finds something exactly if an element passes the test
pub is_some-find : {X : Type 0} (p : X → Bool) (xs : List X) → is_some (find p xs) ≡ list_any p xs
is_some-find p [] = refl
is_some-find p (x ∷ xs) = elim (p x) as (λ b. is_some (cond b (Some x) (find p xs)) ≡ (b || list_any p xs))
    [ true ↦ refl | false ↦ is_some-find p xs ]

pub map_filter : {X Y : Type 0} (f : X → Y) (q : Y → Bool) (xs : List X) → map f (filter (λ x. q (f x)) xs) ≡ filter q (map f xs)
map_filter f q [] = refl
map_filter f q (x ∷ xs) = let more = map_filter f q xs in grind arith

-- a list of one value has it everywhere
pub replicated : {X : Type 0} (n i : ℕ) (x : X) → get_or (replicate n x) i x ≡ x
replicated zero i x = refl
replicated (suc n) zero x = refl
replicated (suc n) (suc i) x = replicated n i x

-- the elements that are left begin with the one that is read
pub rest_is : {X : Type 0} (xs : List X) (i : ℕ) (x : X) → i < length xs → x ≡ get_or xs i x → drop i xs ≡ x ∷ drop (i + 1) xs
rest_is xs i x within read = drop_more xs i x within ∙ ap (λ y. y ∷ drop (i + 1) xs) (sym read)

-- there is an element at each place before the end
pub get_within : {X : Type 0} (xs : List X) (k : ℕ) → k < length xs → (x : X) × (slice_get xs k ≡ Some x)
get_within [] k low = absurd (omega arith)
get_within (x ∷ xs) zero low = (x, refl)
get_within (x ∷ xs) (suc k) low = get_within xs k (omega arith)

-- lists that a function takes to the same at each place
pub same_by_place : {X Y : Type 0} (f : X → Y) (xs ys : List X) → length ys ≡ length xs →
    ((k : ℕ) (x y : X) → slice_get xs k ≡ Some x → slice_get ys k ≡ Some y → f y ≡ f x) → map f ys ≡ map f xs
same_by_place f [] [] many same = refl
same_by_place f [] (y ∷ ys) many same = absurd (omega arith)
same_by_place f (x ∷ xs) [] many same = absurd (omega arith)
same_by_place f (x ∷ xs) (y ∷ ys) many same =
    let here : f y ≡ f x = same 0 x y refl refl in
    let rest : map f ys ≡ map f xs = same_by_place f xs ys (omega arith) (λ k. same (suc k)) in
    (λ i. here i ∷ rest i)

-- ---- slots

-- a place is that of its slot
pub place-slot_at : (n : ℕ) → place (slot_at n) ≡ n
place-slot_at n = omega arith
