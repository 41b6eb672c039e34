-- The least registered radios, one after the other, as a list.
use Rattle.std.proofs.Common.{arith, ◌≡◌, ℕ, zero, suc, ◌+◌, ◌-◌, ◌<◌, ◌≤◌, List, [], ◌∷◌, ◌++◌, length, Option, Some, None, refl, sym}
use Rattle.std.proofs.Common.{subst, ap, ◌∙◌, ◌⊎◌, inl, inr, append_assoc}
use Rattle.std.specs.Prelude.{MatchOption, min}
use Rattle.std.specs.Option.{option_map_or}
use Rattle.std.specs.List.{All, Contains}
use Rattle.std.proofs.lemmas.List.{append-nil}
use Rattle.std.proofs.lemmas.List.Elements.{All-cons, All-nil, All-weaker, All-contains}
use Rattle.std.proofs.lemmas.Bool.{cases_lt}
use Rattle.dmr_registry.specs.Least.{held_from, least_from, least_of, next_from}

-- one of the numbers, and none is below it
abbrev IsLeast : List ℕ → ℕ → Type 0
IsLeast numbers least = Contains numbers least × All (λ n. least ≤ n) numbers

-- the lesser of the first and the least of the others
lesser : (n m : ℕ) (ns : List ℕ) → IsLeast ns m → (m < n) ⊎ (n ≤ m) → IsLeast (n ∷ ns) (min n m)
lesser n m ns h (inl below) =
    let same : min n m ≡ m = omega arith in
    let there : Contains (n ∷ ns) m = (suc h.0.0, omega (arith, h.0.1), h.0.2) in
    subst (IsLeast (n ∷ ns)) (sym same) (there, All-cons (λ k. m ≤ k) n ns (omega (arith, below)) h.1)
lesser n m ns h (inr above) =
    let same : min n m ≡ n = omega arith in
    let here : Contains (n ∷ ns) n = (0, omega arith, refl) in
    subst (IsLeast (n ∷ ns)) (sym same)
    (here, All-cons (λ k. n ≤ k) n ns (omega arith) (All-weaker (λ k. m ≤ k) (λ k. n ≤ k) (λ k le. omega (arith, le, above)) ns h.1))

is_least : (n : ℕ) (ns : List ℕ) → IsLeast (n ∷ ns) (option_map_or (λ (m : ℕ). min n m) (least_of ns) n)
is_least n [] = ((0, omega arith, refl), All-cons (λ k. n ≤ k) n [] (omega arith) (All-nil (λ k. n ≤ k)))
is_least n (k ∷ ns) =
    let m : ℕ = option_map_or (λ (j : ℕ). min k j) (least_of ns) k in
    lesser n m (k ∷ ns) (is_least k ns) (cases_lt m n)

-- a number of the list that is above none of it is the least
pub least_found : (numbers : List ℕ) (found : Option ℕ) → MatchOption found (length numbers ≡ 0)
    (λ least. Contains numbers least × All (λ n. least ≤ n) numbers) → found ≡ least_of numbers
least_found [] None h = refl
least_found (n ∷ ns) None h = absurd (omega (arith, h))
least_found [] (Some r) h = absurd (omega (arith, h.0.1))
least_found (n ∷ ns) (Some r) h =
    let m : ℕ = option_map_or (λ (j : ℕ). min n j) (least_of ns) n in
    let is : IsLeast (n ∷ ns) m = is_least n ns in
    let below : r ≤ m = All-contains (λ k. r ≤ k) (n ∷ ns) m h.1 is.0 in
    let above : m ≤ r = All-contains (λ k. m ≤ k) (n ∷ ns) r is.1 h.0 in
    ap (λ (k : ℕ). Some k) (omega (arith, below, above))

-- one radio more
pub next_one : (radios listed : List ℕ) (next radio left rest : ℕ) → left ≡ suc rest → Some radio ≡ least_of (held_from radios next) →
    (listed ++ radio ∷ []) ++ next_from rest radios (radio + 1) ≡ listed ++ next_from left radios next
next_one radios listed next radio left rest more found =
    append_assoc listed (radio ∷ []) (next_from rest radios (radio + 1))
    ∙ ap (λ (o : Option ℕ). listed ++ option_map_or (λ (r : ℕ). r ∷ next_from rest radios (r + 1)) o []) found
    ∙ ap (λ (k : ℕ). listed ++ next_from k radios next) (sym more)

-- no radio more
pub none_next : (radios listed : List ℕ) (next left : ℕ) → None ≡ least_of (held_from radios next) →
    listed ≡ listed ++ next_from left radios next
none_next radios listed next zero none = sym (append-nil listed)
none_next radios listed next (suc left) none =
    sym (append-nil listed) ∙ ap (λ (o : Option ℕ). listed ++ option_map_or (λ (r : ℕ). r ∷ next_from left radios (r + 1)) o []) none

-- at first none is found, and 16 may follow
pub at_first : (radios listed : List ℕ) (from : ℕ) → listed ≡ [] → listed ++ next_from
    (16 - length listed) radios from ≡ least_from radios from
unfolding least_from
at_first radios listed from none = ap (λ (ns : List ℕ). ns ++ next_from (16 - length ns) radios from) none

-- none is left to follow
pub enough : (radios listed : List ℕ) (next left : ℕ) → left ≡ 0 → listed ≡ listed ++ next_from left radios next
enough radios listed next left none = sym (append-nil listed) ∙ ap (λ (k : ℕ). listed ++ next_from k radios next) (sym none)
