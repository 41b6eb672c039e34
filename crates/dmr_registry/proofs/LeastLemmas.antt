-- The search for the least registered radios, one after the other.
use Rattle.std.proofs.Common.{arith, ◌≡◌, ℕ, ◌+◌, ◌<◌, ◌≤◌, List, [], ◌∷◌, ◌++◌, length, ◌⊎◌, inl, inr, subst, sym, ◌∙◌, true, nat_eq}
use Rattle.std.proofs.Common.{nat_le, eqb-true, leb-true}
use Rattle.std.proofs.lemmas.List.Elements.{All-nil, All-push, All-weaker, All-contains, Contains-push, Contains-append_left, filter_passes}
use Rattle.std.proofs.lemmas.Bool.{cases_lt, le-leb}
use Rattle.std.proofs.lemmas.Map.Views.{any-filter_same, list_any-from_Contains, Contains-from_any}
use Rattle.std.specs.Cmp.{nat_eq_equiv}
use Rattle.std.proofs.lemmas.List.Quantifiers.{all_pairs_push}
use Rattle.std.specs.List.{All, AllPairs, Contains, list_any}
use Rattle.dmr_registry.specs.Least.{IsHeldFrom, AreLeast, held_from}

-- all registered radios from one number up to another
pub record AreAllBelow (radios : List ℕ) (from next : ℕ) (found : List ℕ) : Type 0 where
  pub reached : from ≤ next
  pub ascending : AllPairs (λ a b. a < b) found
  pub held : All (IsHeldFrom radios from) found
  pub below : All (λ r. r < next) found
  pub others : (radio : ℕ) → IsHeldFrom radios from radio → radio < next → Contains found radio

-- at first none is found
pub none_below : (radios : List ℕ) (from : ℕ) → AreAllBelow radios from from []
none_below radios from = record {
  reached = omega arith;
  ascending = λ i j d below within. absurd (omega arith);
  held = All-nil (IsHeldFrom radios from);
  below = All-nil (λ r. r < from);
  others = λ radio held below. absurd (omega (arith, held.1));
}

-- the next radio is among them, or it is the one found now
with_next : (radios found : List ℕ) (from next least radio : ℕ) → AreAllBelow radios from next found →
    ((r : ℕ) → IsHeldFrom radios next r → least ≤ r) → IsHeldFrom radios from radio → radio < least + 1 → (radio < next) ⊎ (next ≤ radio) →
    Contains (found ++ least ∷ []) radio
with_next radios found from next least radio all is_least held below (inl before) =
    Contains-append_left found (least ∷ []) radio (all.others radio held before)
with_next radios found from next least radio all is_least held below (inr after) =
    let same : least ≡ radio = omega (arith, is_least radio (held.0, after)) in
    subst (λ r. Contains (found ++ least ∷ []) r) same (Contains-push found least)

-- with the least from there on, those found are all up to the number after it
pub one_more : (radios found : List ℕ) (from next least : ℕ) → AreAllBelow radios from next found → IsHeldFrom radios next least →
    ((r : ℕ) → IsHeldFrom radios next r → least ≤ r) → AreAllBelow radios from (least + 1) (found ++ least ∷ [])
one_more radios found from next least all held is_least = record {
  reached = omega (arith, held.1, all.reached);
  ascending = all_pairs_push (λ a b. a < b) found least all.ascending (λ k d within. omega (arith, all.below k d within, held.1));
  held = All-push (IsHeldFrom radios from) found least all.held (held.0, omega (arith, held.1, all.reached));
  below = All-push (λ r. r < least + 1) found least
      (All-weaker (λ r. r < next) (λ r. r < least + 1) (λ r below. omega (arith, below, held.1)) found all.below) (omega arith);
  others = λ radio from_there below. with_next radios found from next least radio all is_least from_there below (cases_lt radio next);
}

-- if no radio is left, those found are all
pub all_found : (radios found : List ℕ) (from next : ℕ) → AreAllBelow radios from next found → length found ≤ 16 →
    ((r : ℕ) → ¬ IsHeldFrom radios next r) → AreLeast radios from found
all_found radios found from next all few none = record {
  ascending = all.ascending;
  few = few;
  held = all.held;
  others = λ radio held. inl (all.others radio held
      (elim (cases_lt radio next) [ inl before ↦ before | inr after ↦ absurd (none radio (held.0, after)) ]));
}

-- the 16 that were found first are below those that follow
pub enough_found : (radios found : List ℕ) (from next : ℕ) → AreAllBelow radios from next found → length found ≡ 16 →
    AreLeast radios from found
enough_found radios found from next all enough = record {
  ascending = all.ascending;
  few = omega (arith, enough);
  held = all.held;
  others = λ radio held. elim (cases_lt radio next) [
    | inl before ↦ inl (all.others radio held before)
    | inr after ↦ inr (enough, All-weaker (λ r. r < next) (λ r. r < radio) (λ r below. omega (arith, below, after)) found all.below)
  ];
}

-- whether a radio from a number on is found among those that are
found_among : (radios : List ℕ) (from radio : ℕ) → from ≤ radio → list_any (nat_eq radio) (held_from radios from) ≡ list_any
    (nat_eq radio) radios
found_among radios from radio from_there =
    any-filter_same (nat_eq radio) (λ r. nat_le from r) true
    (λ r same. let e : radio ≡ r = eqb-true radio r same in le-leb from r (omega (arith, e, from_there))) radios

-- a registered radio from a number on is one of those
pub held_from-contains : (radios : List ℕ) (from radio : ℕ) → IsHeldFrom radios from radio → Contains (held_from radios from) radio
held_from-contains radios from radio held =
    Contains-from_any eqb-true radio (held_from radios from)
    (found_among radios from radio held.1 ∙ list_any-from_Contains nat_eq_equiv radio radios held.0)

-- each of those is a registered radio from the number on
pub held_from-held : (radios : List ℕ) (from radio : ℕ) → Contains (held_from radios from) radio → IsHeldFrom radios from radio
held_from-held radios from radio held =
    let passes : nat_le from radio ≡ true =
    All-contains (λ r. nat_le from r ≡ true) (held_from radios from) radio (filter_passes (λ r. nat_le from r) radios) held in
    let from_there : from ≤ radio = leb-true from radio passes in (
      Contains-from_any eqb-true radio radios
          (sym (found_among radios from radio from_there) ∙ list_any-from_Contains nat_eq_equiv radio (held_from radios from) held),
      from_there,
    )

-- if none is left from there on, those found are all
pub none_left : (radios found : List ℕ) (from next : ℕ) → AreAllBelow radios from next found → length found ≤ 16 →
    length (held_from radios next) ≡ 0 → AreLeast radios from found
none_left radios found from next all few none =
    all_found radios found from next all few (λ r held. absurd (omega (arith, none, (held_from-contains radios next r held).1)))

-- with the least of those left, those found are all up to the number after it
pub one_more_found : (radios found : List ℕ) (from next least : ℕ) → AreAllBelow radios from next found →
    Contains (held_from radios next) least → All (λ radio. least ≤ radio) (held_from radios next) →
    AreAllBelow radios from (least + 1) (found ++ least ∷ [])
one_more_found radios found from next least all held is_least = one_more radios found from next least all
    (held_from-held radios next least held)
    (λ r there. All-contains (λ radio. least ≤ radio) (held_from radios next) r is_least (held_from-contains radios next r there))
