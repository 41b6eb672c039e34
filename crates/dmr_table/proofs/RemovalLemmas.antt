-- The places after an entry was removed.
use Rattle.std.proofs.Common.{arith, ◌≡◌, ◌≢◌, ℕ, zero, suc, ◌+◌, ◌-◌, ◌<◌, ◌≤◌, List, [], ◌∷◌, length, inl, inr, sym, ap, refl, ◌∙◌}
use Rattle.std.proofs.Common.{get_or, map}
use Rattle.std.specs.List.{All, AllPairs, remove}
use Rattle.std.proofs.lemmas.Bool.{cases_lt}
use Rattle.std.proofs.lemmas.Bool.Decides.{nat_tests}
use Rattle.std.proofs.lemmas.List.{get_or_default}
use Rattle.std.proofs.lemmas.List.Edits.{length-remove, get_or-remove_below, get_or-remove_above}
use Rattle.std.proofs.lemmas.List.Quantifiers.{all_pairs_remove}
use Rattle.std.proofs.lemmas.List.Elements.{All-map}
use Rattle.dmr_table.specs.declared.places.Place.{Place}
use Rattle.dmr_table.specs.Places.{rank_of, place_after_removal, IsPlaceIn, ArePlaces}
use Rattle.dmr_table.proofs.PlacesLemmas.{one_place}

-- a place before the removed one is unchanged
lowered_before : (n : ℕ) (p : Place) → p.index < n → (place_after_removal n p).index ≡ p.index
lowered_before n p before = grind (arith, nat_tests)

-- a place after it moves one to the front
lowered_after : (n : ℕ) (p : Place) → n < p.index → (place_after_removal n p).index + 1 ≡ p.index
lowered_after n p behind = grind (arith, nat_tests)

-- two places keep their order
lowered_order : (n : ℕ) (p q : Place) → p.index ≢ n → q.index ≢ n → p.index < 65536 → q.index < 65536 → rank_of p < rank_of q →
    rank_of (place_after_removal n p) < rank_of (place_after_removal n q)
lowered_order n p q p_other q_other p_small q_small up = elim (cases_lt p.index n) [
  | inl p_before ↦ elim (cases_lt q.index n) [
    | inl q_before ↦ omega (arith, lowered_before n p p_before, lowered_before n q q_before, up)
    | inr q_from ↦ omega (arith, lowered_before n p p_before, lowered_after n q (omega (arith, q_from, q_other)), up, p_small, q_small)
  ]
  | inr p_from ↦
      let p_moved = lowered_after n p (omega (arith, p_from, p_other)) in
      elim (cases_lt q.index n) [
        | inl q_before ↦ omega (arith, p_moved, lowered_before n q q_before, up, p_from, p_small, q_small)
        | inr q_from ↦ omega (arith, p_moved, lowered_after n q (omega (arith, q_from, q_other)), up)
      ]
]

-- an element of a list after each was changed
read_mapped : {X Y : Type 0} (g : X → Y) (xs : List X) (k : ℕ) (d : X) (e : Y) → k < length xs → get_or (map g xs) k e ≡ g (get_or xs k d)
read_mapped g [] k d e within = absurd (omega arith)
read_mapped g (x ∷ xs) zero d e within = refl
read_mapped g (x ∷ xs) (suc k) d e within = read_mapped g xs k d e (omega (arith, within))

-- as many elements as before
pub length_mapped : {X Y : Type 0} (g : X → Y) (xs : List X) → length (map g xs) ≡ length xs
length_mapped g [] = refl
length_mapped g (x ∷ xs) = ap (λ n. suc n) (length_mapped g xs)

module _ {X : Type 0} (f : X → ℕ) (xs : List X) (ps : List Place) (few : length xs ≤ 65536) (are : ArePlaces f xs ps) (i n : ℕ)
    (within : i < length ps) (is : (d : Place) → (get_or ps i d).index ≡ n) (some : X) where
  -- there is such an entry
  removed_within : (d : Place) → n < length xs
  removed_within d = omega (arith, (are.each i d within).within, is d)

  -- the index of a place that remains, before the removal
  stood : (k : ℕ) → k < length (remove ps i) → (j : ℕ) × (j < length ps) × (j ≢ i) ×
      ((d : Place) → get_or (remove ps i) k d ≡ get_or ps j d)
  stood k in_range = elim (cases_lt k i) [
    | inl before ↦ (k, omega (arith, before, within), λ same. omega (arith, same, before), λ d. get_or-remove_below ps i d k before within)
    | inr from ↦ (
      k + 1,
      omega (arith, in_range, length-remove ps i within),
      λ same. omega (arith, same, from),
      λ d. get_or-remove_above ps i d k from within,
    )
  ]

  -- the place of another entry, which remains
  abbrev pub IsOther : Place → Type 0
  IsOther p = (p.index ≢ n) × IsPlaceIn f xs p

  -- all places that remain are of other entries
  others : All IsOther (remove ps i)
  others k d in_range =
      let old = stood k in_range in
      rw (old.3 d) (λ same. old.2 (one_place f xs ps few are old.0 i d old.1 within (same ∙ sym (is d)) some), are.each old.0 d old.1)

  -- the places are still ascending
  ascending_still : AllPairs (λ p q. rank_of p < rank_of q) (map (place_after_removal n) (remove ps i))
  ascending_still a b d before in_range =
      let long = length_mapped (place_after_removal n) (remove ps i) in
      let b_in : b < length (remove ps i) = omega (arith, in_range, long) in
      let a_in : a < length (remove ps i) = omega (arith, before, b_in) in
      let p = others a d a_in in
      let q = others b d b_in in
      rw (read_mapped (place_after_removal n) (remove ps i) a d d a_in, read_mapped (place_after_removal n) (remove ps i) b d d b_in)
      (lowered_order n _ _ p.0 q.0 (omega (arith, p.1.within, few)) (omega (arith, q.1.within, few))
      (all_pairs_remove (λ p q. rank_of p < rank_of q) ps i within are.ascending a b d before b_in))

  -- the place of an entry that remains, among those that remain
  lowered_place : (p : Place) → IsOther p → IsPlaceIn f (remove xs n) (place_after_removal n p)
  lowered_place p other =
      let there : n < length xs = removed_within p in
      let long = length-remove xs n there in
      elim (cases_lt p.index n) [
        | inl before ↦
            let same = lowered_before n p before in
            record {
              within = omega (arith, same, before, there, long);
              same = λ d. ap (λ m. f (get_or (remove xs n) m d)) same
                  ∙ ap f (get_or-remove_below xs n d p.index before there) ∙ other.1.same d;
            }
        | inr from ↦
            let moved = lowered_after n p (omega (arith, from, other.0)) in
            record {
              within = omega (arith, moved, other.1.within, long);
              same = λ d. ap f (get_or-remove_above xs n d (place_after_removal n p).index (omega (arith, moved, from, other.0)) there)
                  ∙ ap (λ m. f (get_or xs m d)) moved ∙ other.1.same d;
            }
      ]

  -- the index of the place of an entry that was at m before
  left_at : (m : ℕ) → m < length xs → m ≢ n → (k : ℕ) × (k < length (remove ps i)) × ((d : Place) → (get_or (remove ps i) k d).index ≡ m)
  left_at m in_range other =
      let there = are.all m in_range in
      let long = length-remove ps i within in
      elim (cases_lt there.0 i) [
        | inl before ↦ (
          there.0,
          omega (arith, before, within, long),
          λ d. ap (λ (p : Place). p.index)
              (get_or-remove_below ps i d there.0 before within) ∙ there.2 d,
        )
        | inr from ↦
            let behind : i < there.0 = apart there.0 there.2 from in
            let up : (there.0 - 1) + 1 ≡ there.0 = omega (arith, behind) in (
              there.0 - 1,
              omega (arith, behind, there.1, long),
              λ d. ap (λ (p : Place). p.index)
                  (get_or-remove_above ps i d (there.0 - 1) (omega (arith, behind)) within ∙ ap (λ k. get_or ps k d) up) ∙ there.2 d,
            )
      ]
    where
      apart : (j : ℕ) → ((d : Place) → (get_or ps j d).index ≡ m) → i ≤ j → i < j
      apart j at_m from = elim (cases_lt i j) [
        | inl behind ↦ behind
        | inr to ↦
            let blank : Place = record { key = 0; index = 0 } in
            let same : j ≡ i = omega (arith, from, to) in
            absurd (other (sym (at_m blank) ∙ ap (λ k. (get_or ps k blank).index) same ∙ is blank))
      ]

  -- the places that remain are those of the entries that remain
  pub places_without : ArePlaces f (remove xs n) (map (place_after_removal n) (remove ps i))
  places_without = record {
    as_many = omega (
      arith,
      length_mapped (place_after_removal n) (remove ps i),
      length-remove ps i within,
      length-remove xs n (removed_within blank),
      are.as_many,
    );
    ascending = ascending_still;
    each =
        All-map (IsPlaceIn f (remove xs n)) (place_after_removal n) (remove ps i) (λ k d in_range. lowered_place _ (others k d in_range));
    all = λ m in_range. elim (cases_lt m n)
        [ inl before ↦ at_front m before | inr from ↦ at_back m from (omega (arith, in_range, length-remove xs n (removed_within blank))) ];
  }
    where
      blank : Place
      blank = record { key = 0; index = 0 }

      at_front : (m : ℕ) → m < n → (k : ℕ) × (k < length (map (place_after_removal n) (remove ps i))) ×
          ((d : Place) → (get_or (map (place_after_removal n) (remove ps i)) k d).index ≡ m)
      at_front m before =
          let left = left_at m (omega (arith, before, removed_within blank)) (λ same. omega (arith, same, before)) in (
            left.0,
            omega (arith, left.1, length_mapped (place_after_removal n) (remove ps i)),
            λ d.
                ap (λ (p : Place). p.index) (read_mapped (place_after_removal n) (remove ps i) left.0 d d left.1)
                ∙ lowered_before n (get_or (remove ps i) left.0 d) (omega (arith, left.2 d, before)) ∙ left.2 d,
          )

      at_back : (m : ℕ) → n ≤ m → m + 1 < length xs → (k : ℕ) × (k < length (map (place_after_removal n) (remove ps i))) ×
          ((d : Place) → (get_or (map (place_after_removal n) (remove ps i)) k d).index ≡ m)
      at_back m from in_range =
          let left = left_at (m + 1) in_range (λ same. omega (arith, same, from)) in (
            left.0,
            omega (arith, left.1, length_mapped (place_after_removal n) (remove ps i)),
            λ d.
                let moved = lowered_after n (get_or (remove ps i) left.0 d) (omega (arith, left.2 d, from)) in
                let index : (place_after_removal n (get_or (remove ps i) left.0 d)).index ≡ m = omega (arith, moved, left.2 d) in
                ap (λ (p : Place). p.index) (read_mapped (place_after_removal n) (remove ps i) left.0 d d left.1) ∙ index,
          )

-- the same, for a place that was read
pub places_left : {X : Type 0} (f : X → ℕ) (xs : List X) (ps : List Place) → length xs ≤ 65536 → ArePlaces f xs ps → (i : ℕ) →
    i < length ps → (p : Place) → p ≡ get_or ps i p → X → ArePlaces f (remove xs p.index) (map (place_after_removal p.index) (remove ps i))
places_left f xs ps few are i within p read some =
    places_without f xs ps few are i p.index within (λ d. ap (λ (q : Place). q.index) (get_or_default ps i d p within ∙ sym read)) some
