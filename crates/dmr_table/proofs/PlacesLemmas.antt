-- Places, the entries that they show, and changes of both.
use Rattle.std.proofs.Common.{arith, ◌≡◌, ◌≢◌, ℕ, ◌+◌, ◌-◌, ◌*◌, ◌<◌, ◌≤◌, List, [], ◌∷◌, ◌++◌, length, inl, inr, sym, ap, refl, ◌∙◌, true}
use Rattle.std.proofs.Common.{false, get_or, take, drop, ltb, ltb-true, eq-eqb}
use Rattle.std.specs.List.{All, AllPairs, insert}
use Rattle.std.specs.List.Sorted.{IsNonDecreasingBy, IsPartitionPoint}
use Rattle.std.proofs.lemmas.Bool.{cases_lt}
use Rattle.std.proofs.lemmas.Bool.Decides.{nat_tests}
use Rattle.std.proofs.lemmas.List.Edits.{length-insert, get_or-insert_below, get_or-insert_at, get_or-insert_above}
use Rattle.std.proofs.lemmas.List.Elements.{All-append, All-take, All-drop, All-cons, All-weaker}
use Rattle.std.proofs.lemmas.List.{length_push, get_or_append_left, get_or_push}
use Rattle.std.specs.Prelude.{◌==◌}
use Rattle.dmr_table.specs.declared.places.Place.{Place}
use Rattle.dmr_table.specs.Places.{rank_of, AreAscending, IsGap, HasFirst, IsPlaceIn, ArePlaces}
use Rattle.dmr_table.specs.Entries.{IsLeastFrom}
use Rattle.dmr_table.proofs.EntriesLemmas.{IsFirst}

-- two numbers that differ
not_same : (a b : ℕ) → a ≢ b → (a == b) ≡ false
not_same a b other = grind (arith, nat_tests)

-- the ranks ascend
pub non_decreasing : (ps : List Place) → AreAscending ps → IsNonDecreasingBy rank_of ps
non_decreasing ps up i j d le within = elim (cases_lt i j) [
  | inl before ↦ omega (arith, up i j d before within)
  | inr after ↦
      let same : i ≡ j = omega (arith, le, after) in
      let ranks : rank_of (get_or ps i d) ≡ rank_of (get_or ps j d) = ap (λ k. rank_of (get_or ps k d)) same in
      omega (arith, ranks)
]

-- a partition point is a gap
pub gap_found : (ps : List Place) (rank gap : ℕ) → gap ≤ length ps → IsPartitionPoint (λ p. ltb (rank_of p) rank ≡ true)
    (λ p. ltb (rank_of p) rank ≡ false) ps gap → IsGap ps rank gap
gap_found ps rank gap within point = record {
  within = within;
  below = λ k d before. ltb-true _ _ (point.0 k d (omega arith) before);
  above = λ k d from in_range. let past = point.1 k d from in_range in grind (arith, nat_tests);
}

-- ascending pairs remain so with one more between those below it and those above
pub all_pairs_insert : {X : Type 0} (R : X → X → Type 0) (xs : List X) (i : ℕ) (y : X) → AllPairs R xs → i ≤ length xs →
    ((k : ℕ) (d : X) → k < i → R (get_or xs k d) y) → ((k : ℕ) (d : X) → i ≤ k → k < length xs → R y (get_or xs k d)) →
    AllPairs R (insert xs i y)
all_pairs_insert {X} R xs i y all within below above a b d before in_range =
    let long = length-insert xs i y within in
    elim (cases_lt b i) [
      | inl b_below ↦ rw (
        get_or-insert_below xs i y d a (omega (arith, before, b_below)) within,
        get_or-insert_below xs i y d b b_below within,
      ) (all a b d before (omega (arith, b_below, within)))
      | inr b_from ↦ elim (cases_lt i b) [
        | inl b_above ↦
            let up : b ≡ (b - 1) + 1 = omega (arith, b_above) in
            let there : get_or (insert xs i y) b d ≡ get_or xs (b - 1) d =
            ap (λ k. get_or (insert xs i y) k d) up ∙ get_or-insert_above xs i y d (b - 1) (omega (arith, b_above)) within in
            rw there (elim (cases_lt a i) [
              | inl a_below ↦ rw (get_or-insert_below xs i y d a a_below within)
                  (all a (b - 1) d (omega (arith, a_below, b_above)) (omega (arith, in_range, long, b_above)))
              | inr a_from ↦ elim (cases_lt i a) [
                | inl a_above ↦
                    let up_a : a ≡ (a - 1) + 1 = omega (arith, a_above) in
                    let there_a : get_or (insert xs i y) a d ≡ get_or xs (a - 1) d =
                    ap (λ k. get_or (insert xs i y) k d) up_a ∙ get_or-insert_above xs i y d (a - 1) (omega (arith, a_above)) within in
                    rw there_a (all (a - 1) (b - 1) d (omega (arith, before, a_above)) (omega (arith, in_range, long, b_above)))
                | inr a_to ↦
                    let here : i ≡ a = omega (arith, a_from, a_to) in
                    let there_a : get_or (insert xs i y) a d ≡ y =
                    ap (λ k. get_or (insert xs i y) k d) (sym here) ∙ get_or-insert_at xs i y d within in
                    rw there_a (above (b - 1) d (omega (arith, b_above)) (omega (arith, in_range, long, b_above)))
              ]
            ])
        | inr b_to ↦
            let here : i ≡ b = omega (arith, b_from, b_to) in
            let there : get_or (insert xs i y) b d ≡ y =
            ap (λ k. get_or (insert xs i y) k d) (sym here) ∙ get_or-insert_at xs i y d within in
            rw (there, get_or-insert_below xs i y d a (omega (arith, before, here)) within) (below a d (omega (arith, before, here)))
      ]
    ]

-- a statement about all elements, and about one more, holds of all with it
pub all_insert : {X : Type 0} (P : X → Type 0) (xs : List X) (i : ℕ) (y : X) → i ≤ length xs → All P xs → P y → All P (insert xs i y)
all_insert P xs i y within all here =
    All-append P (take i xs) (y ∷ drop i xs) (All-take P i xs all) (All-cons P y (drop i xs) here (All-drop P i xs all))

module _ {X : Type 0} (f : X → ℕ) (xs : List X) (ps : List Place) (few : length xs ≤ 65536) (are : ArePlaces f xs ps) where
  -- the index among the places of an entry's place
  pub place_of : (m : ℕ) (d : X) → m < length xs → (j : ℕ) × (j < length ps) ×
      ((e : Place) → ((get_or ps j e).index ≡ m) × ((get_or ps j e).key ≡ f (get_or xs m d)))
  place_of m d within =
      let there = are.all m within in
      (there.0, there.1, λ e. (there.2 e, sym ((are.each there.0 e there.1).same d) ∙ ap (λ n. f (get_or xs n d)) (there.2 e)))

  -- places of the same index are the same place
  pub one_place : (i j : ℕ) (d : Place) → i < length ps → j < length ps → (get_or ps i d).index ≡ (get_or ps j d).index → X → i ≡ j
  one_place i j d i_within j_within same x =
      let key_i = (are.each i d i_within).same x in
      let key_j = (are.each j d j_within).same x in
      let keys : (get_or ps i d).key ≡ (get_or ps j d).key = sym key_i ∙ ap (λ n. f (get_or xs n x)) same ∙ key_j in
      elim (cases_lt i j) [
        | inl before ↦ absurd (omega (arith, are.ascending i j d before j_within, keys, same))
        | inr from ↦ elim (cases_lt j i) [
          | inl after ↦ absurd (omega (arith, are.ascending j i d after i_within, keys, same))
          | inr to ↦ omega (arith, from, to)
        ]
      ]

  -- the place of a new entry goes after all places below it
  pub places_with : (y : X) (p : Place) (i : ℕ) → length xs < 65536 → p.key ≡ f y → p.index ≡ length xs → IsGap ps (rank_of p) i →
      ArePlaces f (xs ++ y ∷ []) (insert ps i p)
  places_with y p i room key index gap = record {
    as_many = length-insert ps i p gap.within ∙ sym (length_push xs y ∙ ap (λ n. n + 1) (sym are.as_many));
    ascending = all_pairs_insert (λ p q. rank_of p < rank_of q) ps i p are.ascending gap.within gap.below
        (λ k d from in_range. omega (arith, gap.above k d from in_range, (are.each k d in_range).within, index, room));
    each = all_insert (IsPlaceIn f (xs ++ y ∷ [])) ps i p gap.within
        (All-weaker (IsPlaceIn f xs) (IsPlaceIn f (xs ++ y ∷ [])) longer ps are.each) new;
    all = λ n within. elim (cases_lt n (length xs))
        [ inl before ↦ older n before | inr from ↦ newest n (omega (arith, within, from, length_push xs y)) ];
  }
    where
      longer : (q : Place) → IsPlaceIn f xs q → IsPlaceIn f (xs ++ y ∷ []) q
      longer q is = record {
        within = omega (arith, is.within, length_push xs y);
        same = λ d. ap f (get_or_append_left xs (y ∷ []) d q.index is.within) ∙ is.same d;
      }

      new : IsPlaceIn f (xs ++ y ∷ []) p
      new = record {
        within = omega (arith, index, length_push xs y);
        same = λ d. ap (λ n. f (get_or (xs ++ y ∷ []) n d)) index
            ∙ ap f (get_or_push xs y d (length xs) refl) ∙ sym key;
      }

      older : (n : ℕ) → n < length xs → (j : ℕ) × (j < length (insert ps i p)) × ((d : Place) → (get_or (insert ps i p) j d).index ≡ n)
      older n before =
          let there = are.all n before in
          elim (cases_lt there.0 i) [
            | inl below ↦ (
              there.0,
              omega (arith, there.1, length-insert ps i p gap.within),
              λ d. ap (λ (q : Place). q.index) (get_or-insert_below ps i p d there.0 below gap.within) ∙ there.2 d,
            )
            | inr above ↦ (
              there.0 + 1,
              omega (arith, there.1, length-insert ps i p gap.within),
              λ d. ap (λ (q : Place). q.index) (get_or-insert_above ps i p d there.0 above gap.within) ∙ there.2 d,
            )
          ]

      newest : (n : ℕ) → n ≡ length xs → (j : ℕ) × (j < length (insert ps i p)) × ((d : Place) → (get_or (insert ps i p) j d).index ≡ n)
      newest n last = (
        i,
        omega (arith, gap.within, length-insert ps i p gap.within),
        λ d. ap (λ (q : Place). q.index) (get_or-insert_at ps i p d gap.within) ∙ index ∙ sym last,
      )

  -- the first place of a key is that of the first entry with the key
  pub first_is : (key i : ℕ) (e : Place) → HasFirst ps key i → (get_or ps i e).key ≡ key →
      IsFirst (λ x. f x == key) xs (get_or ps i e).index
  first_is key i e first here = record {
    within = (are.each i e first.within).within;
    passes = λ d. eq-eqb _ _ ((are.each i e first.within).same d ∙ here);
    earlier = λ k d before. not_same (f (get_or xs k d)) key (λ same.
        let there = place_of k d (omega (arith, before, (are.each i e first.within).within)) in
        let is = there.2 e in
        elim (cases_lt there.0 i) [
          | inl below ↦ omega (arith, first.gap.below there.0 e below, is.0, is.1, same)
          | inr from ↦ elim (cases_lt i there.0) [
            | inl above ↦ omega (arith, are.ascending i there.0 e above there.1, is.0, is.1, same, here, before)
            | inr to ↦
                let eq : i ≡ there.0 = omega (arith, from, to) in
                let index : (get_or ps i e).index ≡ (get_or ps there.0 e).index = ap (λ n. (get_or ps n e).index) eq in
                omega (arith, index, is.0, before)
          ]
        ]);
  }

  -- if the first place from a key on is of another key, no entry has the key
  pub none_is : (key i : ℕ) (e : Place) → HasFirst ps key i → (get_or ps i e).key ≢ key → All (λ x. (f x == key) ≡ false) xs
  none_is key i e first other k d within = not_same (f (get_or xs k d)) key (λ same.
      let there = place_of k d within in
      let is = there.2 e in
      let ranks : rank_of (get_or ps i e) ≤ rank_of (get_or ps there.0 e) = non_decreasing ps are.ascending i there.0 e
      (elim (cases_lt there.0 i) [
        | inl below ↦ absurd (omega (arith, first.gap.below there.0 e below, is.0, is.1, same))
        | inr from ↦
            from
      ]) there.1 in
      other (omega (
        arith,
        ranks,
        first.gap.above i e (omega arith) first.within,
        is.0,
        is.1,
        same,
        within,
        few,
        (are.each i e first.within).within,
      )))

  -- if no place is from a key on, the keys of all entries are below it
  pub all_below : (key : ℕ) → IsGap ps (key * 65536) (length ps) → All (λ x. f x < key) xs
  all_below key gap k d within =
      let blank : Place = record { key = 0; index = 0 } in
      let there = place_of k d within in
      let is = there.2 blank in
      omega (arith, gap.below there.0 blank there.1, is.0, is.1)

  -- the first place from a key on is that of an entry with the least key from there
  pub least_is : (key i : ℕ) (e : Place) (x : X) → HasFirst ps key i → x ≡ get_or xs (get_or ps i e).index x → IsLeastFrom f key xs x
  least_is key i e x first read =
      let here = are.each i e first.within in
      let own : f x ≡ (get_or ps i e).key = ap f read ∙ here.same x in record {
        stands = ((get_or ps i e).index, here.within, sym read);
        reaches = omega (arith, first.gap.above i e (omega arith) first.within, own, here.within, few);
        below = λ k d within from.
            let there = place_of k d within in
            let is = there.2 e in
            let ranks : rank_of (get_or ps i e) ≤ rank_of (get_or ps there.0 e) = non_decreasing ps are.ascending i there.0 e
            (elim (cases_lt there.0 i) [
              | inl below ↦ absurd (omega (arith, first.gap.below there.0 e below, is.0, is.1, from))
              | inr
                  after ↦ after
            ]) there.1 in
            omega (arith, ranks, own, is.0, is.1, within, few);
      }
