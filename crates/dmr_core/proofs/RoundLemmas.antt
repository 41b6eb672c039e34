-- Going round the places: how many are passed before the turn of a place.
use Rattle.std.proofs.Common.{◌≡◌, ◌≢◌, ◌<◌, ◌≤◌, ◌+◌, ◌-◌, ◌⊎◌, inl, inr, ℕ, zero, suc, List, [], ◌∷◌, Bool, true, false, refl, sym, ◌∙◌}
use Rattle.std.proofs.Common.{ap, arith, length, filter}
use Rattle.std.specs.Prelude.{cond, ◌&&◌}
use Rattle.std.proofs.lemmas.Bool.{and_parts, and_right, cases_Bool, cases_lt, false_from_ne_true}
use Rattle.dmr_pdu.specs.declared.slots.Slot.{Slot}
use Rattle.dmr_calls.specs.declared.call.ActiveCall.{ActiveCall}
use Rattle.dmr_calls.specs.Calls.{is_slot}
use Rattle.dmr_pdu.specs.Slots.{place, slot_at}
use Rattle.dmr_calls.specs.After.{is_group_at, IsNext, NonePass}
use Rattle.dmr_calls.proofs.Laws.{same_slot}
use Rattle.dmr_core.specs.Turns.{talkgroup_calls}
use Rattle.dmr_core.proofs.ListLemmas.{true_false}
use Rattle.dmr_pdu.proofs.ListLaws.{place-slot_at}

-- 1 if the test passes, else 0
abbrev pub one : Bool → ℕ
one b = cond b 1 0

-- the number of places that pass, of `n` places from one on
pub counted : (ℕ → Bool) → ℕ → ℕ → ℕ
counted g from zero = 0
counted g from (suc n) = one (g from) + counted g (from + 1) n

-- the number of places that pass, from one on and before another
abbrev pub between : (ℕ → Bool) → ℕ → ℕ → ℕ
between g from to = counted g from (to - from)

split : (g : ℕ → Bool) (from n m : ℕ) → counted g from (n + m) ≡ counted g from n + counted g (from + n) m
unfolding counted
split g from zero m =
    let there : from + 0 ≡ from = omega arith in
    let all : zero + m ≡ m = omega arith in
    omega (arith, ap (λ k. counted g k m) there, ap (counted g from) all)
split g from (suc n) m =
    let there : from + 1 + n ≡ from + suc n = omega arith in
    let all : suc n + m ≡ suc (n + m) = omega arith in
    let first : counted g from (suc n + m) ≡ one (g from) + counted g (from + 1) (n + m) = ap (counted g from) all in
    let more : counted g (from + 1) (n + m) ≡ counted g (from + 1) n + counted g (from + 1 + n) m = split g (from + 1) n m in
    omega (arith, first, more, ap (λ k. counted g k m) there)

pub parts : (g : ℕ → Bool) (from mid to : ℕ) → from ≤ mid → mid ≤ to → between g from to ≡ between g from mid + between g mid to
parts g from mid to low high =
    let whole : to - from ≡ (mid - from) + (to - mid) = omega (arith, low, high) in
    let there : from + (mid - from) ≡ mid = omega (arith, low) in
    ap (counted g from) whole ∙ split g from (mid - from) (to - mid) ∙ ap (λ k. between g from mid + counted g k (to - mid)) there

-- one that passes is counted
one_there : (g : ℕ → Bool) (at : ℕ) → g at ≡ true → between g at (at + 1) ≡ 1
unfolding counted
one_there g at h =
    let single : at + 1 - at ≡ 1 = omega arith in
    ap (counted g at) single ∙ rw h (omega arith)

pub reached : (g : ℕ → Bool) (from at : ℕ) → from ≤ at → g at ≡ true → 1 ≤ between g from (at + 1)
reached g from at low h = omega (arith, parts g from at (at + 1) low (omega arith), one_there g at h)

-- the turn of a place comes within `d` places that pass, the place itself included
abbrev pub IsWithin : (ℕ → Bool) → ℕ → ℕ → ℕ → Type 0
IsWithin g from t d =
    ((from ≤ t) × (between g from (t + 1) ≤ d)) ⊎ ((t < from) × (between g from 32 + between g 0 (t + 1) ≤ d))

pub at_first : (g : ℕ → Bool) (from t : ℕ) → t < 32 → IsWithin g from t (between g 0 32)
unfolding counted
at_first g from t small = elim (cases_lt t from) [
  | inl above ↦ inr (above, far (cases_lt 32 from) above)
  | inr low ↦ (
      let before = parts g 0 from 32 (omega arith) (omega (arith, low, small)) in
      let after = parts g from (t + 1) 32 (omega (arith, low)) (omega (arith, small)) in
      inl (low, omega (arith, before, after))
      )
]
  where
    far : (32 < from) ⊎ (from ≤ 32) → t < from → between g from 32 + between g 0 (t + 1) ≤ between g 0 32
    far (inl beyond) above =
        let none : 32 - from ≡ 0 = omega (arith, beyond) in
        let nothing : between g from 32 ≡ 0 = ap (counted g from) none in
        omega (arith, nothing, parts g 0 (t + 1) 32 (omega arith) (omega (arith, small)))
    far (inr near) above =
        omega (arith, parts g 0 (t + 1) 32 (omega arith) (omega (arith, small)), parts g (t + 1) from 32 (omega (arith, above)) near)

pub some_left : (g : ℕ → Bool) (from t d : ℕ) → g t ≡ true → IsWithin g from t d → 1 ≤ d
some_left g from t d h (inl low) = omega (arith, reached g from t low.0 h, low.1)
some_left g from t d h (inr high) = omega (arith, reached g 0 t (omega arith) h, high.1)

-- one that passes is not before the first that does
not_before : (g : ℕ → Bool) (from t at : ℕ) → g t ≡ true → from ≤ t → NonePass g from at → at ≤ t
not_before g from t at h low none = elim (cases_lt t at) [ inl early ↦ true_false _ h (none t low early) | inr late ↦ late ]

-- at most, and not the same
less : (a b : ℕ) → a ≤ b → a ≢ b → a < b
less a b low other = elim (cases_lt a b) [ inl below ↦ below | inr above ↦ absurd (other (omega (arith, low, above))) ]

-- when it is another's turn, the place is nearer to its own
pub nearer : (g : ℕ → Bool) (from t d at : ℕ) → t < 32 → g t ≡ true → at ≢ t → IsNext g from at → IsWithin g from t d →
    IsWithin g (at + 1) t (d - 1)
nearer g from t d at small h other (inl first) (inl low) =
    let near : at ≤ t = not_before g from t at h low.0 first.before in
    let before : at < t = less at t near other in
    inl (
      omega (arith, before),
      omega (
        arith,
        low.1,
        parts g from (at + 1) (t + 1) (omega (arith, first.reached)) (omega (arith, before)),
        reached g from at first.reached first.passing,
      ),
    )
nearer g from t d at small h other (inl first) (inr high) =
    inr (
      omega (arith, first.reached, high.0),
      omega (
        arith,
        high.1,
        parts g from (at + 1) 32 (omega (arith, first.reached)) (omega (arith, first.within)),
        reached g from at first.reached first.passing,
      ),
    )
nearer g from t d at small h other (inr around) (inl low) = true_false _ h (around.0 t low.0 small)
nearer g from t d at small h other (inr around) (inr high) =
    let near : at ≤ t = not_before g 0 t at h (omega arith) around.1.before in
    let before : at < t = less at t near other in
    inl (
      omega (arith, before),
      omega
          (arith, high.1, parts g 0 (at + 1) (t + 1) (omega arith) (omega (arith, before)), reached g 0 at (omega arith) around.1.passing),
    )

-- at most as many places have a talkgroup call as talkgroup calls are active
none_passes : (g : ℕ → Bool) (from n : ℕ) → ((k : ℕ) → from ≤ k → g k ≡ false) → counted g from n ≡ 0
unfolding counted
none_passes g from zero none = refl
none_passes g from (suc n) none =
    let more : counted g (from + 1) n ≡ 0 = none_passes g (from + 1) n (λ k low. none k (omega (arith, low))) in
    let here : one (g from) ≡ 0 = ap one (none from (omega arith)) in
    omega (arith, here, more)

single : (g : ℕ → Bool) (at from n : ℕ) → ((k : ℕ) → g k ≡ true → k ≡ at) → counted g from n ≤ 1
unfolding counted
single g at from zero only = omega arith
single g at from (suc n) only = elim (cases_Bool (g from)) [
  | inl e ↦ (
      let others : (k : ℕ) → from + 1 ≤ k → g k ≡ false = λ k low. false_from_ne_true _ (λ t. omega (arith, low, only k t, only from e)) in
      let none = none_passes g (from + 1) n others in
      rw e (omega arith)
      )
  | inr e ↦ rw e (omega (arith, single g at (from + 1) n only))
]

sums : (g h f : ℕ → Bool) (from n : ℕ) → ((k : ℕ) → one (g k) ≤ one (h k) + one (f k)) →
    counted g from n ≤ counted h from n + counted f from n
unfolding counted
sums g h f from zero fewer = omega arith
sums g h f from (suc n) fewer = omega (arith, fewer from, sums g h f (from + 1) n fewer)

-- the slot of a call is at one place
on_place : (s : Slot) (k : ℕ) → is_slot s (slot_at k) ≡ true → k ≡ place s
on_place s k h = sym (place-slot_at k) ∙ sym (ap place (same_slot s (slot_at k) h))

group_of : (s : ActiveCall) (calls : List ActiveCall) (k : ℕ)
    → one (is_group_at (s ∷ calls) k) ≤ one (is_slot s.call.slot (slot_at k) && s.call.group) + one (is_group_at calls k)
group_of s calls k = grind arith

here_or_none : (s : ActiveCall) → counted (λ k. is_slot s.call.slot (slot_at k) && s.call.group) 0 32 ≤ one s.call.group
here_or_none s = elim (cases_Bool s.call.group) [
  | inl e ↦ rw e (single (λ k. is_slot s.call.slot (slot_at k) && true) (place s.call.slot) 0 32
      (λ k h. on_place s.call.slot k (and_parts _ _ h).0))
  | inr e ↦ (
      let none = none_passes (λ k. is_slot s.call.slot (slot_at k) && s.call.group) 0 32 (λ k low. and_right _ _ e) in
      omega (arith, none)
      )
]

pub few_places : (calls : List ActiveCall) → between (is_group_at calls) 0 32 ≤ talkgroup_calls calls
few_places [] = let none : counted (is_group_at []) 0 32 ≡ 0 = none_passes (is_group_at []) 0 32 (λ k low. refl) in omega (arith, none)
few_places (s ∷ calls) =
    let here : ℕ → Bool = λ k. is_slot s.call.slot (slot_at k) && s.call.group in
    let both = sums (is_group_at (s ∷ calls)) here (is_group_at calls) 0 32 (group_of s calls) in
    omega (arith, both, here_or_none s, few_places calls, more s.call.group)
  where
    more : (b : Bool) → length (cond b (s ∷ filter (λ (x : ActiveCall). x.call.group) calls)
        (filter (λ (x : ActiveCall). x.call.group) calls))
        ≡ one b + talkgroup_calls calls
    more b = grind arith
