-- The first free slot is free, and none before it is.
use Rattle.std.proofs.Common.{arith, ◌≡◌, ℕ, zero, suc, ◌+◌, ◌<◌, ◌≤◌, ◌⊎◌, inl, inr, Bool, true, false, refl, sym, subst, ap, ◌∙◌, map}
use Rattle.std.specs.Prelude.{◌/◌, ◌%◌, Option, Some, None, MatchOption, cond}
use Rattle.std.specs.List.{find, range_with_len}
use Rattle.std.proofs.lemmas.Bool.{cases_lt}
use Rattle.dmr_pdu.specs.declared.slots.Slot.{Slot}
use Rattle.dmr_pool.specs.Slots.{Slots, IsSlot, place, slot_at}
use Rattle.dmr_pool.specs.Free.{is_free, lowest_free, lowest_free_by, HasNoFreeSlot, IsLowestFree}

-- no slot passes from one place on and before another
abbrev NonePass : (Slot → Bool) → ℕ → ℕ → Type 0
NonePass passes from to = (k : ℕ) → from ≤ k → k < to → passes (slot_at k) ≡ false

-- a slot passes, and none before it does, from one place on and before another
record IsFirst (passes : Slot → Bool) (from to : ℕ) (slot : Slot) : Type 0 where
  pub at : ℕ
  pub is : slot_at at ≡ slot
  pub within : at < to
  pub passing : passes slot ≡ true
  pub before : NonePass passes from at

-- if the slot one place earlier does not pass either, none passes from there on
none_more : (passes : Slot → Bool) (from to : ℕ) → passes (slot_at from) ≡ false → NonePass passes (from + 1) to → NonePass passes from to
none_more passes from to here after k reached below = either (cases_lt from k)
  where
    either : (from < k) ⊎ (k ≤ from) → passes (slot_at k) ≡ false
    either (inl behind) = after k (omega arith) below
    either (inr there) = let same : from ≡ k = omega arith in subst (λ n. passes (slot_at n) ≡ false) same here

-- the same about the slot that is found
one_more : (passes : Slot → Bool) (from to : ℕ) (found : Option Slot) → passes (slot_at from) ≡ false
    → MatchOption found (NonePass passes (from + 1) to) (IsFirst passes (from + 1) to)
    → MatchOption found (NonePass passes from to) (IsFirst passes from to)
one_more passes from to None here after = none_more passes from to here after
one_more passes from to (Some slot) here after = record {
  at = after.at;
  is = after.is;
  within = after.within;
  passing = after.passing;
  before = none_more passes from after.at here after.before;
}

-- the slot found among those of `n` places is the first that passes, if any does
found_first : (passes : Slot → Bool) (from n to : ℕ) → from + n ≡ to
    → MatchOption (find passes (map slot_at (range_with_len from n))) (NonePass passes from to) (IsFirst passes from to)
found_first passes from zero to all = λ k reached below. absurd (omega arith)
found_first passes from (suc n) to all = either (passes (slot_at from)) refl (found_first passes (from + 1) n to (omega arith))
  where
    either : (b : Bool) → passes (slot_at from) ≡ b → MatchOption (find passes (map slot_at (range_with_len (from + 1) n)))
        (NonePass passes (from + 1) to) (IsFirst passes (from + 1) to)
        → MatchOption (cond b (Some (slot_at from)) (find passes (map slot_at (range_with_len (from + 1) n)))) (NonePass passes from to)
        (IsFirst passes from to)
    either true here after = record {
      at = from;
      is = refl;
      within = omega arith;
      passing = here;
      before =
          λ k reached below. absurd (omega arith);
    }
    either false here after = one_more passes from to (find passes (map slot_at (range_with_len (from + 1) n))) here after

-- a slot is the one at its place
pub slot_at-place : (slot : Slot) → IsSlot slot → slot_at (place slot) ≡ slot
slot_at-place slot is_slot =
    let carrier : place slot / 2 ≡ slot.carrier = omega (arith, is_slot.1) in
    let number : place slot % 2 ≡ slot.slot = omega (arith, is_slot.1) in
    λ i. record { carrier = carrier i; slot = number i }

-- the first free slot by places is the lowest
at_place : (slots : Slots) (found : Option Slot) → MatchOption found (NonePass (is_free slots) 0 32) (IsFirst (is_free slots) 0 32)
    → MatchOption found (HasNoFreeSlot slots) (IsLowestFree slots)
at_place slots None none = λ slot is_slot. subst (λ s. is_free slots s ≡ false) (slot_at-place slot is_slot)
    (none (place slot) (omega arith) (omega (arith, is_slot.0, is_slot.1)))
at_place slots (Some slot) first = record {
  within = subst IsSlot first.is (omega (arith, first.within), omega arith);
  free = first.passing;
  lowest = λ other is_slot below.
      let there : place (slot_at first.at) ≡ place slot = ap place first.is in
      subst (λ s. is_free slots s ≡ false) (slot_at-place other is_slot)
      (first.before (place other) (omega arith) (omega (arith, there, below)));
}

-- the lowest free slot is free, and none before it is; without one, none is
pub lowest_free-lowest : (slots : Slots) → MatchOption (lowest_free slots) (HasNoFreeSlot slots) (IsLowestFree slots)
unfolding lowest_free_by
lowest_free-lowest slots = at_place slots _ (found_first (is_free slots) 0 32 32 refl)

-- at most one slot is the lowest that is free
pub one_lowest : (slots : Slots) (a b : Option Slot) → MatchOption a (HasNoFreeSlot slots) (IsLowestFree slots)
    → MatchOption b (HasNoFreeSlot slots) (IsLowestFree slots) → a ≡ b
one_lowest slots None None h k = refl
one_lowest slots (Some a) None h k = let none : is_free slots a ≡ false = k a h.within in absurd (cc (h.free, none))
one_lowest slots None (Some b) h k = let none : is_free slots b ≡ false = h b k.within in absurd (cc (k.free, none))
one_lowest slots (Some a) (Some b) h k = either (cases_lt (place a) (place b))
  where
    same : place a ≡ place b → Some a ≡ Some b
    same e = ap (λ (s : Slot). Some s) (sym (slot_at-place a h.within) ∙ ap slot_at e ∙ slot_at-place b k.within)

    other : (place b < place a) ⊎ (place a ≤ place b) → place b ≤ place a → Some a ≡ Some b
    other (inl less) more = let none : is_free slots b ≡ false = h.lowest b k.within less in absurd (cc (k.free, none))
    other (inr less) more = same (omega arith)

    either : (place a < place b) ⊎ (place b ≤ place a) → Some a ≡ Some b
    either (inl less) = let none : is_free slots a ≡ false = k.lowest a h.within less in absurd (cc (h.free, none))
    either (inr less) = other (cases_lt (place b) (place a)) less
