-- Going round the slots: the call that is found is the next talkgroup call.
use Rattle.std.proofs.Common.{arith, ◌≡◌, ℕ, zero, suc, ◌+◌, ◌-◌, ◌<◌, ◌≤◌, inl, inr, List, [], ◌∷◌, Bool, true, false, refl, sym, ◌∙◌}
use Rattle.std.proofs.Common.{subst, ap}
use Rattle.std.specs.Prelude.{◌/◌, ◌%◌, Option, Some, None, MatchOption, IfSome, find}
use Rattle.std.specs.List.{range_with_len}
use Rattle.std.specs.Option.{option_and_then, option_map_or, option_or}
use Rattle.std.proofs.lemmas.Bool.{both_ways, cases_Bool, cases_lt}
use Rattle.std.proofs.lemmas.Bool.Decides.{nat_tests}
use Rattle.dmr_pdu.specs.declared.slots.Slot.{Slot}
use Rattle.dmr_calls.specs.declared.call.Call.{Call}
use Rattle.dmr_calls.specs.declared.call.ActiveCall.{ActiveCall}
use Rattle.dmr_calls.specs.Calls.{call_on, is_slot}
use Rattle.dmr_pdu.specs.Slots.{IsSlot, place, slot_at}
use Rattle.dmr_calls.specs.After.{is_group_on, is_group_at, place_after, group_place, group_after, IsBelow, IsAbove, HasNoGroupCall}
use Rattle.dmr_calls.specs.After.{IsNextGroupCall, IsFirst, IsNext, IsTurn, NonePass}
use Rattle.dmr_pdu.proofs.ListLaws.{place-slot_at}

-- if one more place does not pass, none passes from there on
none_more : (passes : ℕ → Bool) (from to : ℕ) → passes from ≡ false → NonePass passes (from + 1) to → NonePass passes from to
none_more passes from to here after k reached below = elim (cases_lt from k) [
  | inl less ↦ after k (omega arith) below
  | inr there ↦ (let same : from ≡ k = omega arith in subst (λ n. passes n ≡ false) same here)
]

-- the same about the place that is found
one_more : (passes : ℕ → Bool) (from to : ℕ) (found : Option ℕ) → passes from ≡ false
    → MatchOption found (NonePass passes (from + 1) to) (IsFirst passes (from + 1) to)
    → MatchOption found (NonePass passes from to) (IsFirst passes from to)
one_more passes from to None here after = none_more passes from to here after
one_more passes from to (Some at) here after = record {
  reached = omega (arith, after.reached);
  within = after.within;
  passing = after.passing;
  before = none_more passes from at here after.before;
}

-- the place found among `n` places is the first that passes, if any does
found_first : (passes : ℕ → Bool) (from n to : ℕ) → from + n ≡ to
    → MatchOption (find passes (range_with_len from n)) (NonePass passes from to) (IsFirst passes from to)
found_first passes from zero to all = λ k reached below. absurd (omega arith)
found_first passes from (suc n) to all = elim (cases_Bool (passes from)) [
  | inl here ↦ rw here (record {
    reached = omega arith;
    within = omega arith;
    passing = here;
    before = λ k reached below. absurd (omega arith);
  })
  | inr here ↦ rw here (one_more passes from to (find passes (range_with_len (from + 1) n)) here
      (found_first passes (from + 1) n to (omega arith)))
]

-- a slot is the one at its place
pub slot_at-place : (slot : Slot) → slot.slot < 2 → slot_at (place slot) ≡ slot
slot_at-place slot small =
    let carrier : place slot / 2 ≡ slot.carrier = omega (arith, small) in
    let number : place slot % 2 ≡ slot.slot = omega (arith, small) in
    λ i. record { carrier = carrier i; slot = number i }

-- a slot of the site is below another if its place is lower
pub below-place : (a b : Slot) → a.slot < 2 → b.slot < 2 → IsBelow a b → place a < place b
below-place a b small also (inl less) = omega (arith, small, also, less)
below-place a b small also (inr same) = omega (arith, small, also, same.0, same.1)

place-below : (a b : Slot) → a.slot < 2 → b.slot < 2 → place a < place b → IsBelow a b
place-below a b small also less = elim (cases_lt a.carrier b.carrier) [
  | inl low ↦ inl low
  | inr high ↦ inr (omega (arith, small, also, less, high), omega (arith, small, also, less, high))
]

-- slots that are the same by test
pub same_slot : (a b : Slot) → is_slot a b ≡ true → a ≡ b
same_slot a b e =
    let carrier : a.carrier ≡ b.carrier = grind (arith, nat_tests) in
    let number : a.slot ≡ b.slot = grind (arith, nat_tests) in
    λ i. record { carrier = carrier i; slot = number i }

-- the call that is found on a slot is on it
on_its_slot : (calls : List ActiveCall) (slot : Slot) (call : Call) → call_on calls slot ≡ Some call → call.slot ≡ slot
on_its_slot [] slot call h = cc
on_its_slot (s ∷ calls) slot call h =
    let more = on_its_slot calls slot call in let same = same_slot s.call.slot slot in grind arith

-- an active talkgroup call on a slot
pub record IsGroupOn (calls : List ActiveCall) (slot : Slot) (call : Call) : Type 0 where
  pub stands : call_on calls slot ≡ Some call
  pub group : call.group ≡ true
  pub there : call.slot ≡ slot

pub group_on : (calls : List ActiveCall) (slot : Slot) → is_group_on calls slot ≡ true → (call : Call) × IsGroupOn calls slot call
group_on calls slot h = either (call_on calls slot) refl h
  where
    either : (o : Option Call) → call_on calls slot ≡ o → option_map_or (λ (call : Call). call.group) o false ≡ true → (call : Call) ×
        IsGroupOn calls slot call
    either None e k = cc
    either (Some call) e k = (call, record { stands = e; group = k; there = on_its_slot calls slot call e })

-- a slot above the last one has a place at or after the one that follows the last
pub after_last : (last : Option Slot) (slot : Slot) → IfSome last IsSlot → slot.slot < 2 → IsAbove last slot → place_after last ≤ place slot
after_last None slot is small above = omega arith
after_last (Some l) slot is small above = omega (arith, below-place l slot is.1 small above)

pub above_last : (last : Option Slot) (slot : Slot) → IfSome last IsSlot → slot.slot < 2 → place_after last ≤ place slot → IsAbove last slot
above_last None slot is small behind = tt
above_last (Some l) slot is small behind = place-below l slot is.1 small (omega (arith, behind))

-- a test of a slot is one of its place
pub at_place : (calls : List ActiveCall) (slot : Slot) (b : Bool) → slot.slot < 2 → is_group_on calls slot ≡ b →
    is_group_at calls (place slot) ≡ b
at_place calls slot b small h = subst (λ (s : Slot). is_group_on calls s ≡ b) (sym (slot_at-place slot small)) h

none_before : (calls : List ActiveCall) (from to : ℕ) (other : Slot) → NonePass (is_group_at calls) from to → other.slot < 2
    → is_group_on calls other ≡ true → from ≤ place other → place other < to → ⊥
none_before calls from to other none small group reached below =
    both_ways (is_group_at calls (place other)) (none (place other) reached below) (at_place calls other true small group)

-- the first after the last
next_above : (calls : List ActiveCall) (last : Option Slot) (k : ℕ) (call : Call) → IfSome last IsSlot →
    IsFirst (is_group_at calls) (place_after last) 32 k → IsGroupOn calls (slot_at k) call → IsNextGroupCall calls last call
next_above calls last k call is first on =
    let at : place call.slot ≡ k = ap place on.there ∙ place-slot_at k in
    let within : IsSlot call.slot = subst IsSlot (sym on.there) (omega (arith, first.within), omega arith) in
    let above : IsAbove last call.slot = above_last last call.slot is within.1 (omega (arith, at, first.reached)) in
    record {
      within = within;
      stands = subst (λ (s : Slot). call_on calls s ≡ Some call) (sym on.there) on.stands;
      group = on.group;
      above = λ other site group behind. (
        above,
        λ below.
            none_before calls (place_after last) k other first.before site.1 group (after_last last other is site.1 behind)
            (omega (arith, at, below-place other call.slot site.1 within.1 below)),
      );
      around = λ no other site group below. no above;
    }

-- the first of all, if there is none after the last
next_around : (calls : List ActiveCall) (last : Option Slot) (k : ℕ) (call : Call) → IfSome last IsSlot →
    NonePass (is_group_at calls) (place_after last) 32 → IsFirst (is_group_at calls) 0 32 k → IsGroupOn calls (slot_at k) call →
    IsNextGroupCall calls last call
next_around calls last k call is none first on =
    let at : place call.slot ≡ k = ap place on.there ∙ place-slot_at k in
    let within : IsSlot call.slot = subst IsSlot (sym on.there) (omega (arith, first.within), omega arith) in
    record {
      within = within;
      stands = subst (λ (s : Slot). call_on calls s ≡ Some call) (sym on.there) on.stands;
      group = on.group;
      above = λ other site group behind. absurd
          (none_before calls (place_after last) 32 other none site.1 group (after_last last other is site.1 behind)
          (omega (arith, site.0, site.1)));
      around = λ no other site group below. none_before calls 0 k other first.before site.1 group (omega arith)
          (omega (arith, at, below-place other call.slot site.1 within.1 below));
    }

no_group : (calls : List ActiveCall) → NonePass (is_group_at calls) 0 32 → HasNoGroupCall calls
no_group calls none slot is =
    subst (λ (s : Slot). is_group_on calls s ≡ false) (slot_at-place slot is.1)
    (none (place slot) (omega arith) (omega (arith, is.0, is.1)))

-- the place found among the places from one on, of which there may be none
found_from : (passes : ℕ → Bool) (from : ℕ)
    → MatchOption (find passes (range_with_len from (32 - from))) (NonePass passes from 32) (IsFirst passes from 32)
found_from passes from = elim (cases_lt 32 from) [
  | inl far ↦ (let none : 32 - from ≡ 0 = omega (arith, far) in rw none (λ k reached below. absurd (omega (arith, far))))
  | inr near ↦ found_first passes from (32 - from) 32 (omega (arith, near))
]

-- a talkgroup call whose turn it is: its place is the first from one on, or else the first of all
pub record IsFoundTurn (calls : List ActiveCall) (from : ℕ) (call : Call) : Type 0 where
  pub at : ℕ
  pub on : IsGroupOn calls (slot_at at) call
  pub turn : IsNext (is_group_at calls) from at

found_turn : (calls : List ActiveCall) (from : ℕ) (a b : Option ℕ) → MatchOption a (NonePass (is_group_at calls) from 32)
    (IsFirst (is_group_at calls) from 32) → MatchOption b (NonePass (is_group_at calls) 0 32) (IsFirst (is_group_at calls) 0 32) →
    MatchOption (option_and_then (λ place. call_on calls (slot_at place)) (option_or a b)) (NonePass (is_group_at calls) 0 32)
    (IsFoundTurn calls from)
found_turn calls from (Some k) b first other =
    let on = group_on calls (slot_at k) first.passing in
    rw on.1.stands (record { at = k; on = on.1; turn = inl first })
found_turn calls from None (Some k) none first =
    let on = group_on calls (slot_at k) first.passing in
    rw on.1.stands (record { at = k; on = on.1; turn = inr (none, first) })
found_turn calls from None None none also = also

found_after : (calls : List ActiveCall) (last : Option Slot) → MatchOption (group_after calls last) (NonePass (is_group_at calls) 0 32)
    (IsFoundTurn calls (place_after last))
unfolding group_after
found_after calls last =
    found_turn calls (place_after last) (group_place calls (place_after last)) (group_place calls 0)
    (found_from (is_group_at calls) (place_after last)) (found_from (is_group_at calls) 0)

-- it is the turn of the call that is found
turn_is : (calls : List ActiveCall) (from : ℕ) (o : Option Call) → MatchOption o (NonePass (is_group_at calls) 0 32)
    (IsFoundTurn calls from) → MatchOption o (HasNoGroupCall calls) (IsTurn calls from)
turn_is calls from None none = no_group calls none
turn_is calls from (Some call) found =
    let at : place call.slot ≡ found.at = ap place found.on.there ∙ place-slot_at found.at in
    record {
      stands = subst (λ (s : Slot). call_on calls s ≡ Some call) (sym found.on.there) found.on.stands;
      group = found.on.group;
      turn = subst (IsNext (is_group_at calls) from) (sym at) found.turn;
    }

pub turn_of : (calls : List ActiveCall) (last : Option Slot) → MatchOption (group_after calls last) (HasNoGroupCall calls)
    (IsTurn calls (place_after last))
turn_of calls last = turn_is calls (place_after last) (group_after calls last) (found_after calls last)

-- the call that is found is the next
next_is : (calls : List ActiveCall) (last : Option Slot) (o : Option Call) → IfSome last IsSlot →
    MatchOption o (NonePass (is_group_at calls) 0 32) (IsFoundTurn calls (place_after last)) →
    MatchOption o (HasNoGroupCall calls) (IsNextGroupCall calls last)
next_is calls last None is none = no_group calls none
next_is calls last (Some call) is found =
    elim found.turn [
      | inl first ↦ next_above calls last found.at call is first found.on
      | inr around ↦ next_around calls last found.at call is around.0 around.1 found.on
    ]

pub next_group_call : (calls : List ActiveCall) (last : Option Slot) → IfSome last IsSlot →
    MatchOption (group_after calls last) (HasNoGroupCall calls) (IsNextGroupCall calls last)
next_group_call calls last is = next_is calls last (group_after calls last) is (found_after calls last)

-- without calls, no place has a talkgroup call
none_found : (places : List ℕ) → find (is_group_at []) places ≡ None
none_found [] = refl
none_found (k ∷ places) = none_found places

pub no_place : (calls : List ActiveCall) (from : ℕ) → calls ≡ [] → group_place calls from ≡ None
no_place calls from none = let P : List ActiveCall → Type 0 = λ s. group_place s from ≡ None in
    subst P (sym none) (none_found (range_with_len from (32 - from)))
