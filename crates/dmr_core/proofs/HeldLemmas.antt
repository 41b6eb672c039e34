-- The slots that are held stay those of the calls.
use Rattle.std.proofs.Common.{◌≡◌, ◌<◌, ◌≢◌, ◌+◌, ◌*◌, ℕ, List, [], ◌∷◌, ◌++◌, Bool, true, false, refl, sym, ◌∙◌, subst, arith, length}
use Rattle.std.proofs.Common.{length-set, map, inl, inr}
use Rattle.std.specs.Prelude.{not, ◌||◌, ◌&&◌, ◌==◌, slice_set, slice_index_or, replicate}
use Rattle.std.proofs.lemmas.Bool.{cases_Bool, cases_lt, eqb-true, or_right}
use Rattle.std.proofs.lemmas.Bool.Decides.{nat_tests}
use Rattle.std.proofs.lemmas.List.{get_or-set_same, get_or-set_other}
use Rattle.dmr_pdu.specs.declared.slots.Slot.{Slot}
use Rattle.dmr_calls.specs.declared.call.Call.{Call}
use Rattle.dmr_calls.specs.declared.call.ActiveCall.{ActiveCall}
use Rattle.dmr_calls.specs.Calls.{is_slot, just_begun, one_tick_older, with_activity, on_other_slots, on_other_carriers}
use Rattle.dmr_pdu.specs.Slots.{slots_of_site}
use Rattle.dmr_pool.specs.Slots.{IsSlot, place, is_slot_held, held_without_carrier}
use Rattle.dmr_calls.proofs.Laws.{same_slot}
use Rattle.dmr_core.specs.Words.{has_call_on}
use Rattle.dmr_core.specs.Held.{HoldsCalls}
use Rattle.dmr_core.proofs.ListLemmas.{any-push}
use Rattle.dmr_core.proofs.CallsAreApart.{has_call_on-filter, has_call_on-map, marked_call, same_slots}
use Rattle.dmr_core.proofs.SlotsStaySound.{other_place}
use Rattle.dmr_pdu.proofs.ListLaws.{replicated}

-- a slot whose place is written, and another
written : (held : List Bool) (a : Slot) (b : Bool) → place a < length held → is_slot_held (slice_set held (place a) b) a ≡ b
written held a b within = get_or-set_same held (place a) b false within

unwritten : (held : List Bool) (a s : Slot) (b : Bool) → place s ≢ place a →
    is_slot_held (slice_set held (place a) b) s ≡ is_slot_held held s
unwritten held a s b apart = get_or-set_other held (place a) (place s) b false apart

-- a call begins
pub begun : (held : List Bool) (calls : List ActiveCall) (call : Call) → length held ≡ 32 → IsSlot call.slot → HoldsCalls held calls
    → HoldsCalls (slice_set held (place call.slot) true) (calls ++ just_begun call ∷ [])
begun held calls call size at h s is =
    let now : has_call_on (calls ++ just_begun call ∷ []) s ≡ (has_call_on calls s || is_slot s call.slot) =
    any-push (λ t. is_slot t.call.slot s) calls (just_begun call) ∙ rw (same_slots call.slot s) refl in
    elim (cases_Bool (is_slot s call.slot)) [
      | inl e ↦ subst (λ (x : Slot). is_slot_held (slice_set held (place call.slot) true) x ≡ true) (sym (same_slot s call.slot e))
          (written held call.slot true (omega (arith, size, at.0, at.1)))
          ∙ sym (now ∙ rw e (or_right (has_call_on calls s) true refl))
      | inr e ↦ unwritten held call.slot s true (other_place s call.slot is.1 at.1 e) ∙ h s is ∙ sym (now ∙ rw e (grind arith))
    ]

-- the calls on a slot end
pub ended : (held : List Bool) (calls : List ActiveCall) (slot : Slot) → length held ≡ 32 → IsSlot slot → HoldsCalls held calls
    → HoldsCalls (slice_set held (place slot) false) (on_other_slots slot calls)
ended held calls slot size at h s is =
    let now : has_call_on (on_other_slots slot calls) s ≡ (not (is_slot s slot) && has_call_on calls s) =
    has_call_on-filter (λ x. not (is_slot x slot)) calls s in
    elim (cases_Bool (is_slot s slot)) [
      | inl e ↦ subst (λ (x : Slot). is_slot_held (slice_set held (place slot) false) x ≡ false) (sym (same_slot s slot e))
          (written held slot false (omega (arith, size, at.0, at.1)))
          ∙ sym (now ∙ rw e refl)
      | inr e ↦ unwritten held slot s false (other_place s slot is.1 at.1 e) ∙ h s is ∙ sym (now ∙ rw e refl)
    ]

-- calls that are marked, and counted
pub mapped : (held : List Bool) (calls : List ActiveCall) (f : ActiveCall → ActiveCall) → ((t : ActiveCall) → (f t).call ≡ t.call) →
    HoldsCalls held calls → HoldsCalls held (map f calls)
mapped held calls f same h s is = h s is ∙ sym (has_call_on-map f same calls s)

pub marked_held : (held : List Bool) (calls : List ActiveCall) (slot : Slot) → HoldsCalls held calls →
    HoldsCalls held (map (with_activity slot) calls)
marked_held held calls slot h = mapped held calls (with_activity slot) (marked_call slot) h

pub counted_held : (held : List Bool) (calls : List ActiveCall) → HoldsCalls held calls → HoldsCalls held (map one_tick_older calls)
counted_held held calls h = mapped held calls one_tick_older (λ t. refl) h

-- a slot of the carrier is released, and every other is unchanged
released_there : (held : List Bool) (s : Slot) → length held ≡ 32 → IsSlot s → is_slot_held (held_without_carrier held s.carrier) s ≡ false
released_there held s size is = elim (cases_lt s.slot 1) [
  | inl e ↦ (
      let at : place s ≡ 2 * s.carrier = omega (arith, e) in
      get_or-set_other (slice_set held (2 * s.carrier) false) (2 * s.carrier + 1) (place s) false false (λ same. absurd (omega arith))
      ∙ subst (λ n. slice_index_or (slice_set held n false) (place s) false ≡ false) at
      (get_or-set_same held (place s) false false (omega (arith, size, is.0, is.1)))
      )
  | inr e ↦ (
      let at : place s ≡ 2 * s.carrier + 1 = omega (arith, e, is.1) in
      subst (λ n. slice_index_or (slice_set (slice_set held (2 * s.carrier) false) n false) (place s) false ≡ false) at
      (get_or-set_same (slice_set held (2 * s.carrier) false) (place s) false false
      (omega (arith, size, is.0, is.1, length-set held (2 * s.carrier) false)))
      )
]

released_elsewhere : (held : List Bool) (c : ℕ) (s : Slot) → IsSlot s → (s.carrier == c) ≡ false →
    is_slot_held (held_without_carrier held c) s ≡ is_slot_held held s
released_elsewhere held c s is apart =
    get_or-set_other (slice_set held (2 * c) false) (2 * c + 1) (place s) false false (λ same. absurd (grind (arith, nat_tests, is.1)))
    ∙ get_or-set_other held (2 * c) (place s) false false (λ same. absurd (grind (arith, nat_tests, is.1)))

-- the calls of a carrier end
pub lost : (held : List Bool) (calls : List ActiveCall) (c : ℕ) → length held ≡ 32 → HoldsCalls held calls
    → HoldsCalls (held_without_carrier held c) (on_other_carriers c calls)
lost held calls c size h s is =
    let now : has_call_on (on_other_carriers c calls) s ≡ (not (s.carrier == c) && has_call_on calls s) =
    has_call_on-filter (λ x. not (x.carrier == c)) calls s in
    elim (cases_Bool (s.carrier == c)) [
      | inl e ↦ subst (λ n. is_slot_held (held_without_carrier held n) s ≡ false) (eqb-true s.carrier c e) (released_there held s size is)
          ∙ sym (now ∙ rw e refl)
      | inr e ↦ released_elsewhere held c s is e ∙ h s is ∙ sym (now ∙ rw e refl)
    ]

-- nothing is held at first
pub at_first : HoldsCalls (replicate slots_of_site false) []
at_first s is = replicated slots_of_site (place s) false
