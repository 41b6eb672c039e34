-- Slots and their outboxes, after a PDU was queued or sent.
use Rattle.std.proofs.Common.{◌≡◌, ◌<◌, ◌≤◌, List, [], ◌∷◌, ◌++◌, Bool, true, false, refl, sym, ◌∙◌, subst, arith, length, ◌⊎◌, inl, inr}
use Rattle.std.proofs.Common.{◌≢◌, drop, length-set}
use Rattle.std.specs.Prelude.{slice_set, Some}
use Rattle.std.specs.List.{list_any, list_all}
use Rattle.std.proofs.lemmas.Bool.{cases_Bool, or_cases, or_parts, and_parts, not-true}
use Rattle.std.proofs.lemmas.Bool.Decides.{nat_tests}
use Rattle.std.proofs.lemmas.List.{get_or-set_same, get_or-set_other}
use Rattle.std.proofs.lemmas.List.Folds.{list_all-append}
use Rattle.dmr_pdu.specs.declared.slots.Slot.{Slot}
use Rattle.dmr_pdu.specs.declared.pdu.Pdu.{Pdu}
use Rattle.dmr_plan.specs.declared.settings.Settings.{Settings}
use Rattle.dmr_calls.specs.declared.call.Call.{Call}
use Rattle.dmr_calls.specs.declared.call.ActiveCall.{ActiveCall}
use Rattle.dmr_calls.specs.Calls.{call_on, is_slot, just_begun}
use Rattle.dmr_pool.specs.Slots.{box, place}
use Rattle.dmr_pool.specs.Free.{control_slot, is_empty, names}
use Rattle.dmr_calls.proofs.Laws.{same_slot}
use Rattle.dmr_core.specs.Facts.{Facts, has_carrier}
use Rattle.dmr_core.specs.Words.{is_free, is_up, lpcn_of, outbox, has_call_on}
use Rattle.dmr_core.specs.Sound.{AreCallsSound, IsPoolSound, IsSound, is_grant, is_own}
use Rattle.dmr_core.specs.May.{MayName}
use Rattle.dmr_core.proofs.FreeLemmas.{granted_known}
use Rattle.dmr_core.proofs.PlanLemmas.{KnowsPlan}
use Rattle.dmr_core.proofs.CallsAreApart.{itself}
use Rattle.dmr_core.proofs.ListLemmas.{any-push, true_false}

pub other_place : (a b : Slot) → a.slot < 2 → b.slot < 2 → is_slot a b ≡ false → place a ≢ place b
other_place a b h k apart = λ same. absurd (grind (arith, nat_tests))

-- a statement about the outbox that was changed, and about the others, holds of each
pub after_put : (P : Slot → List Pdu → Type 0) (boxes : List (List Pdu)) (slot : Slot) (v : List Pdu) (s : Slot) → slot.slot < 2
    → s.slot < 2 → place slot < length boxes → P slot v → P s (box boxes s) → P s (box (slice_set boxes (place slot) v) s)
after_put P boxes slot v s h k within here there = elim (cases_Bool (is_slot s slot)) [
  | inl e ↦ subst (λ (x : Slot). P x (box (slice_set boxes (place slot) v) x)) (sym (same_slot s slot e))
      (subst (P slot) (sym (get_or-set_same boxes (place slot) v [] within)) here)
  | inr e ↦ subst (P s) (sym (get_or-set_other boxes (place slot) (place s) v [] (other_place s slot k h e))) there
]

pub active_there : (calls : List ActiveCall) (call : Call) (slot : Slot) → has_call_on (calls ++ just_begun call ∷ []) slot ≡ true
    → (has_call_on calls slot ≡ true) ⊎ (slot ≡ call.slot)
active_there calls call slot h =
    elim (or_cases _ _ (sym (any-push (λ s. is_slot s.call.slot slot) calls (just_begun call)) ∙ h)) [
      | inl e ↦ inl e
      | inr e ↦ inr (sym (same_slot call.slot slot e))
    ]

-- the meaning of a free slot
pub record IsFree (plan : Settings) (now : Facts) (slot : Slot) : Type 0 where
  pub known : has_carrier plan slot.carrier ≡ true
  pub up : is_up now slot.carrier ≡ true
  pub apart : is_slot slot (control_slot plan.lists) ≡ false
  pub none : has_call_on now.calls slot ≡ false
  pub quiet : outbox now slot ≡ []
  pub ungranted : list_any (names (lpcn_of plan slot.carrier) slot.slot) (outbox now (control_slot plan.lists)) ≡ false

empty_is : {X : Type 0} (xs : List X) → is_empty xs ≡ true → xs ≡ []
empty_is [] h = refl
empty_is (x ∷ xs) h = cc

pub free_is : (plan : Settings) (now : Facts) (slot : Slot) → is_free plan now slot ≡ true → IsFree plan now slot
free_is plan now slot h =
    let a = and_parts _ _ h in
    let b = and_parts _ _ a.0 in
    let c = and_parts _ _ b.0 in
    let d = and_parts _ _ c.0 in
    let e = and_parts _ _ d.0 in
    record {
      known = e.0;
      up = e.1;
      apart = not-true _ d.1;
      none = not-true _ c.1;
      quiet = empty_is _ b.1;
      ungranted = sym (granted_known plan now.outboxes slot e.0) ∙ not-true _ a.1;
    }

pub any-drop : (p : Pdu → Bool) (xs : List Pdu) → list_any p xs ≡ false → list_any p (drop 1 xs) ≡ false
any-drop p [] h = h
any-drop p (x ∷ xs) h = (or_parts (p x) (list_any p xs) h).1

pub all-drop : (p : Pdu → Bool) (xs : List Pdu) → list_all p xs ≡ true → list_all p (drop 1 xs) ≡ true
all-drop p [] h = h
all-drop p (x ∷ xs) h = (and_parts (p x) (list_all p xs) h).1

pub any_more : (p : Pdu → Bool) (xs : List Pdu) (x : Pdu) → list_any p xs ≡ false → p x ≡ false → list_any p (xs ++ x ∷ []) ≡ false
any_more p xs x h k = rw (any-push p xs x, h, k) refl

pub all_more : (p : Pdu → Bool) (xs : List Pdu) (x : Pdu) → list_all p xs ≡ true → p x ≡ true → list_all p (xs ++ x ∷ []) ≡ true
all_more p xs x h k = rw (list_all-append p xs (x ∷ []), h, k) refl

-- a grant only goes to the control slot
pub named_there : (plan : Settings) (now : Facts) (slot : Slot) (pdu : Pdu) (b : Bool) → MayName plan now.calls slot pdu b
    → is_slot slot (control_slot plan.lists) ≡ false → b ≡ false
named_there plan now slot pdu true may k = true_false _ (rw may.0 (itself (control_slot plan.lists))) k
named_there plan now slot pdu false may k = refl

-- the outbox of a slot is `v`, after a PDU was queued there or sent
module _ (plan : Settings) (now : Facts) (p : KnowsPlan plan) (h : IsSound plan now) (there : Slot) (v : List Pdu)
    (up : is_up now there.carrier ≡ true) (small : there.slot < 2) where
  pub within_boxes : place there < length now.outboxes
  within_boxes = omega (arith, p.numbers there.carrier (h.pool.known there.carrier up), h.pool.slots)

  pub pool-put : (is_slot there (control_slot plan.lists) ≡ false → list_any is_grant v ≡ false) → length v ≤ 64
      → IsPoolSound plan now.up (slice_set now.outboxes (place there) v)
  pool-put plain few = record {
    carriers = h.pool.carriers;
    slots = length-set now.outboxes (place there) v ∙ h.pool.slots;
    known = h.pool.known;
    down = λ s k. after_put (λ s b. is_up now s.carrier ≡ false → b ≡ []) now.outboxes there v s small k within_boxes
        (λ e. true_false _ up e) (h.pool.down s k);
    elsewhere = λ s k. after_put (λ s b. is_slot s (control_slot plan.lists) ≡ false → list_any is_grant b ≡ false) now.outboxes there v s
        small k within_boxes plain (h.pool.elsewhere s k);
    few = λ s k. after_put (λ s b. length b ≤ 64) now.outboxes there v s small k within_boxes few (h.pool.few s k);
  }

  -- no call is active there unless `v` is empty, and each grant in it is that of its call
  pub calls-put : (has_call_on now.calls there ≡ true → v ≡ [])
      → ((slot : Slot) (call : Call) → call_on now.calls slot ≡ Some call → there ≡ control_slot plan.lists →
      list_all (is_own plan call) v ≡ true)
      → AreCallsSound plan now.up (slice_set now.outboxes (place there) v) now.calls
  calls-put quiet own =
      let quiet_too : (s : Slot) → has_call_on now.calls s ≡ true → box (slice_set now.outboxes (place there) v) s ≡ [] =
      λ s k. after_put (λ s b. has_call_on now.calls s ≡ true → b ≡ []) now.outboxes there v s small (h.calls.payload s k).small
      within_boxes quiet (h.calls.quiet s) k in
      let own_too : (slot : Slot) (call : Call) → call_on now.calls slot ≡ Some call
      → list_all (is_own plan call) (box (slice_set now.outboxes (place there) v) (control_slot plan.lists)) ≡ true =
      λ slot call k. after_put (λ s b. s ≡ control_slot plan.lists → list_all (is_own plan call) b ≡ true) now.outboxes there v
      (control_slot plan.lists) small (omega arith) within_boxes (own slot call k) (λ e. h.calls.own slot call k) refl in
      assumption (quiet_too, own_too)
