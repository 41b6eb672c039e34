-- The calls after each act: a waiting grant is that of the call on its slot.
use Rattle.std.proofs.Common.{◌≡◌, List, [], ◌∷◌, ◌++◌, Bool, true, false, refl, sym, ◌∙◌, ap, subst, arith, filter, ◌⊎◌, inl, inr}
use Rattle.std.specs.Prelude.{Some, ◌&&◌, find, ◌==◌, option_map}
use Rattle.std.specs.List.{list_any, list_all}
use Rattle.std.proofs.lemmas.List.{length-append}
use Rattle.std.proofs.lemmas.List.Elements.{All-filter, All-push}
use Rattle.std.proofs.lemmas.Bool.{and_parts, cases_Bool, eqb-true, or_parts, or_right}
use Rattle.dmr_pdu.specs.declared.slots.Slot.{Slot}
use Rattle.dmr_pdu.specs.declared.pdu.Pdu.{Pdu}
use Rattle.dmr_pdu.specs.declared.pdu.Pdu.TheVariants.{PvGrant, TvGrant}
use Rattle.dmr_plan.specs.declared.settings.Settings.{Settings}
use Rattle.dmr_calls.specs.declared.call.Call.{Call}
use Rattle.dmr_calls.specs.declared.call.ActiveCall.{ActiveCall}
use Rattle.dmr_calls.specs.Calls.{call_on, is_slot, just_begun}
use Rattle.dmr_pool.specs.Free.{control_slot, names}
use Rattle.dmr_calls.proofs.Laws.{same_slot}
use Rattle.dmr_core.specs.Facts.{Facts, has_carrier}
use Rattle.dmr_core.specs.Words.{lpcn_of, outbox, has_call_on}
use Rattle.dmr_core.specs.Rules.{grant_pdu}
use Rattle.dmr_core.specs.Sound.{AreCallsSound, AreOnDistinctSlots, IsPayload, IsSound, has_group_call, is_grant, is_own}
use Rattle.dmr_core.specs.May.{MayBegin, MayName}
use Rattle.dmr_core.proofs.PlanLemmas.{KnowsPlan}
use Rattle.dmr_core.proofs.NumberLemmas.{equal_itself}
use Rattle.dmr_core.proofs.ListLemmas.{any_before, any-push, find_any, find_new, find_passes, length-filter_le, mapped_some, none_passes}
use Rattle.dmr_core.proofs.CallsAreApart.{apart-append, apart-filter, call_after, itself}
use Rattle.dmr_core.proofs.SlotsStaySound.{active_there, IsFree, free_is}
use Rattle.dmr_core.proofs.LimitsAreKept.{IsCounted, listed_or}

-- the call that is found is active there
pub call_is_active : (cs : List ActiveCall) (slot : Slot) (call : Call) → call_on cs slot ≡ Some call
    → (has_call_on cs slot ≡ true) × (call.slot ≡ slot)
call_is_active cs slot call h =
    let test : ActiveCall → Bool = λ x. is_slot x.call.slot slot in
    let s = mapped_some _ (find test cs) call h in
    let on : is_slot s.0.call.slot slot ≡ true = find_passes test cs s.0 s.1 in
    (find_any test test cs s.0 s.1 on, subst (λ (c : Call). c.slot ≡ slot) s.2 (same_slot s.0.call.slot slot on))

-- a call that is found by another test is the call on its slot
pub found_is_active : (p : ActiveCall → Bool) (cs : List ActiveCall) (call : Call) → AreOnDistinctSlots cs
    → option_map (λ (x : ActiveCall). x.call) (find p cs) ≡ Some call → call_on cs call.slot ≡ Some call
found_is_active p [] call apart h = cc
found_is_active p (s ∷ cs) call apart h =
    let more = found_is_active p cs call apart.1 in
    let own = itself s.call.slot in
    let same = same_slot s.call.slot call.slot in
    let on : call_on cs call.slot ≡ Some call → has_call_on cs call.slot ≡ true = λ k. (call_is_active cs call.slot call k).0 in
    let none = apart.0 in
    grind arith

-- a call added at the end
call_new : (cs : List ActiveCall) (new : ActiveCall) (slot : Slot) (call : Call) → call_on (cs ++ new ∷ []) slot ≡ Some call
    → (call_on cs slot ≡ Some call) ⊎ (new.call ≡ call)
call_new [] new slot call h = elim (cases_Bool (is_slot new.call.slot slot)) [ inl e ↦ inr (cc (rw e at h)) | inr e ↦ cc (rw e at h) ]
call_new (s ∷ cs) new slot call h = elim (cases_Bool (is_slot s.call.slot slot)) [
  | inl e ↦ inl (rw e (rw e at h))
  | inr e ↦ elim (call_new cs new slot call (rw e at h)) [ inl k ↦ inl (rw e k) | inr k ↦ inr k ]
]

pub call_begun : (cs : List ActiveCall) (new : ActiveCall) → has_call_on cs new.call.slot ≡ false
    → call_on (cs ++ new ∷ []) new.call.slot ≡ Some new.call
call_begun cs new h =
    ap (option_map (λ (x : ActiveCall). x.call))
    (find_new (λ s. is_slot s.call.slot new.call.slot) cs new (none_passes (λ s. is_slot s.call.slot new.call.slot) cs h)
    (itself new.call.slot))

-- grants
pub not_grant_own : (plan : Settings) (call : Call) (pdu : Pdu) → is_grant pdu ≡ false → is_own plan call pdu ≡ true
not_grant_own plan call (PvGrant l s target source) h = cc
not_grant_own plan call (TvGrant l s late target source) h = cc
not_grant_own plan call _ h = refl

unnamed_own : (plan : Settings) (call : Call) (pdu : Pdu) → names (lpcn_of plan call.slot.carrier) call.slot.slot pdu ≡ false
    → is_own plan call pdu ≡ true
unnamed_own plan call (PvGrant l s target source) h = rw h refl
unnamed_own plan call (TvGrant l s late target source) h = rw h refl
unnamed_own plan call _ h = refl

all_unnamed : (plan : Settings) (call : Call) (xs : List Pdu)
    → list_any (names (lpcn_of plan call.slot.carrier) call.slot.slot) xs ≡ false → list_all (is_own plan call) xs ≡ true
all_unnamed plan call [] h = refl
all_unnamed plan call (x ∷ xs) h =
    let both = or_parts (names (lpcn_of plan call.slot.carrier) call.slot.slot x) _ h in
    rw (unnamed_own plan call x both.0, all_unnamed plan call xs both.1) refl

-- a call's grant is its own
pub own_itself : (plan : Settings) (call : Call) (late : Bool) → is_own plan call (grant_pdu plan call late) ≡ true
own_itself plan call late =
    let parties : ((call.source == call.source) && (call.target == call.target)) ≡ true =
    rw (equal_itself call.source, equal_itself call.target) refl in
    elim (cases_Bool call.group) [ inl e ↦ rw (e, parties) (or_right _ true refl) | inr e ↦ rw (e, parties) (or_right _ true refl) ]

-- a grant is that of the call on the slot that it names, since no two carriers have the same channel
pub own_of : (plan : Settings) (now : Facts) (slot : Slot) (call other : Call) (late : Bool) → KnowsPlan plan → IsSound plan now
    → call_on now.calls slot ≡ Some call → call_on now.calls other.slot ≡ Some other → is_own plan call (grant_pdu plan other late) ≡ true
own_of plan now slot call other late p h here there =
    elim (cases_Bool ((lpcn_of plan other.slot.carrier == lpcn_of plan call.slot.carrier) && (other.slot.slot == call.slot.slot))) [
      | inl e ↦ (
          let parts = and_parts _ _ e in
          let on = call_is_active now.calls slot call here in
          let on_other = call_is_active now.calls other.slot other there in
          let known = subst (λ (x : Slot). has_carrier plan x.carrier ≡ true) (sym on.1) (h.calls.payload slot on.0).known in
          let carriers : other.slot.carrier ≡ call.slot.carrier =
          p.channels _ _ (h.calls.payload other.slot on_other.0).known known (eqb-true _ _ parts.0) in
          let numbers : other.slot.slot ≡ call.slot.slot = eqb-true _ _ parts.1 in
          let slots : other.slot ≡ call.slot = λ i. record { carrier = carriers i; slot = numbers i } in
          let both : Some other ≡ Some call = sym there ∙ ap (λ (x : Slot). call_on now.calls x) (slots ∙ on.1) ∙ here in
          let same : other ≡ call = cc in
          rw same (own_itself plan call late)
          )
      | inr e ↦ elim (cases_Bool other.group) [ inl d ↦ rw (d, e) refl | inr d ↦ rw (d, e) refl ]
    ]

pub named_own : (plan : Settings) (now : Facts) (slot there : Slot) (call : Call) (pdu : Pdu) (b : Bool) → KnowsPlan plan
    → IsSound plan now → call_on now.calls slot ≡ Some call → is_grant pdu ≡ b → MayName plan now.calls there pdu b →
    is_own plan call pdu ≡ true
named_own plan now slot there call pdu true p h k e may = rw may.1.is (own_of plan now slot call may.1.call may.1.late p h k may.1.stands)
named_own plan now slot there call pdu false p h k e may = not_grant_own plan call pdu e

-- the calls after some were removed, by their slots
pub calls-filter : (plan : Settings) (up : List Bool) (boxes : List (List Pdu)) (q : Slot → Bool) (cs : List ActiveCall)
    → AreCallsSound plan up boxes cs → AreCallsSound plan up boxes (filter (λ s. q s.call.slot) cs)
calls-filter plan up boxes q cs h =
    let was_on : (slot : Slot) → has_call_on (filter (λ s. q s.call.slot) cs) slot ≡ true → has_call_on cs slot ≡ true =
    λ slot k. any_before (λ s. is_slot s.call.slot slot) (λ s. q s.call.slot) cs k in
    record {
      apart = apart-filter (λ s. q s.call.slot) cs h.apart;
      payload = λ slot k. h.payload slot (was_on slot k);
      quiet = λ slot k. h.quiet slot (was_on slot k);
      own = λ slot call k. h.own slot call (call_after q cs slot call k);
      listed = λ g k. h.listed g (any_before (λ s. s.call.group && (s.call.target == g)) (λ s. q s.call.slot) cs k);
      few = omega (arith, h.few, length-filter_le (λ s. q s.call.slot) cs);
      ages = All-filter (λ s. q s.call.slot) IsCounted cs h.ages;
    }

-- the calls after one more began
pub calls-begun : (plan : Settings) (now : Facts) (call : Call) → IsSound plan now → MayBegin plan now call
    → AreCallsSound plan now.up now.outboxes (now.calls ++ just_begun call ∷ [])
calls-begun plan now call h may =
    let free : IsFree plan now call.slot = free_is plan now call.slot may.free in
    let itself : IsPayload plan now.up call.slot = record { known = free.known; is_up = free.up; small = may.small; apart = free.apart } in
    record {
      apart = apart-append now.calls (just_begun call) h.calls.apart free.none;
      payload = λ slot k. elim (active_there now.calls call slot k) [
        | inl e ↦ h.calls.payload slot e
        | inr e ↦ subst (IsPayload plan now.up) (sym e) itself
      ];
      quiet = λ slot k. elim (active_there now.calls call slot k) [
        | inl e ↦ h.calls.quiet slot e
        | inr e ↦ subst (λ (x : Slot). outbox now x ≡ []) (sym e) free.quiet
      ];
      own = λ slot other k. elim (call_new now.calls (just_begun call) slot other k) [
        | inl e ↦ h.calls.own slot other e
        | inr e ↦ subst (λ (x : Call). list_all (is_own plan x) (outbox now (control_slot plan.lists)) ≡ true) e
            (all_unnamed plan call (outbox now (control_slot plan.lists)) free.ungranted)
      ];
      listed = λ g k. listed_or plan g call.target call.group (has_group_call now.calls g) (h.calls.listed g) may.engage.listed
          (sym (any-push (λ s. s.call.group && (s.call.target == g)) now.calls (just_begun call)) ∙ k);
      few = omega (arith, may.few, length-append now.calls (just_begun call ∷ []));
      ages = All-push IsCounted now.calls (just_begun call) h.calls.ages (omega arith, omega arith);
    }
