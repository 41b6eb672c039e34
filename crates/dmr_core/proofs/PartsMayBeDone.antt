-- The conditions of parts of rules.
use Rattle.std.proofs.Common.{◌≡◌, ◌<◌, ◌≤◌, ◌+◌, ℕ, zero, suc, List, [], ◌∷◌, ◌++◌, Bool, true, false, refl, ◌∙◌, ap, subst, arith, map}
use Rattle.std.proofs.Common.{length, inl, inr, set, get_or}
use Rattle.std.specs.Prelude.{fold, Some, cond, ◌&&◌, not, replicate, find, ◌==◌}
use Rattle.std.specs.List.{list_any}
use Rattle.std.proofs.lemmas.Bool.{cases_Bool, cases_lt, false_from_ne_true, or_right, eqb-true, and_parts, not-true, or_parts}
use Rattle.std.proofs.lemmas.Bool.Decides.{nat_tests}
use Rattle.std.proofs.lemmas.List.{length-append}
use Rattle.std.specs.List.{range_with_len}
use Rattle.dmr_pdu.specs.declared.slots.Slot.{Slot}
use Rattle.dmr_pdu.specs.declared.pdu.Pdu.{Pdu}
use Rattle.dmr_pdu.specs.declared.pdu.Pdu.TheVariants.{Ackd, Clear}
use Rattle.dmr_plan.specs.declared.settings.Settings.{Settings}
use Rattle.dmr_plan.specs.Plan.{lists_group}
use Rattle.dmr_calls.specs.declared.ask.ActiveAsk.{ActiveAsk}
use Rattle.dmr_calls.specs.declared.call.Call.{Call}
use Rattle.dmr_calls.specs.declared.call.ActiveCall.{ActiveCall}
use Rattle.dmr_calls.specs.Calls.{call_on, is_slot, just_begun}
use Rattle.dmr_calls.specs.Engaged.{is_party, is_party_to_ask, is_party_to_call, is_party_to_line}
use Rattle.dmr_pool.specs.Slots.{place, slot_at}
use Rattle.dmr_pool.specs.Free.{control_slot, names, lowest_free_by}
use Rattle.dmr_core.specs.declared.act.Act.{Act}
use Rattle.dmr_core.specs.declared.act.Act.TheVariants.{Began, Ended, Queue}
use Rattle.dmr_core.specs.Facts.{Facts, facts_after_act}
use Rattle.dmr_core.specs.Words.{is_engaged, is_free, is_registered, is_up, lowest_free, lpcn_of, outbox, has_call_on}
use Rattle.dmr_core.specs.Rules.{ack, begin, clear, grant, grant_pdu}
use Rattle.dmr_core.specs.Sound.{IsPayload, IsSound, engagements, engagements_in_ask, engagements_in_call, engagements_in_line, is_grant}
use Rattle.dmr_core.specs.Sound.{party, total}
use Rattle.dmr_core.specs.May.{AllMayDo, IsGrantOf, MayBegin, MayDo, MayEngage, MayName}
use Rattle.dmr_core.proofs.PlanLemmas.{KnowsPlan}
use Rattle.dmr_core.proofs.SlotsStaySound.{IsFree, free_is}
use Rattle.dmr_core.proofs.GrantsAreOwn.{call_begun, call_is_active}
use Rattle.dmr_core.proofs.ActsKeepSound.{sound-acts, sound-done}
use Rattle.dmr_core.proofs.FreeSlotHasRoom.{few_calls, AreOnSlots}
use Rattle.dmr_core.proofs.CallsAreApart.{itself, has_call_on-filter}
use Rattle.dmr_core.proofs.ListLemmas.{true_false}

-- a list that is read at a place that was written is no longer than the one written
read_put : {X : Type 0} (xs : List (List X)) (i : ℕ) (v : List X) → length (get_or (set xs i v) i []) ≤ length v
read_put [] i v = omega arith
read_put (x ∷ xs) zero v = omega arith
read_put (x ∷ xs) (suc i) v = read_put xs i v

-- one more PDU waits after one was queued
pub one_queued : (now : Facts) (slot : Slot) (pdu : Pdu)
    → length (outbox (facts_after_act now (Queue slot pdu)) slot) ≤ length (outbox now slot) + 1
one_queued now slot pdu =
    omega (arith, read_put now.outboxes (place slot) (outbox now slot ++ pdu ∷ []), length-append (outbox now slot) (pdu ∷ []))

copies_may : (n : ℕ) (plan : Settings) (now : Facts) (slot : Slot) (pdu : Pdu) → is_up now slot.carrier ≡ true → slot.slot < 2
    → has_call_on now.calls slot ≡ false → MayName plan now.calls slot pdu (is_grant pdu) → length (outbox now slot) + n ≤ 64
    → AllMayDo plan now (replicate n (Queue slot pdu))
copies_may zero plan now slot pdu up small none names room = tt
copies_may (suc n) plan now slot pdu up small none names room = (
  record { up = up; small = small; none = none; room = omega arith; names = names },
  copies_may n plan (facts_after_act now (Queue slot pdu)) slot pdu up small none names (omega (arith, one_queued now slot pdu)),
)

-- no call is active on the control slot
pub none_on_control : (plan : Settings) (now : Facts) → IsSound plan now → has_call_on now.calls (control_slot plan.lists) ≡ false
none_on_control plan now h =
    false_from_ne_true _ (λ e. true_false _ (itself (control_slot plan.lists)) (h.calls.payload (control_slot plan.lists) e).apart)

-- an answer may be made: the control carrier is up, and its slot has room for `n` more PDUs
pub record MayAnswer (plan : Settings) (now : Facts) (n : ℕ) : Type 0 where
  pub known : KnowsPlan plan
  pub sound : IsSound plan now
  pub up : is_up now plan.lists.control ≡ true
  pub room : length (outbox now (control_slot plan.lists)) + n ≤ 64

-- one PDU that is not a grant
pub queue_may : {plan : Settings} {now : Facts} {n : ℕ} → MayAnswer plan now n → 1 ≤ n → (pdu : Pdu) → is_grant pdu ≡ false
    → AllMayDo plan now (Queue (control_slot plan.lists) pdu ∷ [])
queue_may c one pdu plain =
    (record { up = c.up; small = omega arith; none = none_on_control _ _ c.sound; room = omega arith; names = rw plain tt }, tt)

pub ack_may : {plan : Settings} {now : Facts} {n : ℕ} → MayAnswer plan now n → 1 ≤ n → (source target reason : ℕ)
    → AllMayDo plan now (ack plan source target reason)
ack_may c one source target reason = queue_may c one (Ackd 0 reason false source target) refl

-- after an act that queues nothing
pub after : {plan : Settings} {now : Facts} {n : ℕ} → MayAnswer plan now n → (act : Act) → MayDo plan now act
    → outbox (facts_after_act now act) (control_slot plan.lists) ≡ outbox now (control_slot plan.lists) →
    MayAnswer plan (facts_after_act now act) n
after c act may same =
    record { known = c.known; sound = sound-done _ _ act c.known c.sound may; up = c.up; room = rw same c.room }

-- such an act, and an acknowledgement
pub ack_after : {plan : Settings} {now : Facts} {n : ℕ} → MayAnswer plan now n → 1 ≤ n → (act : Act) → MayDo plan now act
    → outbox (facts_after_act now act) (control_slot plan.lists) ≡ outbox now (control_slot plan.lists) → (source target reason : ℕ)
    → AllMayDo plan now (act ∷ ack plan source target reason)
ack_after c one act may same source target reason = (may, ack_may (after c act may same) one source target reason)

-- acts that may be done, after which the same carriers are up and at most `more` PDUs more wait for the control slot
pub record LeavesRoom (plan : Settings) (now : Facts) (acts : List Act) (more : ℕ) : Type 0 where
  pub may : AllMayDo plan now acts
  pub up : (fold facts_after_act now acts).up ≡ now.up
  pub room : length (outbox (fold facts_after_act now acts) (control_slot plan.lists)) ≤ length
      (outbox now (control_slot plan.lists)) + more

pub queue_leaves : {plan : Settings} {now : Facts} {n : ℕ} → MayAnswer plan now n → 1 ≤ n → (pdu : Pdu) → is_grant pdu ≡ false
    → LeavesRoom plan now (Queue (control_slot plan.lists) pdu ∷ []) 1
queue_leaves {plan = plan} {now = now} c one pdu plain =
    record { may = queue_may c one pdu plain; up = refl; room = one_queued now (control_slot plan.lists) pdu }

pub after_acts : {plan : Settings} {now : Facts} {acts : List Act} {n more : ℕ} (m : ℕ) → MayAnswer plan now n
    → LeavesRoom plan now acts more → m + more ≤ n → MayAnswer plan (fold facts_after_act now acts) m
after_acts m c h small = record {
  known = c.known;
  sound = sound-acts _ _ _ c.known c.sound h.may;
  up = rw h.up c.up;
  room = omega (arith, c.room, h.room, small);
}

may_name : (plan : Settings) (calls : List ActiveCall) (pdu : Pdu) (b : Bool) → IsGrantOf plan calls pdu
    → MayName plan calls (control_slot plan.lists) pdu b
may_name plan calls pdu true h = (refl, h)
may_name plan calls pdu false h = tt

pub grant_may : {plan : Settings} {now : Facts} {n : ℕ} → MayAnswer plan now n → 4 ≤ n → (call : Call) (late : Bool)
    → call_on now.calls call.slot ≡ Some call → AllMayDo plan now (grant plan call late)
unfolding grant
grant_may {plan = plan} {now = now} c four call late stands =
    let pdu : Pdu = grant_pdu plan call late in
    copies_may plan.calls.grant_copies plan now (control_slot plan.lists) pdu c.up (omega arith) (none_on_control plan now c.sound)
    (may_name plan now.calls pdu (is_grant pdu) (record { call = call; late = late; stands = stands; is = refl }))
    (omega (arith, c.known.few_grants))

pub begin_may : {plan : Settings} {now : Facts} {n : ℕ} → MayAnswer plan now n → 4 ≤ n → (call : Call) → MayBegin plan now call
    → AllMayDo plan now (begin plan call)
begin_may {plan = plan} {now = now} c four call may =
    let begun = call_begun now.calls (just_begun call) (free_is plan now call.slot may.free).none in
    (may, grant_may (after c (Began call) may refl) four call false begun)

pub clear_may : (plan : Settings) (now : Facts) (call : Call) → KnowsPlan plan → IsSound plan now
    → call_on now.calls call.slot ≡ Some call → AllMayDo plan now (clear plan call)
unfolding clear
clear_may plan now call p h stands =
    let on = call_is_active now.calls call.slot call stands in
    let there : IsPayload plan now.up call.slot = h.calls.payload call.slot on.0 in
    let empty : length (outbox now call.slot) ≡ 0 = ap (λ (xs : List Pdu). length xs) (h.calls.quiet call.slot on.0) in
    let none : has_call_on (facts_after_act now (Ended call.slot)).calls call.slot ≡ false =
    has_call_on-filter (λ x. not (is_slot x call.slot)) now.calls call.slot ∙ rw (itself call.slot) refl in
    let pdu : Pdu = Clear (lpcn_of plan plan.lists.control) call.group call.target plan.system.tsi in (
      tt,
      copies_may plan.calls.clear_copies plan (facts_after_act now (Ended call.slot)) call.slot pdu there.is_up there.small none tt
          (omega (arith, p.few_clears)),
    )

-- a radio that is not engaged
no_party : (r : ℕ) (group : Bool) (source target : ℕ) → is_party r group source target ≡ false → party r group source target ≡ 0
no_party r group source target h = let both = or_parts (source == r) (not group && (target == r)) h in rw (both.0, both.1) refl

none_in : {X : Type 0} (f : X → ℕ) (p : X → Bool) → ((x : X) → p x ≡ false → f x ≡ 0) → (xs : List X) → list_any p xs ≡ false
    → total f xs ≡ 0
none_in f p each [] h = refl
none_in f p each (x ∷ xs) h =
    let both = or_parts (p x) (list_any p xs) h in omega (arith, each x both.0, none_in f p each xs both.1)

pub not_engaged : (now : Facts) (r : ℕ) → is_engaged now r ≡ false → engagements now.calls now.asks now.lines r ≡ 0
not_engaged now r h =
    let both = or_parts _ _ h in
    let first = or_parts _ _ both.0 in
    let calls =
    none_in (engagements_in_call r) (is_party_to_call r) (λ s. no_party r s.call.group s.call.source s.call.target) now.calls first.0 in
    let asks = none_in (engagements_in_ask r) (is_party_to_ask r) (λ a. no_party r false a.ask.source a.ask.target) now.asks first.1 in
    let lines = none_in (engagements_in_line r) (is_party_to_line r) (λ l. no_party r l.group l.source l.target) now.lines both.1 in
    omega arith

-- what holds of the source, and of the target if it is a party, holds of each party
each_party : (P : ℕ → Type 0) (r : ℕ) (group : Bool) (source target : ℕ) → P source → (group ≡ false → P target)
    → 0 < party r group source target → P r
each_party P r group source target h k more = elim (cases_Bool (source == r)) [
  | inl e ↦ subst P (eqb-true source r e) h
  | inr e ↦ elim (cases_Bool (not group && (target == r))) [
    | inl d ↦ (let both = and_parts _ _ d in subst P (eqb-true target r both.1) (k (not-true _ both.0)))
    | inr d ↦ absurd (let none : 0 < 0 = rw (e, d) at more in omega arith)
  ]
]

one_party : (r : ℕ) (group : Bool) (source target : ℕ) → (group ≡ false → (target == source) ≡ false) → party r group source target ≤ 1
one_party r true source target apart = grind (arith, nat_tests)
one_party r false source target apart = let differ = apart refl in grind (arith, nat_tests)

-- parties that are registered and not engaged may be engaged
pub engage : (plan : Settings) (now : Facts) (asks : List ActiveAsk) (group : Bool) (source target : ℕ) → IsSound plan now
    → ((r : ℕ) → total (engagements_in_ask r) asks ≤ total (engagements_in_ask r) now.asks)
    → (group ≡ false → (target == source) ≡ false) → is_registered now source ≡ true → (group ≡ false → is_registered now target ≡ true)
    → is_engaged now source ≡ false → (group ≡ false → is_engaged now target ≡ false) → (group ≡ true → lists_group plan target ≡ true)
    → MayEngage plan now asks group source target
engage plan now asks group source target h fewer apart registered also free idle listed = record {
  parties = λ r. each_party (λ x. is_registered now x ≡ true) r group source target registered also;
  once = λ r. elim (cases_lt 0 (party r group source target)) [
    | inl k ↦ (
        let none = not_engaged now r (each_party (λ x. is_engaged now x ≡ false) r group source target free idle k) in
        omega (arith, fewer r, one_party r group source target apart)
        )
    | inr k ↦ omega (arith, h.radios.once r, fewer r)
  ];
  listed = listed;
}

-- the slot that is found
small_of : (p : Slot → Bool) (ns : List ℕ) (slot : Slot) → find p (map slot_at ns) ≡ Some slot → slot.slot < 2
small_of p [] slot h = cc
small_of p (n ∷ ns) slot h = first (p (slot_at n)) h (small_of p ns slot)
  where
    first : (b : Bool) → cond b (Some (slot_at n)) (find p (map slot_at ns)) ≡ Some slot
        → (find p (map slot_at ns) ≡ Some slot → slot.slot < 2) → slot.slot < 2
    first true h more = let same : slot_at n ≡ slot = cc in subst (λ (s : Slot). s.slot < 2) same (omega arith)
    first false h more = more h

pub lowest_small : (plan : Settings) (now : Facts) (slot : Slot) → lowest_free plan now ≡ Some slot → slot.slot < 2
unfolding lowest_free_by
lowest_small plan now slot h = small_of (is_free plan now) (range_with_len 0 32) slot h

on_slots : (cs : List ActiveCall) → ((slot : Slot) → has_call_on cs slot ≡ true → (slot.carrier < 16) × (slot.slot < 2)) → AreOnSlots cs
on_slots [] h = tt
on_slots (s ∷ cs) h =
    let here = h s.call.slot (rw (itself s.call.slot) refl) in
    (here.0, here.1, on_slots cs (λ slot k. h slot (or_right (is_slot s.call.slot slot) (has_call_on cs slot) k)))

-- a free slot leaves room for its call
pub few_with_free : (plan : Settings) (now : Facts) (slot : Slot) → KnowsPlan plan → IsSound plan now → is_free plan now slot ≡ true
    → slot.slot < 2 → length now.calls < 31
few_with_free plan now slot p h free small =
    let f : IsFree plan now slot = free_is plan now slot free in
    let each = on_slots now.calls (λ s k. (p.numbers s.carrier (h.calls.payload s k).known, (h.calls.payload s k).small)) in
    few_calls now.calls (control_slot plan.lists) slot each h.calls.apart (p.numbers plan.lists.control p.control) (omega arith)
    (p.numbers slot.carrier f.known) small (none_on_control plan now h) f.none f.apart
