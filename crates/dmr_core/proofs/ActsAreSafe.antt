-- The safety laws.
use Rattle.std.proofs.Common.{◌≡◌, ◌<◌, ℕ, List, [], ◌∷◌, ◌++◌, Bool, true, false, refl, sym, ◌∙◌, ap, subst, arith, filter, inl, inr}
use Rattle.std.specs.Prelude.{fold, option_map, Some, ◌&&◌, not, find, ◌==◌, ◌||◌, slice_get}
use Rattle.std.specs.List.{list_any, list_all}
use Rattle.std.proofs.lemmas.Bool.{and_parts, cases_Bool, eqb-true, false_from_ne_true, not-true}
use Rattle.dmr_pdu.specs.declared.slots.Slot.{Slot}
use Rattle.dmr_pdu.specs.declared.pdu.Pdu.{Pdu}
use Rattle.dmr_pdu.specs.declared.pdu.Pdu.TheVariants.{PvGrant, TvGrant}
use Rattle.dmr_plan.specs.declared.settings.Settings.{Settings}
use Rattle.dmr_calls.specs.declared.call.Call.{Call}
use Rattle.dmr_calls.specs.declared.call.ActiveCall.{ActiveCall}
use Rattle.dmr_calls.specs.Calls.{call_on, one_tick_older, is_slot, just_begun, with_activity}
use Rattle.dmr_pool.specs.Free.{control_slot, names}
use Rattle.dmr_calls.proofs.Laws.{same_slot}
use Rattle.dmr_core.specs.declared.event.Event.{Event}
use Rattle.dmr_core.specs.declared.event.Event.TheVariants.{Active, Lost, Tick, Up}
use Rattle.dmr_core.specs.declared.act.Act.{Act}
use Rattle.dmr_core.specs.declared.act.Act.TheVariants.{Began, Ended, Fill, Queue, Send}
use Rattle.dmr_core.specs.declared.act.Acts.{Acts}
use Rattle.dmr_core.specs.declared.entry.Entry.{Entry}
use Rattle.dmr_core.specs.Facts.{Facts, facts_after_act, facts_after, has_carrier, facts_after_event}
use Rattle.dmr_core.specs.Words.{is_registered, lpcn_of, outbox}
use Rattle.dmr_core.specs.Rules.{acts_of, grant_pdu}
use Rattle.dmr_core.specs.Journal.{IsLegal}
use Rattle.dmr_core.specs.Sound.{IsSound, engagements_in_call, is_grant, is_own, party}
use Rattle.dmr_core.specs.May.{AllMayDo, MayDo, MayName}
use Rattle.dmr_core.specs.Laws.{BeginsOnFree, EachAct, GrantsKnown, NamesKnown, QuietActs, QuietAfterReset, SendsOwn, Throughout, grants_on}
use Rattle.dmr_core.specs.Laws.{has_call, is_reset, names_carrier, reset_by_act, reset_by_event}
use Rattle.dmr_core.proofs.PlanLemmas.{KnowsPlan}
use Rattle.dmr_core.proofs.NumberLemmas.{equal_itself}
use Rattle.dmr_core.proofs.ListLemmas.{any-filter, any-map, any-push, find_any, first_found, mapped_some, none-filtered, total_some}
use Rattle.dmr_core.proofs.ListLemmas.{true_false}
use Rattle.dmr_core.proofs.FactsFollowEntries.{facts_after-step}
use Rattle.dmr_core.proofs.SlotsStaySound.{IsFree, free_is}
use Rattle.dmr_core.proofs.GrantsAreOwn.{named_own, call_is_active, own_itself, not_grant_own}
use Rattle.dmr_core.proofs.ActsKeepSound.{sound-done, sound-acts}
use Rattle.dmr_core.proofs.EventsKeepSound.{sound-noted}
use Rattle.dmr_core.proofs.AnswersMayBeDone.{acts_may}
use Rattle.dmr_core.proofs.CallsAreApart.{marked_call}

-- an entry of a legal journal: the facts after its event are sound, and its acts may be done on them
pub record IsEntered (plan : Settings) (now : Facts) (entry : Entry) : Type 0 where
  pub noted : IsSound plan (facts_after_event plan now entry.event)
  pub may : AllMayDo plan (facts_after_event plan now entry.event) entry.acts.list

entered_from : (plan : Settings) (now : Facts) (entry : Entry) → KnowsPlan plan → IsSound plan now
    → entry.acts.list ≡ acts_of plan now entry.event → IsEntered plan now entry
entered_from plan now entry p before legal = record {
  noted = sound-noted plan now entry.event p before;
  may = subst (AllMayDo plan (facts_after_event plan now entry.event)) (sym legal) (acts_may plan now entry.event p before);
}

-- sound facts stay sound
pub sound_after : (plan : Settings) (facts : Facts) (journal : List Entry) → KnowsPlan plan → IsSound plan facts →
    IsLegal plan facts journal
    → IsSound plan (facts_after plan facts journal)
sound_after plan facts [] p h legal = h
sound_after plan facts (entry ∷ earlier) p h legal =
    let acts = ap (λ (acts : Acts). acts.list) legal.0 in
    let e = entered_from plan (facts_after plan facts earlier) entry p (sound_after plan facts earlier p h legal.1) acts in
    subst (IsSound plan) (sym (facts_after-step plan facts entry earlier)) (sound-acts plan _ entry.acts.list p e.noted e.may)

pub entered : (plan : Settings) (facts : Facts) (entry : Entry) (earlier : List Entry) → KnowsPlan plan → IsSound plan facts
    → IsLegal plan facts (entry ∷ earlier) → IsEntered plan (facts_after plan facts earlier) entry
entered plan facts entry earlier p h legal =
    entered_from plan (facts_after plan facts earlier) entry p (sound_after plan facts earlier p h legal.1)
    (ap (λ (acts : Acts). acts.list) legal.0)

-- a statement about each act that may be done, at sound facts, holds throughout a legal journal
module _ (plan : Settings) (P : Facts → Act → Type 0) (each : (now : Facts) (act : Act) → IsSound plan now → MayDo plan now act → P now act)
    (p : KnowsPlan plan) where
  each_act : (now : Facts) (acts : List Act) → IsSound plan now → AllMayDo plan now acts → EachAct P now acts
  each_act now [] h may = tt
  each_act now (act ∷ acts) h may =
      (each now act h may.0, each_act (facts_after_act now act) acts (sound-done plan now act p h may.0) may.1)

  throughout_from : (facts : Facts) (journal : List Entry) → IsSound plan facts → IsLegal plan facts journal →
      Throughout plan facts P journal
  throughout_from facts [] h legal = tt
  throughout_from facts (entry ∷ earlier) h legal =
      let e = entered plan facts entry earlier p h legal in
      (each_act _ entry.acts.list e.noted e.may, throughout_from facts earlier h legal.1)

pub throughout : (plan : Settings) (facts : Facts) (P : Facts → Act → Type 0)
    → ((now : Facts) (act : Act) → IsSound plan now → MayDo plan now act → P now act) → (journal : List Entry) → KnowsPlan plan
    → IsSound plan facts → IsLegal plan facts journal → Throughout plan facts P journal
throughout plan facts P each journal p h legal = throughout_from plan P each p facts journal h legal

-- a call begins on a free slot
pub begins_on_free : (plan : Settings) (now : Facts) (act : Act) → IsSound plan now → MayDo plan now act → BeginsOnFree now act
begins_on_free plan now (Began call) h may =
    let free : IsFree plan now call.slot = free_is plan now call.slot may.free in (free.none, free.up)
begins_on_free plan now act h may = tt

pub source_counts : (group : Bool) (source target : ℕ) → 0 < party source group source target
source_counts group source target = rw (equal_itself source) (omega arith)

target_counts : (source target : ℕ) → 0 < party target false source target
target_counts source target = rw (equal_itself target) (omega arith)

-- what holds of some active call holds of one
active_has : (p : ActiveCall → Bool) (q : Call → Bool) (cs : List ActiveCall) (call : Call)
    → option_map (λ (x : ActiveCall). x.call) (find p cs) ≡ Some call → q call ≡ true → list_any (λ (x : ActiveCall). q x.call) cs ≡ true
active_has p q cs call found is =
    let s = mapped_some _ (find p cs) call found in
    find_any p (λ (x : ActiveCall). q x.call) cs s.0 s.1 (subst (λ (k : Call). q k ≡ true) (sym s.2) is)

-- a grant's call is active, so its parties are registered, and its group is listed
module _ (plan : Settings) (now : Facts) (h : IsSound plan now) where
  party_known : (call : Call) (r : ℕ) → call_on now.calls call.slot ≡ Some call → 0 < party r call.group call.source call.target
      → is_registered now r ≡ true
  party_known call r stands k =
      let test : ActiveCall → Bool = λ x. is_slot x.call.slot call.slot in
      let s = mapped_some _ (find test now.calls) call stands in
      let same : engagements_in_call r s.0 ≡ party r call.group call.source call.target =
      ap (λ (c : Call). party r c.group c.source c.target) s.2 in
      h.radios.parties r (omega (arith, total_some (engagements_in_call r) test now.calls s.0 s.1))

  call_known : (call : Call) (late : Bool) → call_on now.calls call.slot ≡ Some call → NamesKnown plan now (grant_pdu plan call late)
  call_known call late stands =
      let source = party_known call call.source stands (source_counts call.group call.source call.target) in
      elim (cases_Bool call.group) [
        | inl e ↦ (
            let group = active_has (λ x. is_slot x.call.slot call.slot) (λ c. c.group && (c.target == call.target)) now.calls call stands
            (rw (e, equal_itself call.target) refl) in
            rw e (source, h.calls.listed call.target group)
            )
        | inr e ↦ rw e (source, party_known call call.target stands (rw e (target_counts call.source call.target)))
      ]

  named_known : (slot : Slot) (pdu : Pdu) (b : Bool) → is_grant pdu ≡ b → MayName plan now.calls slot pdu b → NamesKnown plan now pdu
  named_known slot pdu true e may = subst (NamesKnown plan now) (sym may.1.is) (call_known may.1.call may.1.late may.1.stands)
  named_known slot pdu false e may = unnamed_known pdu e
    where
      unnamed_known : (pdu : Pdu) → is_grant pdu ≡ false → NamesKnown plan now pdu
      unnamed_known (PvGrant l s target source) h = cc
      unnamed_known (TvGrant l s late target source) h = cc
      unnamed_known _ h = tt

  -- a grant that is sent is that of its call
  sent_own : (there slot : Slot) (pdu : Pdu) (call : Call) → there.slot < 2 → slice_get (outbox now there) 0 ≡ Some pdu
      → call_on now.calls slot ≡ Some call → is_own plan call pdu ≡ true
  sent_own there slot pdu call small first stands =
      let found : find (λ (x : Pdu). true) (outbox now there) ≡ Some pdu = sym (first_found (outbox now there)) ∙ first in
      elim (cases_Bool (is_slot there (control_slot plan.lists))) [
        | inl e ↦ all_found (is_own plan call) (outbox now there) pdu found
            (subst (λ (x : Slot). list_all (is_own plan call) (outbox now x) ≡ true) (sym (same_slot there (control_slot plan.lists) e))
            (h.calls.own slot call stands))
        | inr e ↦ not_grant_own plan call pdu
            (false_from_ne_true _ (λ k. true_false _ (find_any (λ x. true) is_grant (outbox now there) pdu found k)
            (h.pool.elsewhere there small e)))
      ]
    where
      all_found : (p : Pdu → Bool) (xs : List Pdu) (x : Pdu) → find (λ (x : Pdu). true) xs ≡ Some x → list_all p xs ≡ true → p x ≡ true
      all_found p [] x h k = cc
      all_found p (y ∷ ys) x h k = let same : y ≡ x = cc in rw (← same) (and_parts (p y) (list_all p ys) k).0

pub grants_known : (plan : Settings) (now : Facts) (act : Act) → IsSound plan now → MayDo plan now act → GrantsKnown plan now act
grants_known plan now (Queue slot pdu) h may = named_known plan now h slot pdu (is_grant pdu) refl may.names
grants_known plan now (Fill slot pdu) h may = named_known plan now h slot pdu (is_grant pdu) refl may.names
grants_known plan now act h may = tt

grant_names : (plan : Settings) (call : Call) (late : Bool) → names (lpcn_of plan call.slot.carrier) call.slot.slot
    (grant_pdu plan call late) ≡ true
grant_names plan call late =
    let named : ((lpcn_of plan call.slot.carrier == lpcn_of plan call.slot.carrier) && (call.slot.slot == call.slot.slot)) ≡ true =
    rw (equal_itself (lpcn_of plan call.slot.carrier), equal_itself call.slot.slot) refl in
    elim (cases_Bool call.group) [ inl e ↦ rw e named | inr e ↦ rw e named ]

filled_own : (plan : Settings) (now : Facts) (slot : Slot) (pdu : Pdu) (b : Bool) → is_grant pdu ≡ b → MayName plan now.calls slot pdu b
    → is_grant pdu ≡ true → (call : Call) × (call_on now.calls call.slot ≡ Some call) × (is_own plan call pdu ≡ true)
    × (names (lpcn_of plan call.slot.carrier) call.slot.slot pdu ≡ true)
filled_own plan now slot pdu true e may k =
    (may.1.call, may.1.stands, rw may.1.is (own_itself plan may.1.call may.1.late), rw may.1.is (grant_names plan may.1.call may.1.late))
filled_own plan now slot pdu false e may k = cc

pub sends_own : (plan : Settings) → KnowsPlan plan → (now : Facts) (act : Act) → IsSound plan now → MayDo plan now act →
    SendsOwn plan now act
sends_own plan p now (Send there pdu) h may = λ slot call k. sent_own plan now h there slot pdu call may.1 may.2 k
sends_own plan p now (Fill there pdu) h may = (
  λ slot call k. named_own plan now slot there call pdu (is_grant pdu) p h k refl may.names,
  filled_own plan now there pdu (is_grant pdu) refl may.names,
)
sends_own plan p now act h may = tt

-- while no call is active on a carrier
call_begins : (calls : List ActiveCall) (call : Call) (c : ℕ) → has_call calls c ≡ false → (call.slot.carrier == c) ≡ false
    → has_call (calls ++ just_begun call ∷ []) c ≡ false
call_begins calls call c h k = rw (any-push (λ s. s.call.slot.carrier == c) calls (just_begun call), h, k) refl

quiet_act : (c : ℕ) (b : Bool) (now : Facts) (act : Act) → (b ≡ true → has_call now.calls c ≡ false) → reset_by_act c b act ≡ true
    → has_call (facts_after_act now act).calls c ≡ false
quiet_act c b now (Began call) h k =
    let both = and_parts b (not (call.slot.carrier == c)) k in call_begins now.calls call c (h both.0) (not-true _ both.1)
quiet_act c b now (Ended slot) h k = any-filter (λ s. s.call.slot.carrier == c) (λ s. not (is_slot s.call.slot slot)) now.calls (h k)
quiet_act c b now act h k = h k

quiet_reset : (c d : ℕ) (b : Bool) (cs : List ActiveCall) → (b ≡ true → has_call cs c ≡ false) → (b || (d == c)) ≡ true
    → has_call (filter (λ s. not (s.call.slot.carrier == d)) cs) c ≡ false
quiet_reset c d true cs h k = any-filter (λ s. s.call.slot.carrier == c) (λ s. not (s.call.slot.carrier == d)) cs (h refl)
quiet_reset c d false cs h k = subst (λ (n : ℕ). has_call (filter (λ s. not (s.call.slot.carrier == n)) cs) c ≡ false)
    (sym (eqb-true d c k)) (none-filtered (λ s. s.call.slot.carrier == c) cs)

quiet_event : (plan : Settings) (c : ℕ) (b : Bool) (now : Facts) (event : Event) → (b ≡ true → has_call now.calls c ≡ false)
    → reset_by_event c b event ≡ true → has_call (facts_after_event plan now event).calls c ≡ false
quiet_event plan c b now (Up d) h k = quiet_reset c d b now.calls h k
quiet_event plan c b now (Lost d) h k = quiet_reset c d b now.calls h k
quiet_event plan c b now (Active slot) h k =
    any-map _ _ (with_activity slot) (λ s. ap (λ (x : Call). x.slot.carrier == c) (marked_call slot s)) now.calls ∙ h k
quiet_event plan c b now Tick h k = any-map _ _ one_tick_older (λ s. refl) now.calls ∙ h k
quiet_event plan c b now event h k = h k

carrier_named : (plan : Settings) (c : ℕ) (call : Call) (late : Bool)
    → names_carrier plan c (grant_pdu plan call late) ≡ (lpcn_of plan call.slot.carrier == lpcn_of plan c)
carrier_named plan c call late = elim (cases_Bool call.group) [ inl e ↦ rw e refl | inr e ↦ rw e refl ]

no_grant_names : (plan : Settings) (c : ℕ) (pdu : Pdu) → is_grant pdu ≡ false → names_carrier plan c pdu ≡ false
no_grant_names plan c (PvGrant l s target source) h = cc
no_grant_names plan c (TvGrant l s late target source) h = cc
no_grant_names plan c _ h = refl

module _ (plan : Settings) (c : ℕ) (p : KnowsPlan plan) (there : has_carrier plan c ≡ true) where
  call_names : (now : Facts) (call : Call) (late : Bool) → IsSound plan now → call_on now.calls call.slot ≡ Some call
      → has_call now.calls c ≡ false → names_carrier plan c (grant_pdu plan call late) ≡ false
  call_names now call late h stands none =
      carrier_named plan c call late ∙ false_from_ne_true _ (λ e.
      let known : has_carrier plan call.slot.carrier ≡ true =
      (h.calls.payload call.slot (call_is_active now.calls call.slot call stands).0).known in
      let same : call.slot.carrier ≡ c = p.channels call.slot.carrier c known there (eqb-true _ _ e) in
      let active =
      active_has (λ x. is_slot x.call.slot call.slot) (λ k. k.slot.carrier == c) now.calls call stands (rw same (equal_itself c)) in
      true_false _ active none)

  named_not : (now : Facts) (slot : Slot) (pdu : Pdu) (b : Bool) → IsSound plan now → is_grant pdu ≡ b → MayName plan now.calls slot pdu b
      → has_call now.calls c ≡ false → names_carrier plan c pdu ≡ false
  named_not now slot pdu true h e may none = rw may.1.is (call_names now may.1.call may.1.late h may.1.stands none)
  named_not now slot pdu false h e may none = no_grant_names plan c pdu e

  no_grant_on : (now : Facts) (act : Act) → IsSound plan now → MayDo plan now act → has_call now.calls c ≡ false →
      grants_on plan c act ≡ false
  no_grant_on now (Queue slot pdu) h may none = named_not now slot pdu (is_grant pdu) h refl may.names none
  no_grant_on now (Fill slot pdu) h may none = named_not now slot pdu (is_grant pdu) h refl may.names none
  no_grant_on now act h may none = refl

  quiet_acts : (b : Bool) (now : Facts) (acts : List Act) → IsSound plan now → AllMayDo plan now acts →
      (b ≡ true → has_call now.calls c ≡ false)
      → QuietActs plan c b now acts
  quiet_acts b now [] h may none = none
  quiet_acts b now (act ∷ acts) h may none = (
    λ e. (none e, no_grant_on now act h may.0 (none e)),
    quiet_acts (reset_by_act c b act) (facts_after_act now act) acts (sound-done plan now act p h may.0) may.1 (quiet_act c b now act none),
  )

quiet_end : (c : ℕ) (b : Bool) (now : Facts) (acts : List Act) → (b ≡ true → has_call now.calls c ≡ false)
    → fold (reset_by_act c) b acts ≡ true → has_call (fold facts_after_act now acts).calls c ≡ false
quiet_end c b now [] none e = none e
quiet_end c b now (act ∷ acts) none e = quiet_end c (reset_by_act c b act) (facts_after_act now act) acts (quiet_act c b now act none) e

none_since : (plan : Settings) (facts : Facts) (c : ℕ) (journal : List Entry) → is_reset c journal ≡ true
    → has_call (facts_after plan facts journal).calls c ≡ false
none_since plan facts c [] e = cc
none_since plan facts c (entry ∷ earlier) e =
    let now : Facts = facts_after plan facts earlier in
    subst (λ (f : Facts). has_call f.calls c ≡ false) (sym (facts_after-step plan facts entry earlier))
    (quiet_end c (reset_by_event c (is_reset c earlier) entry.event) (facts_after_event plan now entry.event) entry.acts.list
    (quiet_event plan c (is_reset c earlier) now entry.event (none_since plan facts c earlier)) e)

pub quiet_after_reset : (plan : Settings) (facts : Facts) (c : ℕ) (journal : List Entry) → KnowsPlan plan → has_carrier plan c ≡ true
    → IsSound plan facts → IsLegal plan facts journal → QuietAfterReset plan facts c journal
quiet_after_reset plan facts c [] p there h legal = tt
quiet_after_reset plan facts c (entry ∷ earlier) p there h legal =
    let e = entered plan facts entry earlier p h legal in (
      quiet_acts plan c p there (reset_by_event c (is_reset c earlier) entry.event) _ entry.acts.list e.noted e.may
          (quiet_event plan c (is_reset c earlier) (facts_after plan facts earlier) entry.event (none_since plan facts c earlier)),
      quiet_after_reset plan facts c earlier p there h legal.1,
    )
