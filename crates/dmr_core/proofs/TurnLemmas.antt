-- Late entries name the talkgroup calls in turn.
use Rattle.std.proofs.Common.{◌≡◌, ◌≢◌, ◌<◌, ◌≤◌, ◌+◌, ◌-◌, ◌*◌, ◌⊎◌, inl, inr, ℕ, List, [], ◌∷◌, Bool, true, false, refl, sym, ◌∙◌, ap}
use Rattle.std.proofs.Common.{subst, arith}
use Rattle.std.specs.Prelude.{◌%◌, ◌==◌, fold, Option, Some, None, MatchOption, IfSome, option_map, if◌then◌else◌}
use Rattle.std.specs.List.{list_all}
use Rattle.std.specs.Option.{option_and_then, option_map_or}
use Rattle.std.proofs.lemmas.Bool.{and_parts, cases_Bool, cases_eq, cases_lt, eqb-false, eqb-true}
use Rattle.std.proofs.lemmas.Option.{cond_some}
use Rattle.dmr_pdu.specs.declared.slots.Slot.{Slot}
use Rattle.dmr_pdu.specs.declared.pdu.Pdu.{Pdu}
use Rattle.dmr_pdu.specs.declared.pdu.Pdu.TheVariants.{TvGrant}
use Rattle.dmr_plan.specs.declared.settings.Settings.{Settings}
use Rattle.dmr_plan.specs.IsPlan.{IsPlan}
use Rattle.dmr_access.specs.Fill.{is_late_due, next_fill_count}
use Rattle.dmr_calls.specs.declared.call.Call.{Call}
use Rattle.dmr_calls.specs.declared.call.ActiveCall.{ActiveCall}
use Rattle.dmr_calls.specs.Calls.{call_on}
use Rattle.dmr_pdu.specs.Slots.{place, slot_at}
use Rattle.dmr_calls.specs.After.{group_after, is_group_at, is_group_on, place_after, HasNoGroupCall, IsNext, IsTurn}
use Rattle.dmr_calls.proofs.Laws.{slot_at-place}
use Rattle.dmr_core.specs.declared.event.Event.{Event}
use Rattle.dmr_core.specs.declared.event.Event.TheVariants.{Active, Lost, Say, Tick, Up}
use Rattle.dmr_core.specs.declared.command.Command.TheVariants.{Move, Stay}
use Rattle.dmr_core.specs.declared.act.Act.{Act}
use Rattle.dmr_core.specs.declared.act.Act.TheVariants.{Began, Ended, Fill}
use Rattle.dmr_core.specs.declared.entry.Entry.{Entry}
use Rattle.dmr_core.specs.declared.named.NamedSlot.{NamedSlot}
use Rattle.dmr_core.specs.Facts.{Facts, facts_after_act, facts_after, fills_by_act, fills_by_event, has_carrier, late_by_act}
use Rattle.dmr_core.specs.Facts.{facts_after_event}
use Rattle.dmr_core.specs.Late.{last_slot, next_call, slot_named}
use Rattle.dmr_core.specs.Words.{lpcn_of}
use Rattle.dmr_core.specs.Rules.{grant_pdu, late_entry}
use Rattle.dmr_core.specs.Journal.{IsLegal}
use Rattle.dmr_core.specs.Sound.{IsPayload, IsSound, is_grant, total}
use Rattle.dmr_core.specs.May.{AllMayDo, MayDo, late_entry_of_fill}
use Rattle.dmr_core.specs.Turns.{FillsInTurn, HasFillOf, IsFilledWith, IsLateOf, NamesActiveCall, fill_in, fills_in, fills_since, is_steady}
use Rattle.dmr_core.specs.Turns.{is_steady_act, is_steady_event, is_turn, talkgroup_calls}
use Rattle.dmr_core.proofs.PlanLemmas.{KnowsPlan}
use Rattle.dmr_core.proofs.GrantsAreOwn.{call_is_active}
use Rattle.dmr_core.proofs.FillsAreLateEntries.{late_is_active}
use Rattle.dmr_core.proofs.FactsFollowEntries.{facts_after-step}
use Rattle.dmr_core.proofs.ActsKeepSound.{sound-done}
use Rattle.dmr_core.proofs.ActsAreSafe.{entered, sound_after}
use Rattle.dmr_core.proofs.LastOpenerLemmas.{call_noted}
use Rattle.dmr_core.proofs.PlansAreKnown.{plan_known}
use Rattle.dmr_core.proofs.ChannelLemmas.{channel_known}
use Rattle.dmr_core.proofs.RoundLemmas.{IsWithin, at_first, between, few_places, nearer, some_left}
use Rattle.dmr_core.proofs.ListLemmas.{true_false}

-- the law of dmr_calls about the next talkgroup call
abbrev TakeTurns : Type 0
TakeTurns =
    (calls : List ActiveCall) (last : Option Slot) → MatchOption (group_after calls last) (HasNoGroupCall calls)
    (IsTurn calls (place_after last))

-- a Fill is the late entry that is due
pub fills_turn : (plan : Settings) (now : Facts) (act : Act) → IsSound plan now → MayDo plan now act → FillsInTurn plan now act
fills_turn plan now (Fill slot pdu) h may = may.late
fills_turn plan now act h may = tt

-- a Fill that is a grant names an active talkgroup call
pub names_active_call : (plan : Settings) (now : Facts) (act : Act) → IsSound plan now → MayDo plan now act → NamesActiveCall plan now act
names_active_call plan now (Fill slot pdu) h may = λ k.
    let here : late_entry_of_fill pdu ≡ Some pdu = rw k refl in
    subst (λ (o : Option Pdu). IfSome o (IsLateOf plan now.calls)) (sym may.late ∙ here) (late_is_active plan now)
names_active_call plan now act h may = tt

-- Fills are counted modulo 4
acts_count : (acts : List Act) (n m : ℕ) → n ≡ m % 4 → fold fills_by_act n acts ≡ (m + total fill_in acts) % 4
acts_count [] n m h = omega (arith, h)
acts_count (Fill slot pdu ∷ acts) n m h =
    let next : next_fill_count n ≡ (m + 1) % 4 = omega (arith, h) in omega (arith, acts_count acts (next_fill_count n) (m + 1) next)
acts_count (act ∷ acts) n m h = omega (arith, acts_count acts n m h)

turn_counts : (b : Bool) (n m : ℕ) → n ≡ m % 4 → (if b then 0 else n) ≡ (if b then 0 else m) % 4
turn_counts true n m h = refl
turn_counts false n m h = h

event_counts : (plan : Settings) (n m : ℕ) (event : Event) → n ≡ m % 4
    → fills_by_event plan n event ≡ (if is_turn plan event then 0 else m) % 4
event_counts plan n m (Up c) h = turn_counts (c == plan.lists.control) n m h
event_counts plan n m (Lost c) h = turn_counts (c == plan.lists.control) n m h
event_counts plan n m event h = h

pub fills_count : (plan : Settings) (facts : Facts) (journal : List Entry) → facts.fills < 4
    → (facts_after plan facts journal).fills ≡ fills_since plan facts.fills journal % 4
fills_count plan facts [] small = omega (arith, small)
fills_count plan facts (entry ∷ earlier) small =
    let fills : ℕ = (facts_after plan facts earlier).fills in
    let since : ℕ = fills_since plan facts.fills earlier in
    acts_count entry.acts.list (fills_by_event plan fills entry.event) (if is_turn plan entry.event then 0 else since)
    (event_counts plan fills since entry.event (fills_count plan facts earlier small))

-- calls on the same slots pass the same tests
same_test : (calls other : List ActiveCall) → ((slot : Slot) → call_on calls slot ≡ call_on other slot) →
    is_group_at calls ≡ is_group_at other
same_test calls other same = λ i k. option_map_or (λ (call : Call). call.group) (same (slot_at k) i) false

-- the facts after a Fill that is not a grant, and after one that is
no_entry : (late : Option NamedSlot) (slot : Slot) (pdu : Pdu) → late_entry_of_fill pdu ≡ None → late_by_act late (Fill slot pdu) ≡ late
no_entry late slot (TvGrant channel number bit target source) h = cc
no_entry late slot pdu h = refl

entry_is : (pdu entry : Pdu) → late_entry_of_fill pdu ≡ Some entry → pdu ≡ entry
entry_is pdu entry h = (cond_some (is_grant pdu) pdu entry h).1

named_slot : (plan : Settings) (slot : Slot) → IsPlan plan → has_carrier plan slot.carrier ≡ true
    → slot_named plan (record { channel = lpcn_of plan slot.carrier; slot = slot.slot }) ≡ Some slot
named_slot plan slot p there =
    ap (λ (o : Option ℕ). option_map (λ (c : ℕ). record { carrier = c; slot = slot.slot }) o) (channel_known plan slot.carrier p there)

-- before the fourth the next number counts
counted_on : (k : ℕ) → k < 4 → k ≢ 3 → next_fill_count k ≡ k + 1
counted_on k few other = elim (cases_lt k 3) [ inl low ↦ omega (arith, low) | inr high ↦ absurd (other (omega (arith, high, few))) ]

-- the target: a talkgroup call, and its place
record IsTarget (calls : List ActiveCall) (call : Call) : Type 0 where
  pub stands : call_on calls call.slot ≡ Some call
  pub group : call.group ≡ true
  pub small : call.slot.slot < 2
  pub within : place call.slot < 32

-- while the target has not been named: how near its turn is, and how many Fills there were
record IsGoing (plan : Settings) (calls : List ActiveCall) (call : Call) (n : ℕ) (now : Facts) : Type 0 where
  pub still : now.moving ≡ None
  pub same : (slot : Slot) → call_on now.calls slot ≡ call_on calls slot
  pub d : ℕ
  pub near : IsWithin (is_group_at calls) (place_after (last_slot plan now)) (place call.slot) d
  pub few : 4 * d + n ≤ 4 * talkgroup_calls calls + now.fills

module _ (turns : TakeTurns) (plan : Settings) (p : IsPlan plan) (calls : List ActiveCall) (call : Call)
    (target : IsTarget calls call) where
  target_there : is_group_at calls (place call.slot) ≡ true
  target_there =
      let on : is_group_on calls call.slot ≡ true = rw target.stands target.group in
      subst (λ (s : Slot). is_group_on calls s ≡ true) (sym (slot_at-place call.slot target.small)) on

  -- a steady event leaves that unchanged
  going_event : (n : ℕ) (now : Facts) (event : Event) → is_steady_event event ≡ true → IsGoing plan calls call n now
      → IsGoing plan calls call n (facts_after_event plan now event)
  going_event n now (Up c) steady h = cc
  going_event n now (Lost c) steady h = cc
  going_event n now (Say (Move lpcn)) steady h = cc
  going_event n now (Say Stay) steady h = record { still = refl; same = h.same; d = h.d; near = h.near; few = h.few }
  going_event n now (Active there) steady h =
      record { still = h.still; same = λ slot. call_noted now.calls (Active there) slot ∙ h.same slot; d = h.d; near = h.near; few = h.few }
  going_event n now Tick steady h =
      record { still = h.still; same = λ slot. call_noted now.calls Tick slot ∙ h.same slot; d = h.d; near = h.near; few = h.few }
  going_event n now event steady h = record { still = h.still; same = h.same; d = h.d; near = h.near; few = h.few }

  -- a Fill
  module _ (n : ℕ) (now : Facts) (sound : IsSound plan now) (h : IsGoing plan calls call n now) (slot : Slot) (pdu : Pdu) where
    -- no late entry is due
    not_due : is_late_due now.fills ≡ false → late_entry_of_fill pdu ≡ late_entry plan now
        → IsGoing plan calls call (n + 1) (facts_after_act now (Fill slot pdu))
    unfolding late_entry
    not_due due entry =
        let same : late_by_act now.late (Fill slot pdu) ≡ now.late = no_entry now.late slot pdu (entry ∙ rw due refl) in
        let more : next_fill_count now.fills ≡ now.fills + 1 = counted_on now.fills sound.access.counted (eqb-false now.fills 3 due) in
        record {
          still = h.still;
          same = h.same;
          d = h.d;
          near = subst (λ (late : Option NamedSlot). IsWithin (is_group_at calls) (place_after (option_and_then (slot_named plan) late))
              (place call.slot) h.d) (sym same) h.near;
          few = omega (arith, h.few, more);
        }

    -- a late entry: it is the target's, or the target's turn is nearer
    due_turn : (other : Call) → is_late_due now.fills ≡ true → pdu ≡ grant_pdu plan other true
        → IsTurn now.calls (place_after (last_slot plan now)) other
        → (pdu ≡ grant_pdu plan call true) ⊎ IsGoing plan calls call (n + 1) (facts_after_act now (Fill slot pdu))
    due_turn other due is turn =
        let payload : IsPayload plan now.up other.slot =
        sound.calls.payload other.slot (call_is_active now.calls other.slot other turn.stands).0 in
        let named : NamedSlot = record { channel = lpcn_of plan other.slot.carrier; slot = other.slot.slot } in
        let late : late_by_act now.late (Fill slot pdu) ≡ Some named =
        subst (λ (x : Pdu). late_by_act now.late (Fill slot x) ≡ Some named) (sym is) (rw turn.group refl) in
        let last : last_slot plan (facts_after_act now (Fill slot pdu)) ≡ Some other.slot =
        ap (option_and_then (slot_named plan)) late ∙ named_slot plan other.slot p payload.known in
        elim (cases_eq (place other.slot) (place call.slot)) [
          | inl e ↦ inl (is ∙ ap (λ (c : Call). grant_pdu plan c true) (same_call other turn.stands payload.small e))
          | inr differ ↦ inr (record {
            still = h.still;
            same = h.same;
            d = h.d - 1;
            near = subst (λ (from : ℕ). IsWithin (is_group_at calls) from (place call.slot) (h.d - 1)) (sym (ap place_after last))
                (nearer (is_group_at calls) (place_after (last_slot plan now)) (place call.slot) h.d
                (place other.slot) target.within target_there differ (around other turn.turn) h.near);
            few = omega (
              arith,
              h.few,
              eqb-true now.fills 3 due,
              some_left (is_group_at calls) (place_after (last_slot plan now))
                  (place call.slot) h.d target_there h.near,
            );
          })
        ]
      where
        same_call : (other : Call) → call_on now.calls other.slot ≡ Some other → other.slot.slot < 2 → place other.slot ≡ place call.slot →
            other ≡ call
        same_call other stands small e =
            let slots : other.slot ≡ call.slot =
            sym (slot_at-place other.slot small) ∙ ap slot_at e ∙ slot_at-place call.slot target.small in
            let mine : call_on now.calls call.slot ≡ Some call = h.same call.slot ∙ target.stands in
            let yours : call_on now.calls call.slot ≡ Some other = subst (λ (s : Slot). call_on now.calls s ≡ Some other) slots stands in
            cc

        around : (other : Call) → IsNext (is_group_at now.calls) (place_after (last_slot plan now)) (place other.slot)
            → IsNext (is_group_at calls) (place_after (last_slot plan now)) (place other.slot)
        around other turn =
            subst (λ (g : ℕ → Bool). IsNext g (place_after (last_slot plan now)) (place other.slot)) (same_test now.calls calls h.same) turn

    fill_step : late_entry_of_fill pdu ≡ late_entry plan now
        → (pdu ≡ grant_pdu plan call true) ⊎ IsGoing plan calls call (n + 1) (facts_after_act now (Fill slot pdu))
    unfolding late_entry
    fill_step entry = elim (cases_Bool (is_late_due now.fills)) [
      | inl due ↦ step (next_call plan now) refl (turns now.calls (last_slot plan now)) due
      | inr due ↦ inr (not_due due entry)
    ]
      where
        step : (o : Option Call) → next_call plan now ≡ o → MatchOption o (HasNoGroupCall now.calls)
            (IsTurn now.calls (place_after (last_slot plan now)))
            → is_late_due now.fills ≡ true
            → (pdu ≡ grant_pdu plan call true) ⊎ IsGoing plan calls call (n + 1) (facts_after_act now (Fill slot pdu))
        step None e none due =
            let here : call_on now.calls call.slot ≡ Some call = h.same call.slot ∙ target.stands in
            let on : is_group_on now.calls call.slot ≡ true = rw here target.group in
            true_false _ on (none call.slot (omega (arith, target.within), target.small))
        step (Some other) e turn due =
            let some : late_entry plan now ≡ Some (grant_pdu plan other true) = rw (due, h.still, e) refl in
            due_turn other due (entry_is pdu (grant_pdu plan other true) (entry ∙ some)) turn

  acts_go : (n : ℕ) (now : Facts) (acts : List Act) → IsSound plan now → AllMayDo plan now acts → list_all is_steady_act acts ≡ true
      → IsGoing plan calls call n now
      → HasFillOf (grant_pdu plan call true) acts ⊎ IsGoing plan calls call (n + total fill_in acts) (fold facts_after_act now acts)
  acts_go n now [] sound may steady h = inr (subst (λ (k : ℕ). IsGoing plan calls call k now) (omega arith) h)
  acts_go n now (Fill slot pdu ∷ acts) sound may steady h =
      let next : IsSound plan (facts_after_act now (Fill slot pdu)) = sound-done plan now (Fill slot pdu) (plan_known plan p) sound may.0 in
      let more : n + 1 + total fill_in acts ≡ n + (1 + total fill_in acts) = omega arith in
      elim (fill_step n now sound h slot pdu may.0.late) [
        | inl named ↦ inl (inl named)
        | inr going ↦ elim (acts_go (n + 1) (facts_after_act now (Fill slot pdu)) acts next may.1 (and_parts true _ steady).1 going) [
          | inl later ↦ inl (inr later)
          | inr left ↦ inr (subst (λ (k : ℕ). IsGoing plan calls call k (fold facts_after_act (facts_after_act now (Fill slot pdu)) acts))
              more left)
        ]
      ]
  acts_go n now (Began other ∷ acts) sound may steady h = cc
  acts_go n now (Ended other ∷ acts) sound may steady h = cc
  acts_go n now (act ∷ acts) sound may steady h =
      let next : IsSound plan (facts_after_act now act) = sound-done plan now act (plan_known plan p) sound may.0 in
      let more : n + total fill_in acts ≡ n + (0 + total fill_in acts) = omega arith in
      elim (acts_go n (facts_after_act now act) acts next may.1 (and_parts true _ steady).1
      (record { still = h.still; same = h.same; d = h.d; near = h.near; few = h.few })) [
        | inl later ↦ inl (inr later)
        | inr left ↦ inr (subst (λ (k : ℕ). IsGoing plan calls call k (fold facts_after_act (facts_after_act now act) acts)) more left)
      ]

module _ (turns : TakeTurns) (plan : Settings) (facts : Facts) (call : Call) (p : IsPlan plan) (sound : IsSound plan facts)
    (still : facts.moving ≡ None) (target : IsTarget facts.calls call) where
  goes : (journal : List Entry) → IsLegal plan facts journal → is_steady journal ≡ true
      → IsFilledWith (grant_pdu plan call true) journal ⊎ IsGoing plan facts.calls call (fills_in journal) (facts_after plan facts journal)
  goes [] legal steady = inr (record {
    still = still;
    same = λ slot. refl;
    d = between (is_group_at facts.calls) 0 32;
    near = at_first (is_group_at facts.calls) (place_after (last_slot plan facts)) (place call.slot) target.within;
    few = omega (arith, few_places facts.calls);
  })
  goes (entry ∷ earlier) legal steady =
      let now : Facts = facts_after plan facts earlier in
      let after : Facts = facts_after_event plan now entry.event in
      let e = entered plan facts entry earlier (plan_known plan p) sound legal in
      let both = and_parts _ _ steady in
      let here = and_parts _ _ both.0 in
      elim (goes earlier legal.1 both.1) [
        | inl named ↦ inl (inr named)
        | inr going ↦ elim (acts_go turns plan p facts.calls call target (fills_in earlier) after entry.acts.list e.noted e.may here.1
            (going_event turns plan p facts.calls call target (fills_in earlier) now entry.event here.0 going)) [
              | inl named ↦ inl (inl named)
              | inr left ↦ inr (subst (IsGoing plan facts.calls call (fills_in (entry ∷ earlier)))
                  (sym (facts_after-step plan facts entry earlier)) left)
            ]
      ]

-- a talkgroup call is on a slot of the site
target_is : (plan : Settings) (facts : Facts) (call : Call) → KnowsPlan plan → IsSound plan facts →
    call_on facts.calls call.slot ≡ Some call
    → call.group ≡ true → IsTarget facts.calls call
target_is plan facts call p sound stands group =
    let payload : IsPayload plan facts.up call.slot = sound.calls.payload call.slot (call_is_active facts.calls call.slot call stands).0 in
    record {
      stands = stands;
      group = group;
      small = payload.small;
      within =
          omega (arith, payload.small, p.numbers call.slot.carrier payload.known);
    }

pub named_within : TakeTurns → (plan : Settings) (facts : Facts) (journal : List Entry) (call : Call) → IsPlan plan → IsSound plan facts
    → IsLegal plan facts journal → is_steady journal ≡ true → facts.moving ≡ None → call_on facts.calls call.slot ≡ Some call →
    call.group ≡ true
    → 4 * talkgroup_calls facts.calls ≤ fills_in journal → IsFilledWith (grant_pdu plan call true) journal
named_within turns plan facts journal call p sound legal steady still stands group enough =
    let target : IsTarget facts.calls call = target_is plan facts call (plan_known plan p) sound stands group in
    let last : Facts = facts_after plan facts journal in
    let last_sound : IsSound plan last = sound_after plan facts journal (plan_known plan p) sound legal in
    elim (goes turns plan facts call p sound still target journal legal steady) [
      | inl named ↦ named
      | inr going ↦ absurd (omega (
        arith,
        enough,
        going.few,
        last_sound.access.counted,
        some_left (is_group_at facts.calls) (place_after (last_slot plan last)) (place call.slot) going.d
            (target_there turns plan p facts.calls call target) going.near,
      ))
    ]
