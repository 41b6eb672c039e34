-- Asks, lines and calls are those that the last opener or closer left.
use Rattle.std.proofs.Common.{◌≡◌, ◌<◌, ◌≤◌, ℕ, List, [], ◌∷◌, ◌++◌, Bool, true, false, refl, sym, ◌∙◌, ap, subst, arith, map}
use Rattle.std.specs.Prelude.{fold, Option, Some, None, unwrap_or, option_map, if◌then◌else◌, cond, not, ◌==◌, find}
use Rattle.std.proofs.lemmas.Bool.{eqb-true}
use Rattle.dmr_pdu.specs.declared.slots.Slot.{Slot}
use Rattle.dmr_pdu.specs.declared.pdu.Pdu.TheVariants.{TvGrant}
use Rattle.dmr_plan.specs.declared.settings.Settings.{Settings}
use Rattle.dmr_calls.specs.declared.ask.Ask.{Ask}
use Rattle.dmr_calls.specs.declared.ask.ActiveAsk.{ActiveAsk}
use Rattle.dmr_calls.specs.declared.line.Line.{Line}
use Rattle.dmr_calls.specs.declared.call.Call.{Call}
use Rattle.dmr_calls.specs.declared.call.ActiveCall.{ActiveCall}
use Rattle.dmr_calls.specs.Asks.{ask_of, new_active_ask, others_than, ask_after_tick}
use Rattle.dmr_calls.specs.Lines.{line_of}
use Rattle.dmr_calls.specs.Calls.{call_on, one_tick_older, is_slot, just_begun, with_activity, on_other_carriers}
use Rattle.dmr_calls.proofs.Laws.{same_slot}
use Rattle.dmr_core.specs.declared.event.Event.{Event}
use Rattle.dmr_core.specs.declared.event.Event.TheVariants.{Active, Lost, Say, Tick, Up}
use Rattle.dmr_core.specs.declared.command.Command.TheVariants.{Move, Stay}
use Rattle.dmr_core.specs.declared.act.Act.{Act}
use Rattle.dmr_core.specs.declared.act.Act.TheVariants.{AskOver, Asked, Began, Ended, Fill, Lined, Unlined}
use Rattle.dmr_core.specs.declared.entry.Entry.{Entry}
use Rattle.dmr_core.specs.declared.named.NamedSlot.{NamedSlot}
use Rattle.dmr_core.specs.Facts.{Facts, asks_by_event, calls_by_event, facts_after_act, facts_after, late_by_act, late_by_event}
use Rattle.dmr_core.specs.Facts.{lines_by_event, moving_by_event, facts_after_event}
use Rattle.dmr_core.specs.Words.{has_call_on}
use Rattle.dmr_core.specs.Journal.{IsLegal}
use Rattle.dmr_core.specs.Sound.{IsSound, engagements_in_line, total}
use Rattle.dmr_core.specs.May.{MayDo}
use Rattle.dmr_core.specs.Laws.{EachAct, Throughout}
use Rattle.dmr_core.specs.Last.{closed_with, last_given, no_act, of_ask, of_call, of_late, of_line, of_move, value_after}
use Rattle.dmr_core.proofs.PlanLemmas.{KnowsPlan}
use Rattle.dmr_core.proofs.ListLemmas.{find_new, find_others, find_same, found_map}
use Rattle.dmr_core.proofs.SlotsStaySound.{free_is}
use Rattle.dmr_core.proofs.GrantsAreOwn.{call_begun}
use Rattle.dmr_core.proofs.ActsAreSafe.{source_counts, throughout}
use Rattle.dmr_core.proofs.LastLemmas.{later_first}
use Rattle.dmr_core.proofs.FactsFollowEntries.{facts_after-step}
use Rattle.dmr_core.proofs.CallsAreApart.{call_on-filter, marked_call, same_slots}
use Rattle.dmr_core.proofs.NumberLemmas.{turned_numbers}

-- each act leaves its own value, or the one before it
abbrev Leaves : {X : Type 0} → (Facts → X) → (Act → Option X) → Facts → Act → Type 0
Leaves at by_act now act = at (facts_after_act now act) ≡ unwrap_or (by_act act) (at now)

acts_leave : {X : Type 0} (at : Facts → X) (by_act : Act → Option X) (now : Facts) (acts : List Act) → EachAct (Leaves at by_act) now acts
    → at (fold facts_after_act now acts) ≡ unwrap_or (last_given by_act acts) (at now)
acts_leave at by_act now [] each = refl
acts_leave at by_act now (act ∷ acts) each =
    acts_leave at by_act (facts_after_act now act) acts each.1
    ∙ ap (λ x. unwrap_or (last_given by_act acts) x) each.0
    ∙ sym (later_first (last_given by_act acts) (by_act act) (at now))

-- the last of all decides
decided : {X : Type 0} (plan : Settings) (facts : Facts) (at : Facts → X) (by_event : Event → Option X) (by_act : Act → Option X)
    → ((now : Facts) (event : Event) → at (facts_after_event plan now event) ≡ unwrap_or (by_event event) (at now)) → (journal : List Entry)
    → Throughout plan facts (Leaves at by_act) journal → at (facts_after plan facts journal) ≡ value_after by_event by_act
    (at facts) journal
decided plan facts at by_event by_act notes [] each = refl
decided plan facts at by_event by_act notes (entry ∷ earlier) each =
    let now : Facts = facts_after plan facts earlier in
    let before =
    notes now entry.event ∙ ap (λ x. unwrap_or (by_event entry.event) x) (decided plan facts at by_event by_act notes earlier each.1) in
    ap at (facts_after-step plan facts entry earlier)
    ∙ acts_leave at by_act (facts_after_event plan now entry.event) entry.acts.list each.0
    ∙ ap (λ x. unwrap_or (last_given by_act entry.acts.list) x) before
    ∙ sym (later_first (last_given by_act entry.acts.list) (by_event entry.event) (value_after by_event by_act (at facts) earlier))

-- a statement about every act holds in every journal
each_of : (P : Facts → Act → Type 0) → ((now : Facts) (act : Act) → P now act) → (now : Facts) (acts : List Act) → EachAct P now acts
each_of P always now [] = tt
each_of P always now (act ∷ acts) = (always now act, each_of P always (facts_after_act now act) acts)

pub everywhere : (plan : Settings) (facts : Facts) (P : Facts → Act → Type 0) → ((now : Facts) (act : Act) → P now act)
    → (journal : List Entry) → Throughout plan facts P journal
everywhere plan facts P always [] = tt
everywhere plan facts P always (entry ∷ earlier) = (
  each_of P always (facts_after_event plan (facts_after plan facts earlier) entry.event) entry.acts.list,
  everywhere plan facts P always earlier,
)

-- what was opened is closed, if the test says so
closes : {X Y : Type 0} (f : X → Option Y) (b : Bool) (none x : X) → f none ≡ None
    → f (if b then none else x) ≡ unwrap_or (if b then Some None else None) (f x)
closes f true none x h = h
closes f false none x h = refl

closes_too : {Y : Type 0} (b : Bool) (o : Option Y) → cond (not b) o None ≡ unwrap_or (if b then Some None else None) o
closes_too b o = grind arith

-- the move
move_noted : (moving : Option ℕ) (event : Event) → moving_by_event moving event ≡ unwrap_or (of_move event) moving
move_noted moving (Say (Move lpcn)) = refl
move_noted moving (Say Stay) = refl
move_noted moving _ = refl

pub move_by_last : (plan : Settings) (facts : Facts) (journal : List Entry)
    → (facts_after plan facts journal).moving ≡ value_after of_move no_act facts.moving journal
move_by_last plan facts journal =
    decided plan facts (λ (f : Facts). f.moving) of_move no_act (λ now event. move_noted now.moving event) journal
    (everywhere plan facts (Leaves (λ (f : Facts). f.moving) no_act) (λ now act. refl) journal)

-- the last late entry
late_noted : (plan : Settings) (late : Option NamedSlot) (event : Event)
    → late_by_event plan late event ≡ unwrap_or (closed_with plan.lists.control event) late
late_noted plan late (Up c) = closes (λ x. x) (c == plan.lists.control) None late refl
late_noted plan late (Lost c) = closes (λ x. x) (c == plan.lists.control) None late refl
late_noted plan late _ = refl

late_left : (now : Facts) (act : Act) → late_by_act now.late act ≡ unwrap_or (of_late act) now.late
late_left now (Fill slot (TvGrant channel number bit target source)) = refl
late_left now _ = refl

pub late_by_last : (plan : Settings) (facts : Facts) (journal : List Entry)
    → (facts_after plan facts journal).late ≡ value_after (closed_with plan.lists.control) of_late facts.late journal
late_by_last plan facts journal =
    decided plan facts (λ (f : Facts). f.late) (closed_with plan.lists.control) of_late
    (λ now event. late_noted plan now.late event) journal
    (everywhere plan facts (Leaves (λ (f : Facts). f.late) of_late) late_left journal)

-- asks
asked : (asks : List ActiveAsk) (ask : Ask) (r : ℕ) (b : Bool) → (ask.source == r) ≡ b
    → ask_of (others_than ask.source asks ++ new_active_ask ask ∷ []) r ≡ unwrap_or (if b then Some (Some ask) else None) (ask_of asks r)
asked asks ask r true e =
    let none = find_others (λ (a : ActiveAsk). a.ask.source) ask.source r asks ∙ rw e refl in
    ap (option_map (λ (a : ActiveAsk). a.ask))
    (find_new (λ (a : ActiveAsk). a.ask.source == r) (others_than ask.source asks) (new_active_ask ask) none e)
asked asks ask r false e =
    ap (option_map (λ (a : ActiveAsk). a.ask))
    (find_same (λ (a : ActiveAsk). a.ask.source == r) (others_than ask.source asks) (new_active_ask ask) e
    ∙ find_others (λ (a : ActiveAsk). a.ask.source) ask.source r asks ∙ rw e refl)

ask_left : (r : ℕ) (now : Facts) (act : Act) → Leaves (λ (f : Facts). ask_of f.asks r) (of_ask r) now act
ask_left r now (Asked ask) = asked now.asks ask r (ask.source == r) refl
ask_left r now (AskOver q) =
    ap (option_map (λ (a : ActiveAsk). a.ask)) (find_others (λ (a : ActiveAsk). a.ask.source) q r now.asks)
    ∙ closes (option_map (λ (a : ActiveAsk). a.ask)) (q == r) None (find (λ (a : ActiveAsk). a.ask.source == r) now.asks) refl
ask_left r now _ = refl

ask_noted : (plan : Settings) (asks : List ActiveAsk) (event : Event) (r : ℕ)
    → ask_of (asks_by_event plan asks event) r ≡ unwrap_or (closed_with plan.lists.control event) (ask_of asks r)
ask_noted plan asks (Up c) r = closes (λ xs. ask_of xs r) (c == plan.lists.control) [] asks refl
ask_noted plan asks (Lost c) r = closes (λ xs. ask_of xs r) (c == plan.lists.control) [] asks refl
ask_noted plan asks Tick r =
    found_map (λ (a : ActiveAsk). a.ask.source == r) (λ (a : ActiveAsk). a.ask) ask_after_tick (λ a. refl) (λ a. refl) asks
ask_noted plan asks _ r = refl

pub ask_by_last : (plan : Settings) (facts : Facts) (journal : List Entry) (r : ℕ)
    → ask_of (facts_after plan facts journal).asks r ≡ value_after (closed_with plan.lists.control) (of_ask r) (ask_of facts.asks r) journal
ask_by_last plan facts journal r =
    decided plan facts (λ (f : Facts). ask_of f.asks r) (closed_with plan.lists.control) (of_ask r)
    (λ now event. ask_noted plan now.asks event r) journal
    (everywhere plan facts (Leaves (λ (f : Facts). ask_of f.asks r) (of_ask r)) (ask_left r) journal)

-- lines
none_counts : {X : Type 0} (f : X → ℕ) (p : X → Bool) → ((x : X) → p x ≡ true → 0 < f x) → (xs : List X) → total f xs ≤ 0 → find p xs ≡ None
none_counts f p h [] few = refl
none_counts f p h (x ∷ xs) few = let more = none_counts f p h xs in let some = h x in grind arith

line_counts : (r : ℕ) (line : Line) → (line.source == r) ≡ true → 0 < engagements_in_line r line
line_counts r line e =
    subst (λ (n : ℕ). 0 < engagements_in_line n line) (eqb-true line.source r e) (source_counts line.group line.source line.target)

pub no_line : (plan : Settings) (now : Facts) (line : Line) → MayDo plan now (Lined line) →
    find (λ l. l.source == line.source) now.lines ≡ None
no_line plan now line may =
    let once = may.2.once line.source in
    let counts = source_counts line.group line.source line.target in
    none_counts (engagements_in_line line.source) (λ l. l.source == line.source) (line_counts line.source) now.lines
    (omega (arith, once, counts))

lined : (plan : Settings) (now : Facts) (line : Line) (r : ℕ) (b : Bool) → (line.source == r) ≡ b → MayDo plan now (Lined line)
    → line_of (now.lines ++ line ∷ []) r ≡ unwrap_or (if b then Some (Some line) else None) (line_of now.lines r)
lined plan now line r true e may =
    let none = subst (λ (n : ℕ). find (λ l. l.source == n) now.lines ≡ None) (eqb-true line.source r e) (no_line plan now line may) in
    find_new (λ l. l.source == r) now.lines line none e
lined plan now line r false e may = find_same (λ l. l.source == r) now.lines line e

line_left : (plan : Settings) (r : ℕ) (now : Facts) (act : Act) → IsSound plan now → MayDo plan now act
    → Leaves (λ (f : Facts). line_of f.lines r) (of_line r) now act
line_left plan r now (Lined line) h may = lined plan now line r (line.source == r) refl may
line_left plan r now (Unlined q) h may =
    find_others (λ (l : Line). l.source) q r now.lines ∙ closes (λ x. x) (q == r) None (line_of now.lines r) refl
line_left plan r now _ h may = refl

line_noted : (plan : Settings) (lines : List Line) (event : Event) (r : ℕ)
    → line_of (lines_by_event plan lines event) r ≡ unwrap_or (closed_with plan.lists.control event) (line_of lines r)
line_noted plan lines (Up c) r = closes (λ xs. line_of xs r) (c == plan.lists.control) [] lines refl
line_noted plan lines (Lost c) r = closes (λ xs. line_of xs r) (c == plan.lists.control) [] lines refl
line_noted plan lines _ r = refl

-- calls
begun : (calls : List ActiveCall) (call : Call) (slot : Slot) (b : Bool) → is_slot call.slot slot ≡ b → has_call_on calls call.slot ≡ false
    → call_on (calls ++ just_begun call ∷ []) slot ≡ unwrap_or (if b then Some (Some call) else None) (call_on calls slot)
begun calls call slot true e none =
    subst (λ (x : Slot). call_on (calls ++ just_begun call ∷ []) x ≡ Some call) (same_slot call.slot slot e)
    (call_begun calls (just_begun call) none)
begun calls call slot false e none =
    ap (option_map (λ (s : ActiveCall). s.call)) (find_same (λ (s : ActiveCall). is_slot s.call.slot slot) calls (just_begun call) e)

call_left : (plan : Settings) (slot : Slot) (now : Facts) (act : Act) → IsSound plan now → MayDo plan now act
    → Leaves (λ (f : Facts). call_on f.calls slot) (of_call slot) now act
call_left plan slot now (Began call) h may =
    begun now.calls call slot (is_slot call.slot slot) refl (free_is plan now call.slot may.free).none
call_left plan slot now (Ended other) h may =
    call_on-filter (λ x. not (is_slot x other)) now.calls slot ∙ rw (same_slots other slot)
    (closes_too (is_slot slot other) (call_on now.calls slot))
call_left plan slot now _ h may = refl

carrier_over : (calls : List ActiveCall) (c : ℕ) (slot : Slot)
    → call_on (on_other_carriers c calls) slot ≡ unwrap_or (if c == slot.carrier then Some None else None) (call_on calls slot)
carrier_over calls c slot =
    call_on-filter (λ x. not (x.carrier == c)) calls slot
    ∙ rw (turned_numbers c slot.carrier) (closes_too (slot.carrier == c) (call_on calls slot))

call_changed : (f : ActiveCall → ActiveCall) → ((s : ActiveCall) → (f s).call ≡ s.call) → (calls : List ActiveCall) (slot : Slot)
    → call_on (map f calls) slot ≡ call_on calls slot
call_changed f same calls slot =
    found_map (λ (s : ActiveCall). is_slot s.call.slot slot) (λ (s : ActiveCall). s.call) f
    (λ s. ap (λ (k : Call). is_slot k.slot slot) (same s)) same calls

pub call_noted : (calls : List ActiveCall) (event : Event) (slot : Slot)
    → call_on (calls_by_event calls event) slot ≡ unwrap_or (closed_with slot.carrier event) (call_on calls slot)
call_noted calls (Up c) slot = carrier_over calls c slot
call_noted calls (Lost c) slot = carrier_over calls c slot
call_noted calls (Active there) slot = call_changed (with_activity there) (marked_call there) calls slot
call_noted calls Tick slot = call_changed one_tick_older (λ s. refl) calls slot
call_noted calls _ slot = refl

-- a legal journal from sound facts
module _ (plan : Settings) (facts : Facts) (journal : List Entry) (p : KnowsPlan plan) (h : IsSound plan facts)
    (legal : IsLegal plan facts journal) where
  pub line_by_last : (r : ℕ)
      → line_of (facts_after plan facts journal).lines r ≡ value_after (closed_with plan.lists.control) (of_line r)
      (line_of facts.lines r) journal
  line_by_last r =
      decided plan facts (λ (f : Facts). line_of f.lines r) (closed_with plan.lists.control) (of_line r)
      (λ now event. line_noted plan now.lines event r) journal
      (throughout plan facts (Leaves (λ (f : Facts). line_of f.lines r) (of_line r)) (line_left plan r) journal p h legal)

  pub call_by_last : (slot : Slot)
      → call_on (facts_after plan facts journal).calls slot ≡ value_after (closed_with slot.carrier) (of_call slot)
      (call_on facts.calls slot) journal
  call_by_last slot =
      decided plan facts (λ (f : Facts). call_on f.calls slot) (closed_with slot.carrier) (of_call slot)
      (λ now event. call_noted now.calls event slot) journal
      (throughout plan facts (Leaves (λ (f : Facts). call_on f.calls slot) (of_call slot)) (call_left plan slot) journal p h legal)
