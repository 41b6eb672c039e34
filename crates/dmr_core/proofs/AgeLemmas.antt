-- Ages count ticks.
use Rattle.std.proofs.Common.{◌≡◌, ◌≤◌, ◌+◌, ℕ, List, [], ◌∷◌, ◌++◌, Bool, true, false, refl, sym, ◌∙◌, ap, subst, arith, map, filter, min}
use Rattle.std.proofs.Common.{inl, inr}
use Rattle.std.specs.Prelude.{fold, find, Option, Some, None, option_map, if◌then◌else◌, not, ◌==◌, ◌||◌}
use Rattle.std.specs.List.{list_any, All}
use Rattle.std.specs.Option.{option_map_or}
use Rattle.std.proofs.lemmas.List.Elements.{All-tail}
use Rattle.std.proofs.lemmas.Bool.{cases_Bool, eqb-true}
use Rattle.dmr_pdu.specs.declared.slots.Slot.{Slot}
use Rattle.dmr_plan.specs.declared.settings.Settings.{Settings}
use Rattle.dmr_calls.specs.declared.ask.Ask.{Ask}
use Rattle.dmr_calls.specs.declared.ask.ActiveAsk.{ActiveAsk}
use Rattle.dmr_calls.specs.declared.call.Call.{Call}
use Rattle.dmr_calls.specs.declared.call.ActiveCall.{ActiveCall}
use Rattle.dmr_calls.specs.Ticks.{one_more}
use Rattle.dmr_calls.specs.Asks.{ask_of, new_active_ask, others_than, ask_after_tick}
use Rattle.dmr_calls.specs.Calls.{call_on, one_tick_older, is_slot, just_begun, with_activity, on_other_carriers}
use Rattle.dmr_calls.proofs.Laws.{same_slot}
use Rattle.dmr_core.specs.declared.event.Event.{Event}
use Rattle.dmr_core.specs.declared.event.Event.TheVariants.{Active, Lost, Tick, Up}
use Rattle.dmr_core.specs.declared.act.Act.{Act}
use Rattle.dmr_core.specs.declared.act.Act.TheVariants.{AskOver, Asked, Began, Ended}
use Rattle.dmr_core.specs.declared.entry.Entry.{Entry}
use Rattle.dmr_core.specs.Facts.{Facts, facts_after_act, facts_after, facts_after_event}
use Rattle.dmr_core.specs.Words.{has_call_on}
use Rattle.dmr_core.specs.Journal.{IsLegal}
use Rattle.dmr_core.specs.Sound.{IsSound}
use Rattle.dmr_core.specs.May.{MayDo}
use Rattle.dmr_core.specs.Laws.{EachAct, Throughout}
use Rattle.dmr_core.specs.Ages.{age_on, asked_in, begins_on, is_active, is_asked, is_begin, quiet_on, is_active_on, ticks_in, ticks_since}
use Rattle.dmr_core.specs.Ages.{waited_of}
use Rattle.dmr_core.proofs.PlanLemmas.{KnowsPlan}
use Rattle.dmr_core.proofs.CallsAreApart.{same_slots, marked_call}
use Rattle.dmr_core.proofs.SlotsStaySound.{free_is}
use Rattle.dmr_core.proofs.ActsAreSafe.{throughout}
use Rattle.dmr_core.proofs.LastOpenerLemmas.{everywhere}
use Rattle.dmr_core.proofs.FactsFollowEntries.{facts_after-step}
use Rattle.dmr_core.proofs.ListLemmas.{find_gone, find_kept, find_new, find_others, find_same, none_passes}

-- the value, if there is one, is this number
abbrev Says : Option ℕ → ℕ → Type 0
Says None n = Unit {0}
Says (Some m) n = m ≡ n

says : (o : Option ℕ) (m n : ℕ) → m ≡ n → Says o m → Says o n
says None m n e h = tt
says (Some k) m n e h = h ∙ e

-- an event that is neither a Tick nor an opener, and a Tick
no_tick : (o : Option ℕ) (t : ℕ) → Says o (min 65535 t) → Says o (min 65535 (0 + t))
no_tick o t h = says o _ _ (omega arith) h

one_tick : (o : Option ℕ) (t : ℕ) → Says o (one_more (min 65535 t)) → Says o (min 65535 (1 + t))
one_tick o t h = says o _ _ (omega arith) h

-- the value of the first element that passes
abbrev seen : {X : Type 0} → (X → ℕ) → (X → Bool) → List X → Option ℕ
seen v p xs = option_map v (find p xs)

module _ {X : Type 0} (v : X → ℕ) (p : X → Bool) where
  -- after some elements were removed
  says_without : (g : X → Bool) (b : Bool) → ((x : X) → p x ≡ true → g x ≡ b) → (xs : List X) (n : ℕ) → Says (seen v p xs) n
      → Says (seen v p (filter (λ x. not (g x)) xs)) n
  says_without g true k xs n h = subst (λ (o : Option X). Says (option_map v o) n) (sym (find_gone p g k xs)) tt
  says_without g false k xs n h = subst (λ (o : Option X). Says (option_map v o) n) (sym (find_kept p g k xs)) h

  -- after one was added at the end
  says_push : (xs : List X) (x : X) (n : ℕ) (b : Bool) → p x ≡ b → (b ≡ true → find p xs ≡ None) → v x ≡ 0 → Says (seen v p xs) n
      → Says (seen v p (xs ++ x ∷ [])) (if b then 0 else n)
  says_push xs x n true e none zero h = subst (λ (o : Option X). Says (option_map v o) 0) (sym (find_new p xs x (none refl) e)) zero
  says_push xs x n false e none zero h = subst (λ (o : Option X). Says (option_map v o) n) (sym (find_same p xs x e)) h

  -- after each was changed
  says_map : (f : X → X) (g : ℕ → ℕ) → ((x : X) → p (f x) ≡ p x) → ((x : X) → p x ≡ true → v (f x) ≡ g (v x)) → (xs : List X) (n : ℕ)
      → Says (seen v p xs) n → Says (seen v p (map f xs)) (g n)
  says_map f g same kept [] n h = tt
  says_map f g same kept (x ∷ xs) n h = elim (cases_Bool (p x)) [
    | inl e ↦ rw (same x, e) (kept x e ∙ ap g (rw e at h))
    | inr e ↦ rw (same x, e) (says_map f g same kept xs n (rw e at h))
  ]

  -- the value before a journal, and after it
  found_within : (xs : List X) → All (λ x. v x ≤ 65535) xs → option_map_or v (find p xs) 0 ≤ 65535
  found_within [] all = omega arith
  found_within (x ∷ xs) all =
      let here : v x ≤ 65535 = all 0 x (omega arith) in let more = found_within xs (All-tail (λ x. v x ≤ 65535) x xs all) in grind arith

says_before : {X : Type 0} (v : X → ℕ) (o : Option X) → option_map_or v o 0 ≤ 65535 →
    Says (option_map v o) (min 65535 (option_map_or v o 0))
says_before v None h = tt
says_before v (Some x) h = omega arith

value_then : {X Y : Type 0} (v : X → ℕ) (f : X → Y) (o : Option X) (y : Y) (n : ℕ) → option_map f o ≡ Some y → Says (option_map v o) n
    → option_map_or v o 0 ≡ n
value_then v f None y n k h = cc
value_then v f (Some x) y n k h = h

-- the value after an act: 0 if the act opens, else unchanged
abbrev Counts : (Facts → Option ℕ) → (Act → Bool) → Facts → Act → Type 0
Counts at opens now act = (n : ℕ) → Says (at now) n → Says (at (facts_after_act now act)) (if opens act then 0 else n)

-- the value after an event: 0 if the event opens, one more after a Tick, else unchanged
abbrev Notes : Settings → (Facts → Option ℕ) → (Event → Bool) → Type 0
Notes plan at opens =
    (now : Facts) (event : Event) (t : ℕ) → Says (at now) (min 65535 t)
    → Says (at (facts_after_event plan now event)) (min 65535 (if opens event then 0 else ticks_in event + t))

two_turns : (a b : Bool) (n : ℕ) → (if b then 0 else if a then 0 else n) ≡ (if a || b then 0 else n)
two_turns a b n = grind arith

both_turns : (a b : Bool) (m : ℕ) → (if b then 0 else min 65535 (if a then 0 else m)) ≡ min 65535 (if a || b then 0 else m)
both_turns a b m = grind arith

module _ (at : Facts → Option ℕ) (by_event : Event → Bool) (by_act : Act → Bool) where
  acts_count : (now : Facts) (acts : List Act) (n : ℕ) → EachAct (Counts at by_act) now acts → Says (at now) n
      → Says (at (fold facts_after_act now acts)) (if list_any by_act acts then 0 else n)
  acts_count now [] n each h = h
  acts_count now (act ∷ acts) n each h =
      says (at (fold facts_after_act (facts_after_act now act) acts)) _ _ (two_turns (by_act act) (list_any by_act acts) n)
      (acts_count (facts_after_act now act) acts (if by_act act then 0 else n) each.1 (each.0 n h))

  -- the value counts the ticks
  counts : (plan : Settings) (facts : Facts) (before : ℕ) → Notes plan at by_event → Says (at facts) (min 65535 before) →
      (journal : List Entry)
      → Throughout plan facts (Counts at by_act) journal
      → Says (at (facts_after plan facts journal))
      (min 65535 (ticks_since (λ (entry : Entry). by_event entry.event || list_any by_act entry.acts.list) before journal))
  counts plan facts before notes h [] each = h
  counts plan facts before notes h (entry ∷ earlier) each =
      let now : Facts = facts_after plan facts earlier in
      let after : Facts = facts_after_event plan now entry.event in
      let acts : List Act = entry.acts.list in
      let t : ℕ = ticks_since (λ (e : Entry). by_event e.event || list_any by_act e.acts.list) before earlier in
      let m : ℕ = ticks_in entry.event + t in
      let earlier_on = notes now entry.event t (counts plan facts before notes h earlier each.1) in
      subst (λ (f : Facts). Says (at f) (min 65535 (if by_event entry.event || list_any by_act acts then 0 else m)))
      (sym (facts_after-step plan facts entry earlier))
      (says (at (fold facts_after_act after acts)) _ _ (both_turns (by_event entry.event) (list_any by_act acts) m)
      (acts_count after acts (min 65535 (if by_event entry.event then 0 else m)) each.0 earlier_on))

pub age_before : (plan : Settings) (facts : Facts) (slot : Slot) → IsSound plan facts → age_on facts.calls slot ≤ 65535
age_before plan facts slot sound =
    found_within (λ (s : ActiveCall). s.age) (λ (s : ActiveCall). is_slot s.call.slot slot) facts.calls
    (λ k d within. (sound.calls.ages k d within).0)

pub quiet_before : (plan : Settings) (facts : Facts) (slot : Slot) → IsSound plan facts → quiet_on facts.calls slot ≤ 65535
quiet_before plan facts slot sound =
    found_within (λ (s : ActiveCall). s.quiet) (λ (s : ActiveCall). is_slot s.call.slot slot) facts.calls
    (λ k d within. (sound.calls.ages k d within).1)

pub waited_before : (plan : Settings) (facts : Facts) (r : ℕ) → IsSound plan facts → waited_of facts.asks r ≤ 65535
waited_before plan facts r sound =
    found_within (λ (a : ActiveAsk). a.waited) (λ (a : ActiveAsk). a.ask.source == r) facts.asks sound.asks.waits

-- a count of the call on a slot: 0 when the call begins
abbrev on : (ActiveCall → ℕ) → Slot → List ActiveCall → Option ℕ
on v slot calls = seen v (λ (s : ActiveCall). is_slot s.call.slot slot) calls

module _ (plan : Settings) (v : ActiveCall → ℕ) (zero : (call : Call) → v (just_begun call) ≡ 0) (slot : Slot) where
  call_counts : (now : Facts) (act : Act) → IsSound plan now → MayDo plan now act →
      Counts (λ (f : Facts). on v slot f.calls) (is_begin slot) now act
  call_counts now (Began call) sound may = λ n h.
      let none : is_slot call.slot slot ≡ true → find (λ (s : ActiveCall). is_slot s.call.slot slot) now.calls ≡ None = λ e.
      none_passes (λ (s : ActiveCall). is_slot s.call.slot slot) now.calls
      (subst (λ (x : Slot). has_call_on now.calls x ≡ false) (same_slot call.slot slot e) (free_is plan now call.slot may.free).none) in
      says_push v (λ (s : ActiveCall). is_slot s.call.slot slot) now.calls (just_begun call) n (is_slot call.slot slot) refl none
      (zero call) h
  call_counts now (Ended other) sound may = λ n h.
      says_without v (λ (s : ActiveCall). is_slot s.call.slot slot) (λ (s : ActiveCall). is_slot s.call.slot other) (is_slot slot other)
      (λ s e. ap (λ (x : Slot). is_slot x other) (same_slot s.call.slot slot e)) now.calls n h
  call_counts now act sound may = λ n h. h

  off_carrier : (calls : List ActiveCall) (c t : ℕ) → Says (on v slot calls) (min 65535 t) →
      Says (on v slot (on_other_carriers c calls)) (min 65535 (0 + t))
  off_carrier calls c t h =
      no_tick (on v slot (on_other_carriers c calls)) t
      (says_without v (λ (s : ActiveCall). is_slot s.call.slot slot) (λ (s : ActiveCall). s.call.slot.carrier == c) (slot.carrier == c)
      (λ s e. ap (λ (x : Slot). x.carrier == c) (same_slot s.call.slot slot e)) calls (min 65535 t) h)

  all_marked : (g : ℕ → ℕ) (there : Slot) → ((s : ActiveCall) → is_slot s.call.slot slot ≡ true → v (with_activity there s) ≡ g (v s))
      → (calls : List ActiveCall) (n : ℕ) → Says (on v slot calls) n → Says (on v slot (map (with_activity there) calls)) (g n)
  all_marked g there kept calls n h =
      says_map v (λ (s : ActiveCall). is_slot s.call.slot slot) (with_activity there) g
      (λ s. ap (λ (k : Call). is_slot k.slot slot) (marked_call there s)) kept calls n h

  all_counted : ((s : ActiveCall) → v (one_tick_older s) ≡ one_more (v s)) → (calls : List ActiveCall) (t : ℕ) →
      Says (on v slot calls) (min 65535 t)
      → Says (on v slot (map one_tick_older calls)) (min 65535 (1 + t))
  all_counted more calls t h =
      one_tick (on v slot (map one_tick_older calls)) t
      (says_map v (λ (s : ActiveCall). is_slot s.call.slot slot) one_tick_older one_more (λ s. refl) (λ s e. more s) calls (min 65535 t) h)

  -- it counts ticks in a legal journal from sound facts
  call_counted : (by_event : Event → Bool) → Notes plan (λ (f : Facts). on v slot f.calls) by_event →
      (facts : Facts) (journal : List Entry) (call : Call)
      → KnowsPlan plan → IsSound plan facts → IsLegal plan facts journal → call_on (facts_after plan facts journal).calls slot ≡ Some call
      → option_map_or v (find (λ (s : ActiveCall). is_slot s.call.slot slot) facts.calls) 0 ≤ 65535
      → option_map_or v (find (λ (s : ActiveCall). is_slot s.call.slot slot) (facts_after plan facts journal).calls) 0
      ≡ min 65535 (ticks_since (λ (e : Entry). by_event e.event || begins_on slot e)
      (option_map_or v (find (λ (s : ActiveCall). is_slot s.call.slot slot) facts.calls) 0) journal)
  call_counted by_event notes facts journal call p sound legal stands small =
      value_then v (λ (s : ActiveCall). s.call) (find (λ (s : ActiveCall). is_slot s.call.slot slot) (facts_after plan facts journal).calls)
      call _ stands
      (counts (λ (f : Facts). on v slot f.calls) by_event (is_begin slot) plan facts _ notes
      (says_before v (find (λ (s : ActiveCall). is_slot s.call.slot slot) facts.calls) small) journal
      (throughout plan facts (Counts (λ (f : Facts). on v slot f.calls) (is_begin slot)) call_counts journal p sound legal))

-- ages
marked_age : (there : Slot) (s : ActiveCall) → (with_activity there s).age ≡ s.age
marked_age there s = grind arith

age_notes : (plan : Settings) (slot : Slot) → Notes plan (λ (f : Facts). on (λ (s : ActiveCall). s.age) slot f.calls) (λ event. false)
age_notes plan slot now (Up c) t h = off_carrier plan (λ s. s.age) (λ k. refl) slot now.calls c t h
age_notes plan slot now (Lost c) t h = off_carrier plan (λ s. s.age) (λ k. refl) slot now.calls c t h
age_notes plan slot now (Active there) t h =
    no_tick (on (λ s. s.age) slot (map (with_activity there) now.calls)) t
    (all_marked plan (λ s. s.age) (λ k. refl) slot (λ n. n) there (λ s e. marked_age there s) now.calls (min 65535 t) h)
age_notes plan slot now Tick t h = all_counted plan (λ s. s.age) (λ k. refl) slot (λ s. refl) now.calls t h
age_notes plan slot now _ t h = no_tick (on (λ s. s.age) slot now.calls) t h

pub ages_count : (plan : Settings) (facts : Facts) (journal : List Entry) (slot : Slot) (call : Call) → KnowsPlan plan → IsSound plan facts
    → IsLegal plan facts journal → call_on (facts_after plan facts journal).calls slot ≡ Some call
    → age_on (facts_after plan facts journal).calls slot ≡ min 65535 (ticks_since (begins_on slot) (age_on facts.calls slot) journal)
ages_count plan facts journal slot call p sound legal stands =
    call_counted plan (λ s. s.age) (λ k. refl) slot (λ event. false) (age_notes plan slot) facts journal call p sound legal stands
    (age_before plan facts slot sound)

-- quiet times
marked_quiet : (there slot : Slot) (s : ActiveCall) (b : Bool) → is_slot there slot ≡ b → is_slot s.call.slot slot ≡ true
    → (with_activity there s).quiet ≡ (if b then 0 else s.quiet)
marked_quiet there slot s b e d =
    let same : is_slot s.call.slot there ≡ b =
    ap (λ (x : Slot). is_slot x there) (same_slot s.call.slot slot d) ∙ same_slots slot there ∙ e in grind arith

quiet_marked : (plan : Settings) (there slot : Slot) (calls : List ActiveCall) (t : ℕ) (b : Bool) → is_slot there slot ≡ b
    → Says (on (λ s. s.quiet) slot calls) (min 65535 t) → Says (on (λ s. s.quiet) slot (map (with_activity there) calls))
    (min 65535 (if b then 0 else 0 + t))
quiet_marked plan there slot calls t true e h =
    all_marked plan (λ s. s.quiet) (λ k. refl) slot (λ n. 0) there (λ s d. marked_quiet there slot s true e d) calls (min 65535 t) h
quiet_marked plan there slot calls t false e h =
    no_tick (on (λ s. s.quiet) slot (map (with_activity there) calls)) t
    (all_marked plan (λ s. s.quiet) (λ k. refl) slot (λ n. n) there (λ s d. marked_quiet there slot s false e d) calls (min 65535 t) h)

quiet_notes : (plan : Settings) (slot : Slot) → Notes plan (λ (f : Facts). on (λ (s : ActiveCall). s.quiet) slot f.calls) (is_active slot)
quiet_notes plan slot now (Up c) t h = off_carrier plan (λ s. s.quiet) (λ k. refl) slot now.calls c t h
quiet_notes plan slot now (Lost c) t h = off_carrier plan (λ s. s.quiet) (λ k. refl) slot now.calls c t h
quiet_notes plan slot now (Active there) t h = quiet_marked plan there slot now.calls t (is_slot there slot) refl h
quiet_notes plan slot now Tick t h = all_counted plan (λ s. s.quiet) (λ k. refl) slot (λ s. refl) now.calls t h
quiet_notes plan slot now _ t h = no_tick (on (λ s. s.quiet) slot now.calls) t h

pub quiet_counts : (plan : Settings) (facts : Facts) (journal : List Entry) (slot : Slot) (call : Call) → KnowsPlan plan →
    IsSound plan facts
    → IsLegal plan facts journal → call_on (facts_after plan facts journal).calls slot ≡ Some call
    → quiet_on (facts_after plan facts journal).calls slot ≡ min 65535 (ticks_since (is_active_on slot) (quiet_on facts.calls slot) journal)
quiet_counts plan facts journal slot call p sound legal stands =
    call_counted plan (λ s. s.quiet) (λ k. refl) slot (is_active slot) (quiet_notes plan slot) facts journal call p sound legal stands
    (quiet_before plan facts slot sound)

-- asks
abbrev of : ℕ → List ActiveAsk → Option ℕ
of r asks = seen (λ (a : ActiveAsk). a.waited) (λ (a : ActiveAsk). a.ask.source == r) asks

others_say : (asks : List ActiveAsk) (q r n : ℕ) → Says (of r asks) n → Says (of r (others_than q asks)) n
others_say asks q r n h =
    says_without (λ (a : ActiveAsk). a.waited) (λ (a : ActiveAsk). a.ask.source == r) (λ (a : ActiveAsk). a.ask.source == q) (r == q)
    (λ a e. ap (λ (x : ℕ). x == q) (eqb-true a.ask.source r e)) asks n h

ask_counts : (r : ℕ) (now : Facts) (act : Act) → Counts (λ (f : Facts). of r f.asks) (is_asked r) now act
ask_counts r now (Asked ask) = λ n h.
    says_push (λ (a : ActiveAsk). a.waited) (λ (a : ActiveAsk). a.ask.source == r) (others_than ask.source now.asks) (new_active_ask ask) n
    (ask.source == r) refl
    (λ e. find_others (λ (a : ActiveAsk). a.ask.source) ask.source r now.asks ∙ rw e refl) refl
    (others_say now.asks ask.source r n h)
ask_counts r now (AskOver q) = λ n h. others_say now.asks q r n h
ask_counts r now act = λ n h. h

asks_gone : (asks : List ActiveAsk) (r t : ℕ) (b : Bool) → Says (of r asks) (min 65535 t) →
    Says (of r (if b then [] else asks)) (min 65535 (0 + t))
asks_gone asks r t true h = tt
asks_gone asks r t false h = no_tick (of r asks) t h

ask_notes : (plan : Settings) (r : ℕ) → Notes plan (λ (f : Facts). of r f.asks) (λ event. false)
ask_notes plan r now (Up c) t h = asks_gone now.asks r t (c == plan.lists.control) h
ask_notes plan r now (Lost c) t h = asks_gone now.asks r t (c == plan.lists.control) h
ask_notes plan r now Tick t h =
    one_tick (of r (map ask_after_tick now.asks)) t
    (says_map (λ (a : ActiveAsk). a.waited) (λ (a : ActiveAsk). a.ask.source == r) ask_after_tick one_more (λ a. refl)
    (λ a e. refl) now.asks (min 65535 t) h)
ask_notes plan r now _ t h = no_tick (of r now.asks) t h

pub waits_count : (plan : Settings) (facts : Facts) (journal : List Entry) (r : ℕ) (ask : Ask) → waited_of facts.asks r ≤ 65535
    → ask_of (facts_after plan facts journal).asks r ≡ Some ask
    → waited_of (facts_after plan facts journal).asks r ≡ min 65535 (ticks_since (asked_in r) (waited_of facts.asks r) journal)
waits_count plan facts journal r ask small stands =
    let at : Facts → Option ℕ = λ (f : Facts). of r f.asks in
    let found : List ActiveAsk → Option ActiveAsk = λ asks. find (λ (a : ActiveAsk). a.ask.source == r) asks in
    value_then (λ (a : ActiveAsk). a.waited) (λ (a : ActiveAsk). a.ask) (found (facts_after plan facts journal).asks) ask _ stands
    (counts at (λ event. false) (is_asked r) plan facts (waited_of facts.asks r) (ask_notes plan r)
    (says_before (λ (a : ActiveAsk). a.waited) (found facts.asks) small) journal
    (everywhere plan facts (Counts at (is_asked r)) (ask_counts r) journal))
