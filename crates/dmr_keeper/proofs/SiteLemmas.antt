-- What is carried is the site's.
use Rattle.std.proofs.Common.{◌≡◌, ℕ, List, [], ◌∷◌, ◌++◌, Bool, true, false, length, map, refl, arith, ap, sym, ◌∙◌, reverse}
use Rattle.std.specs.Prelude.{◌==◌, if◌then◌else◌, not, fold}
use Rattle.std.proofs.lemmas.List.{length-map, map-append, reverse-append}
use Rattle.dmr_plan.specs.declared.settings.Settings.{Settings}
use Rattle.dmr_calls.specs.declared.line.Line.{Line}
use Rattle.dmr_calls.specs.declared.call.ActiveCall.{ActiveCall}
use Rattle.dmr_calls.specs.Calls.{is_slot, one_tick_older, with_activity}
use Rattle.dmr_core.specs.declared.event.Event.{Event}
use Rattle.dmr_core.specs.declared.event.Event.TheVariants.{Up, Lost, Active, Tick}
use Rattle.dmr_core.specs.declared.act.Act.{Act}
use Rattle.dmr_core.specs.declared.act.Act.TheVariants.{Began, Ended, Lined, Unlined}
use Rattle.dmr_core.specs.declared.entry.Entry.{Entry}
use Rattle.dmr_core.specs.Facts.{Facts, calls_by_act, calls_by_event, facts_after, lines_by_act, lines_by_event, registered_by_act}
use Rattle.dmr_core.specs.Facts.{same_as_before, since}
use Rattle.dmr_core.specs.Sound.{IsSound}
use Rattle.dmr_keeper.specs.declared.calls.OpenCall.{OpenCall}
use Rattle.dmr_keeper.specs.declared.lines.OpenLine.{OpenLine}
use Rattle.dmr_keeper.specs.Lines.{lines_after, lines_after_act, lines_after_entry, lines_after_event}
use Rattle.dmr_keeper.specs.Ticks.{tick_at}
use Rattle.dmr_keeper.specs.Calls.{one_tick_on, open_after, open_after_entry, open_by_act, open_by_event, with_activity_on}
use Rattle.dmr_keeper.specs.Carried.{Carry, carried_after}
use Rattle.dmr_keeper.specs.Laws.{IsOfFacts, IsWithinLimits, lines_in, active_in}
use Rattle.dmr_pdu.proofs.ListLaws.{map_filter}
use Rattle.dmr_core.proofs.JournalLaws.{since-append}

-- a fact, oldest entry first

-- the fact after an entry
abbrev after_one : {X : Type 0} → (X → Event → X) → (X → Act → X) → X → Entry → X
after_one by_event by_act x entry = fold by_act (by_event x entry.event) entry.acts.list

-- a journal, newest first, ends in its oldest entry
newest_first : (entry : Entry) (later : List Entry) → reverse (entry ∷ later) ≡ reverse later ++ entry ∷ []
newest_first entry later = reverse-append (entry ∷ []) later

since-reversed : {X : Type 0} (by_event : X → Event → X) (by_act : X → Act → X) (x : X) (journal : List Entry) →
    since by_event by_act x (reverse journal) ≡ fold (after_one by_event by_act) x journal
since-reversed by_event by_act x [] = refl
since-reversed by_event by_act x (entry ∷ later) =
    ap (λ (xs : List Entry). since by_event by_act x xs) (newest_first entry later)
    ∙ since-append by_event by_act x (reverse later) (entry ∷ [])
    ∙ since-reversed by_event by_act (after_one by_event by_act x entry) later

-- calls

abbrev active_of : OpenCall → ActiveCall
active_of o = o.active

map-both : {X Y : Type 0} (f : X → Y) (g : X → X) (h : Y → Y) → ((x : X) → f (g x) ≡ h (f x)) → (xs : List X) →
    map f (map g xs) ≡ map h (map f xs)
map-both f g h same [] = refl
map-both f g h same (x ∷ xs) = rw (same x, map-both f g h same xs) refl

active-event : (calls : List OpenCall) (event : Event) → active_in (open_by_event calls event) ≡ calls_by_event (active_in calls) event
active-event calls (Up carrier) = map_filter active_of (λ s. not (s.call.slot.carrier == carrier)) calls
active-event calls (Lost carrier) = map_filter active_of (λ s. not (s.call.slot.carrier == carrier)) calls
active-event calls (Active slot) = map-both active_of (with_activity_on slot) (with_activity slot) (λ o. refl) calls
active-event calls Tick = map-both active_of one_tick_on one_tick_older (λ o. refl) calls
active-event calls _ = refl

active-act : (tick : ℕ) (lines : List OpenLine) (calls : List OpenCall) (act : Act) →
    active_in (open_by_act tick lines calls act) ≡ calls_by_act (active_in calls) act
active-act tick lines calls (Began call) = map-append active_of calls _
active-act tick lines calls (Ended slot) = map_filter active_of (λ s. not (is_slot s.call.slot slot)) calls
active-act tick lines calls _ = refl

active-acts : (tick : ℕ) (lines : List OpenLine) (calls : List OpenCall) (acts : List Act) →
    active_in (fold (open_by_act tick lines) calls acts) ≡ fold calls_by_act (active_in calls) acts
active-acts tick lines calls [] = refl
active-acts tick lines calls (act ∷ acts) = active-acts tick lines (open_by_act tick lines calls act) acts
    ∙ ap (λ (xs : List ActiveCall). fold calls_by_act xs acts) (active-act tick lines calls act)

active-entry : (tick : ℕ) (lines : List OpenLine) (calls : List OpenCall) (entry : Entry) →
    active_in (open_after_entry tick lines calls entry) ≡ after_one calls_by_event calls_by_act (active_in calls) entry
active-entry tick lines calls entry =
    active-acts tick lines (open_by_event calls entry.event) entry.acts.list
    ∙ ap (λ (xs : List ActiveCall). fold calls_by_act xs entry.acts.list) (active-event calls entry.event)

active-journal : (plan : Settings) (ticks : ℕ) (lines : List OpenLine) (calls : List OpenCall) (journal : List Entry) →
    active_in (open_after plan ticks lines calls journal) ≡ fold (after_one calls_by_event calls_by_act) (active_in calls) journal
active-journal plan ticks lines calls [] = refl
active-journal plan ticks lines calls (entry ∷ later) =
    let tick = tick_at ticks entry.event in
    active-journal plan tick (lines_after_entry plan tick lines entry) (open_after_entry tick lines calls entry) later
    ∙ ap (λ (xs : List ActiveCall). fold (after_one calls_by_event calls_by_act) xs later) (active-entry tick lines calls entry)

-- lines

abbrev line_of : OpenLine → Line
line_of l = l.line

cleared : (b : Bool) (lines : List OpenLine) → lines_in (if b then [] else lines) ≡ (if b then [] else lines_in lines)
cleared true lines = refl
cleared false lines = refl

lines-event : (plan : Settings) (lines : List OpenLine) (event : Event) →
    lines_in (lines_after_event plan lines event) ≡ lines_by_event plan (lines_in lines) event
lines-event plan lines (Up carrier) = cleared (carrier == plan.lists.control) lines
lines-event plan lines (Lost carrier) = cleared (carrier == plan.lists.control) lines
lines-event plan lines _ = refl

lines-act : (tick : ℕ) (lines : List OpenLine) (act : Act) → lines_in (lines_after_act tick lines act) ≡ lines_by_act (lines_in lines) act
lines-act tick lines (Lined line) = map-append line_of lines _
lines-act tick lines (Unlined radio) = map_filter line_of (λ l. not (l.source == radio)) lines
lines-act tick lines _ = refl

lines-acts : (tick : ℕ) (lines : List OpenLine) (acts : List Act) → lines_in (fold (lines_after_act tick) lines acts) ≡ fold lines_by_act
    (lines_in lines) acts
lines-acts tick lines [] = refl
lines-acts tick lines (act ∷ acts) =
    lines-acts tick (lines_after_act tick lines act) acts ∙ ap (λ (xs : List Line). fold lines_by_act xs acts) (lines-act tick lines act)

lines-entry : (plan : Settings) (tick : ℕ) (lines : List OpenLine) (entry : Entry) →
    lines_in (lines_after_entry plan tick lines entry) ≡ after_one (lines_by_event plan) lines_by_act (lines_in lines) entry
lines-entry plan tick lines entry =
    lines-acts tick (lines_after_event plan lines entry.event) entry.acts.list
    ∙ ap (λ (xs : List Line). fold lines_by_act xs entry.acts.list) (lines-event plan lines entry.event)

lines-journal : (plan : Settings) (ticks : ℕ) (lines : List OpenLine) (journal : List Entry) →
    lines_in (lines_after plan ticks lines journal) ≡ fold (after_one (lines_by_event plan) lines_by_act) (lines_in lines) journal
lines-journal plan ticks lines [] = refl
lines-journal plan ticks lines (entry ∷ later) =
    let tick = tick_at ticks entry.event in
    lines-journal plan tick (lines_after_entry plan tick lines entry) later
    ∙ ap (λ (xs : List Line). fold (after_one (lines_by_event plan) lines_by_act) xs later) (lines-entry plan tick lines entry)

-- all of it

pub stays_the_sites : (plan : Settings) (facts : Facts) (before : Carry) (journal : List Entry) → IsOfFacts before facts →
    IsOfFacts (carried_after plan before journal) (facts_after plan facts (reverse journal))
stays_the_sites plan facts before journal is = record {
  calls =
      active-journal plan before.ticks before.lines before.calls journal
      ∙ ap (λ (xs : List ActiveCall). fold (after_one calls_by_event calls_by_act) xs journal) is.calls
      ∙ sym (since-reversed calls_by_event calls_by_act facts.calls journal);
  lines =
      lines-journal plan before.ticks before.lines journal
      ∙ ap (λ (xs : List Line). fold (after_one (lines_by_event plan) lines_by_act) xs journal) is.lines
      ∙ sym (since-reversed (lines_by_event plan) lines_by_act facts.lines journal);
  registered = ap (λ (xs : List ℕ). fold (after_one same_as_before registered_by_act) xs journal) is.registered
      ∙ sym (since-reversed same_as_before registered_by_act facts.registered journal);
}

pub within_limits : (plan : Settings) (facts : Facts) (carry : Carry) → IsSound plan facts → IsOfFacts carry facts → IsWithinLimits carry
within_limits plan facts carry sound is = record {
  calls = omega (arith, length-map carry.calls active_of, ap length is.calls, sound.calls.few);
  lines = omega (arith, length-map carry.lines line_of, ap length is.lines, sound.lines.few);
  registered = omega (arith, ap length is.registered, sound.radios.few);
}
