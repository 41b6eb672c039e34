-- The records of two journals, one after the other.
use Rattle.std.proofs.Common.{◌≡◌, ◌+◌, ◌≤◌, ℕ, List, [], ◌∷◌, ◌++◌, Bool, cond, length, max, refl, arith, ap, sym, ◌∙◌, append_assoc}
use Rattle.std.proofs.Common.{add-zero, length-append}
use Rattle.std.specs.List.{list_any}
use Rattle.std.proofs.lemmas.List.Sums.{sum_by-append, fold-append}
use Rattle.dmr_plan.specs.declared.settings.Settings.{Settings}
use Rattle.dmr_core.specs.declared.event.Event.{Event}
use Rattle.dmr_core.specs.declared.act.Act.{Act}
use Rattle.dmr_core.specs.declared.entry.Entry.{Entry}
use Rattle.dmr_keeper.specs.declared.calls.OpenCall.{OpenCall}
use Rattle.dmr_keeper.specs.declared.calls.EndedCall.{EndedCall}
use Rattle.dmr_keeper.specs.declared.lines.OpenLine.{OpenLine}
use Rattle.dmr_keeper.specs.Ticks.{is_tick, tick_at, ticks_in, told_along}
use Rattle.dmr_keeper.specs.Calls.{ended_in, ended_in_entry, open_after, open_after_entry}
use Rattle.dmr_keeper.specs.Lines.{lines_after, lines_after_entry, most_waiting}
use Rattle.dmr_keeper.specs.Registered.{registered_after_entry}
use Rattle.dmr_keeper.specs.Carried.{Carry, carried_after}
use Rattle.dmr_keeper.specs.Carriers.{counts_of_both, counts_of_carrier, is_of_and}
use Rattle.dmr_keeper.specs.Counts.{counts_joined, entries_with, events_that, is_active, is_begun, is_command, is_granting, is_heard}
use Rattle.dmr_keeper.specs.Counts.{is_joined, is_late_entry, is_noise, is_poll, is_refusing, is_request}
use Rattle.dmr_keeper.specs.Records.{counts_in, ended_calls}
use Rattle.dmr_keeper.proofs.LoopLemmas.{ticks-cons}

-- counts

pub ticks-append : (a b : List Entry) → ticks_in (a ++ b) ≡ ticks_in a + ticks_in b
ticks-append a b = sum_by-append (λ (e : Entry). cond (is_tick e.event) 1 0) a b

events-append : (test : Event → Bool) (a b : List Entry) → events_that test (a ++ b) ≡ events_that test a + events_that test b
events-append test a b = sum_by-append (λ (e : Entry). cond (test e.event) 1 0) a b

entries-append : (test : Act → Bool) (a b : List Entry) → entries_with test (a ++ b) ≡ entries_with test a + entries_with test b
entries-append test a b = sum_by-append (λ (e : Entry). cond (list_any test e.acts.list) 1 0) a b

-- the counts of a carrier
pub carrier-append : (a b : List Entry) (c : ℕ) → counts_of_carrier (a ++ b) c ≡ counts_of_both (counts_of_carrier a c)
    (counts_of_carrier b c)
carrier-append a b c =
    let polls = events-append (is_of_and c is_poll) a b in
    let heard = events-append (is_of_and c is_heard) a b in
    let noise = events-append (is_of_and c is_noise) a b in
    let active = events-append (is_of_and c is_active) a b in
    λ i. record { carrier = c; polls = polls i; heard = heard i; noise = noise i; active = active i }

-- what entries say

pub told-append : {X : Type 0} (says : ℕ → Entry → List X) (ticks : ℕ) (a b : List Entry) →
    told_along says ticks (a ++ b) ≡ told_along says ticks a ++ told_along says (ticks + ticks_in a) b
told-append says ticks [] b = rw (add-zero ticks) refl
told-append {X} says ticks (entry ∷ a) b =
    let tick = tick_at ticks entry.event in
    ap (λ (xs : List X). says tick entry ++ xs)
    (told-append says tick a b ∙ ap (λ n. told_along says tick a ++ told_along says n b) (ticks-cons ticks entry a))
    ∙ sym (append_assoc (says tick entry) (told_along says tick a) (told_along says (ticks + ticks_in (entry ∷ a)) b))

-- calls

pub open-append : (plan : Settings) (ticks : ℕ) (lines : List OpenLine) (calls : List OpenCall) (a b : List Entry) →
    open_after plan ticks lines calls (a ++ b) ≡ open_after plan (ticks + ticks_in a) (lines_after plan ticks lines a)
    (open_after plan ticks lines calls a) b
open-append plan ticks lines calls [] b = rw (add-zero ticks) refl
open-append plan ticks lines calls (entry ∷ a) b =
    let tick = tick_at ticks entry.event in
    let left = lines_after_entry plan tick lines entry in
    let then = open_after_entry tick lines calls entry in
    open-append plan tick left then a b ∙ ap (λ n. open_after plan n (lines_after plan tick left a) (open_after plan tick left then a) b)
    (ticks-cons ticks entry a)

pub ended-append : (plan : Settings) (ticks : ℕ) (lines : List OpenLine) (calls : List OpenCall) (a b : List Entry) →
    ended_in plan ticks lines calls (a ++ b) ≡ ended_in plan ticks lines calls a ++ ended_in plan (ticks + ticks_in a)
    (lines_after plan ticks lines a) (open_after plan ticks lines calls a) b
ended-append plan ticks lines calls [] b = rw (add-zero ticks) refl
ended-append plan ticks lines calls (entry ∷ a) b =
    let tick = tick_at ticks entry.event in
    let left = lines_after_entry plan tick lines entry in
    let then = open_after_entry tick lines calls entry in
    let here = ended_in_entry plan.calls.hang tick lines calls entry in
    ap (λ (xs : List EndedCall). here ++ xs)
    (ended-append plan tick left then a b ∙ ap
    (λ n. ended_in plan tick left then a ++ ended_in plan n (lines_after plan tick left a) (open_after plan tick left then a) b)
    (ticks-cons ticks entry a))
    ∙ sym (append_assoc here (ended_in plan tick left then a)
    (ended_in plan (ticks + ticks_in (entry ∷ a)) (lines_after plan tick left a) (open_after plan tick left then a) b))

-- lines

lines-append : (plan : Settings) (ticks : ℕ) (lines : List OpenLine) (a b : List Entry) →
    lines_after plan ticks lines (a ++ b) ≡ lines_after plan (ticks + ticks_in a) (lines_after plan ticks lines a) b
lines-append plan ticks lines [] b = rw (add-zero ticks) refl
lines-append plan ticks lines (entry ∷ a) b =
    let tick = tick_at ticks entry.event in
    let left = lines_after_entry plan tick lines entry in
    lines-append plan tick left a b ∙ ap (λ n. lines_after plan n (lines_after plan tick left a) b) (ticks-cons ticks entry a)

most-first : (plan : Settings) (ticks : ℕ) (lines : List OpenLine) (journal : List Entry) →
    length lines ≤ most_waiting plan ticks lines journal
most-first plan ticks lines [] = omega arith
most-first plan ticks lines (entry ∷ later) = omega arith

most-append : (plan : Settings) (ticks : ℕ) (lines : List OpenLine) (a b : List Entry) →
    most_waiting plan ticks lines (a ++ b) ≡ max (most_waiting plan ticks lines a)
    (most_waiting plan (ticks + ticks_in a) (lines_after plan ticks lines a) b)
most-append plan ticks lines [] b = rw (add-zero ticks) (omega (arith, most-first plan ticks lines b))
most-append plan ticks lines (entry ∷ a) b =
    let tick = tick_at ticks entry.event in
    let left = lines_after_entry plan tick lines entry in
    let rest = most-append plan tick left a b in
    let same = ap (λ n. most_waiting plan n (lines_after plan tick left a) b) (ticks-cons ticks entry a) in
    omega (arith, rest, same)

-- all together

pub carried-append : (plan : Settings) (before : Carry) (a b : List Entry) →
    carried_after plan before (a ++ b) ≡ carried_after plan (carried_after plan before a) b
carried-append plan before a b =
    let ticks : before.ticks + ticks_in (a ++ b) ≡ before.ticks + ticks_in a + ticks_in b = omega (arith, ticks-append a b) in
    let calls = open-append plan before.ticks before.lines before.calls a b in
    let lines = lines-append plan before.ticks before.lines a b in
    let registered = fold-append registered_after_entry before.registered a b in
    λ i. record { ticks = ticks i; calls = calls i; lines = lines i; registered = registered i }

pub counts-append : (plan : Settings) (before : Carry) (a b : List Entry) →
    counts_in plan before (a ++ b) ≡ counts_joined (counts_in plan before a) (counts_in plan (carried_after plan before a) b)
counts-append plan before a b =
    let first = ended_calls plan before a in
    let second = ended_calls plan (carried_after plan before a) b in
    let entries = length-append a b in
    let heard = events-append is_heard a b in
    let requests = events-append is_request a b in
    let noise = events-append is_noise a b in
    let active = events-append is_active a b in
    let polls = events-append is_poll a b in
    let ticks = ticks-append a b in
    let commands = events-append is_command a b in
    let grants = entries-append is_granting a b in
    let late_entries = entries-append is_late_entry a b in
    let registrations = entries-append is_joined a b in
    let refusals = entries-append is_refusing a b in
    let begun = entries-append is_begun a b in
    let ended : length (ended_calls plan before (a ++ b)) ≡ length first + length second =
    ap length (ended-append plan before.ticks before.lines before.calls a b) ∙ length-append first second in
    let most = most-append plan before.ticks before.lines a b in
    λ i. record {
      entries = entries i;
      heard = heard i;
      requests = requests i;
      noise = noise i;
      active = active i;
      polls = polls i;
      ticks = ticks i;
      commands = commands i;
      grants = grants i;
      late_entries = late_entries i;
      registrations = registrations i;
      refusals = refusals i;
      begun = begun i;
      ended = ended i;
      most_lines = most i;
    }
