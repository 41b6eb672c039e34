-- The lines of a site by the entries of a journal, oldest first. Each has the tick at which it was added.
use Rattle.std.specs.Prelude.{ℕ, ◌-◌, List, [], ◌∷◌, ◌++◌, not, ◌==◌, if◌then◌else◌, filter, find}
use Rattle.std.specs.Prelude.{fold, length, max}
use Rattle.std.specs.Option.{option_map_or}
use Rattle.dmr_plan.specs.declared.settings.Settings.{Settings}
use Rattle.dmr_core.specs.declared.event.Event.{Event}
use Rattle.dmr_core.specs.declared.event.Event.TheVariants.{Up, Lost}
use Rattle.dmr_core.specs.declared.act.Act.{Act}
use Rattle.dmr_core.specs.declared.act.Act.TheVariants.{Lined, Unlined}
use Rattle.dmr_core.specs.declared.entry.Entry.{Entry}
use Rattle.dmr_keeper.specs.declared.lines.OpenLine.{OpenLine}
use Rattle.dmr_keeper.specs.Ticks.{tick_at}

-- how long the line of a radio has waited at this tick; 0 if the radio has no line
abbrev pub waited_at : ℕ → List OpenLine → ℕ → ℕ
waited_at tick lines radio =
    option_map_or (λ (l : OpenLine). tick - l.since)
    (find (λ (l : OpenLine). l.line.source == radio) lines)
    0

-- the lines after an event: the control carrier's Up and Lost close all
abbrev pub lines_after_event : Settings → List OpenLine → Event → List OpenLine
lines_after_event plan lines (Up c) = if c == plan.lists.control then [] else lines
lines_after_event plan lines (Lost c) = if c == plan.lists.control then [] else lines
lines_after_event plan lines _ = lines

-- the lines after an act at this tick: Lined adds one, Unlined removes that of a radio
abbrev pub lines_after_act : ℕ → List OpenLine → Act → List OpenLine
lines_after_act tick lines (Lined line) = lines ++ record { line = line; since = tick } ∷ []
lines_after_act tick lines (Unlined radio) =
    filter (λ (l : OpenLine). not (l.line.source == radio)) lines
lines_after_act tick lines _ = lines

-- the lines after an entry, whose event is that of this tick or comes after it
abbrev pub lines_after_entry : Settings → ℕ → List OpenLine → Entry → List OpenLine
lines_after_entry plan tick lines entry =
    fold (lines_after_act tick) (lines_after_event plan lines entry.event) entry.acts.list

-- the lines after a journal, from the ticks and the lines before it
abbrev pub lines_after : Settings → ℕ → List OpenLine → List Entry → List OpenLine
lines_after plan ticks lines [] = lines
lines_after plan ticks lines (entry ∷ later) =
    lines_after plan (tick_at ticks entry.event)
    (lines_after_entry plan (tick_at ticks entry.event) lines entry) later

-- the most lines that waited at once, before the journal or after one of its entries
abbrev pub most_waiting : Settings → ℕ → List OpenLine → List Entry → ℕ
most_waiting plan ticks lines [] = length lines
most_waiting plan ticks lines (entry ∷ later) =
    max (length lines)
    (most_waiting plan (tick_at ticks entry.event)
    (lines_after_entry plan (tick_at ticks entry.event) lines entry) later)
