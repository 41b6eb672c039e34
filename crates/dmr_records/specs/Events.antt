-- The events of a term: the changes of registration and the notes, each as a row of the table `events`.
use Rattle.std.specs.Prelude.{ℕ, List, ◌∷◌, Some, None}
use Rattle.dmr_core.specs.declared.command.Argument.{Argument}
use Rattle.dmr_core.specs.declared.command.Argument.TheVariants as argument
use Rattle.dmr_core.specs.declared.command.Command.{Command}
use Rattle.dmr_core.specs.CommandWords.{kind_of, numbers_of, row_of}
use Rattle.dmr_keeper.specs.declared.changes.Change.{Change}
use Rattle.dmr_keeper.specs.declared.changes.ChangeKind.{ChangeKind}
use Rattle.dmr_keeper.specs.declared.changes.ChangeKind.TheVariants as change
use Rattle.dmr_keeper.specs.declared.notes.TimedOccurrence.{TimedOccurrence}
use Rattle.dmr_keeper.specs.declared.notes.CommandOutcome.{CommandOutcome}
use Rattle.dmr_keeper.specs.declared.notes.Occurrence.{Occurrence}
use Rattle.dmr_keeper.specs.declared.notes.Occurrence.TheVariants as what
use Rattle.dmr_records.specs.declared.events.EventRow.{EventRow}
use Rattle.dmr_records.specs.declared.events.EventKind.{EventKind}
use Rattle.dmr_records.specs.declared.events.EventKind.TheVariants as kind

-- an event of which only the tick and the kind are known
abbrev pub bare : ℕ → EventKind → EventRow
bare tick k = record {
  tick = tick;
  kind = k;
  carrier = None;
  slot = None;
  radio = None;
  target = None;
  channel = None;
  reason = None;
  reply = None;
}

abbrev pub kind_of_change : ChangeKind → EventKind
kind_of_change change.Joined = kind.Joined
kind_of_change change.Left = kind.Left
kind_of_change change.Dropped = kind.Dropped

-- a change of registration: its radio
abbrev pub event_of_change : Change → EventRow
event_of_change c = record (bare c.tick (kind_of_change c.kind)) { radio = Some c.radio }

-- the event with a number of a command in the column of its argument
abbrev pub with_number : EventRow → Argument → ℕ → EventRow
with_number e argument.Carrier n = record e { carrier = Some n }
with_number e argument.Slot n = record e { slot = Some n }
with_number e argument.Radio n = record e { radio = Some n }
with_number e argument.Channel n = record e { channel = Some n }
with_number e _ n = e

-- the event with the numbers of a command in the columns of its arguments
abbrev pub with_numbers : EventRow → List Argument → List ℕ → EventRow
with_numbers e (a ∷ others) (n ∷ numbers) = with_numbers (with_number e a n) others numbers
with_numbers e arguments numbers = e

-- an operator's command: what it names, and its result
abbrev pub event_of_command : ℕ → Command → CommandOutcome → EventRow
event_of_command tick c outcome =
    record (with_numbers (bare tick (kind.Command (kind_of c))) (row_of c).arguments (numbers_of c)) {
      reply = Some outcome;
    }

-- what happened: of a call that a radio joined, the radio, the talkgroup and the slot; of a refusal the radio that asked,
-- what it asked about and the reason
abbrev pub event_of : ℕ → Occurrence → EventRow
event_of tick (what.CameUp carrier) = record (bare tick kind.CameUp) { carrier = Some carrier }
event_of tick (what.WasLost carrier) = record (bare tick kind.WasLost) { carrier = Some carrier }
event_of tick (what.JoinedCall radio target carrier slot) =
    record (bare tick kind.JoinedCall) {
      carrier = Some carrier;
      slot = Some slot;
      radio = Some radio;
      target = Some target;
    }
event_of tick (what.Refused source target reason) =
    record (bare tick kind.Refused) { radio = Some source; target = Some target; reason = Some reason }
event_of tick (what.Commanded c outcome) = event_of_command tick c outcome

abbrev pub event_of_note : TimedOccurrence → EventRow
event_of_note note = event_of note.tick note.what
