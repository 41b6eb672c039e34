-- The records of a term.
use Rattle.std.specs.Prelude.{◌≡◌, List, length}
use Rattle.dmr_plan.specs.declared.settings.Settings.{Settings}
use Rattle.dmr_core.specs.declared.entry.Entry.{Entry}
use Rattle.dmr_keeper.specs.declared.calls.EndedCall.{EndedCall}
use Rattle.dmr_keeper.specs.declared.counts.TermCounts.{TermCounts}
use Rattle.dmr_keeper.specs.declared.records.Records.{Records}
use Rattle.dmr_keeper.specs.Calls.{ended_in}
use Rattle.dmr_keeper.specs.Carried.{Carry, carried_after}
use Rattle.dmr_keeper.specs.Carriers.{carrier_counts}
use Rattle.dmr_keeper.specs.Changes.{changes_in}
use Rattle.dmr_keeper.specs.Counts.{counts_with}
use Rattle.dmr_keeper.specs.Lines.{most_waiting}
use Rattle.dmr_keeper.specs.Notes.{notes_in}

-- the records of the calls that ended in a term
abbrev pub ended_calls : Settings → Carry → List Entry → List EndedCall
ended_calls plan before journal =
    ended_in plan before.ticks before.lines before.calls journal

-- the counts of a term
abbrev pub counts_in : Settings → Carry → List Entry → TermCounts
counts_in plan before journal =
    counts_with journal (length (ended_calls plan before journal))
    (most_waiting plan before.ticks before.lines journal)

-- the records of a term, by its journal, oldest first, and by what is carried from the terms before it
pub record AreRecords (plan : Settings) (before : Carry) (journal : List Entry)
    (records : Records) : Type 0 where
  pub calls : records.calls.items ≡ ended_calls plan before journal
  pub changes : records.changes.items ≡ changes_in before.ticks journal
  pub notes : records.notes.items ≡ notes_in plan before.ticks journal
  pub counts : records.counts ≡ counts_in plan before journal
  pub carriers : records.carriers.items ≡ carrier_counts journal
  pub after : records.after ≡ carried_after plan before journal
