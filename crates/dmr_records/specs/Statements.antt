-- The statements that write the records of a term: the columns of each table, and the values of a row in them.
use Rattle.std.specs.Prelude.{ℕ, ◌+◌, ℤ, pos, negsuc, min, List, [], ◌∷◌, ◌++◌, map, length, codes}
use Rattle.std.specs.Prelude.{Bool, if◌then◌else◌, ◌/◌, ◌%◌, ◌==◌}
use Rattle.sqlite.specs.Order.{Row}
use Rattle.sqlite.specs.Values.{or_null}
use Rattle.sqlite.specs.declared.types.Value.{Value}
use Rattle.sqlite.specs.declared.types.Value.TheVariants.{Int, Text as Words}
use Rattle.dmr_keeper.specs.declared.calls.EndedCall.{EndedCall}
use Rattle.dmr_keeper.specs.declared.carriers.CarrierCounts.{CarrierCounts}
use Rattle.dmr_keeper.specs.declared.changes.Change.{Change}
use Rattle.dmr_keeper.specs.declared.counts.TermCounts.{TermCounts}
use Rattle.dmr_keeper.specs.declared.notes.TimedOccurrence.{TimedOccurrence}
use Rattle.dmr_keeper.specs.declared.records.Records.{Records}
use Rattle.dmr_keeper.specs.declared.time.TermTime.{TermTime}
use Rattle.dmr_keeper.specs.declared.time.TimedRecords.{TimedRecords}
use Rattle.dmr_keeper.specs.Times.{time_of_tick}
use Rattle.dmr_records.specs.declared.events.EventRow.{EventRow}
use Rattle.dmr_records.specs.declared.term_row.TermRow.{TermRow}
use Rattle.dmr_records.specs.Events.{event_of_change, event_of_note}
use Rattle.dmr_records.specs.Sql.{Column, added_in, insert_into, integer, integer_or_null, key}
use Rattle.dmr_records.specs.Sql.{listed, word, word_or_null}
use Rattle.dmr_records.specs.Words.{cause_word, kind_word, outcome_word}
use Prim.Native.String.{String}

-- a statement: its text, and the values of its parameters
pub record Statement : Type 0 where
  pub text : List ℕ
  pub params : Row

-- a count as the file has it. A count above SQLite's greatest integer becomes that integer
abbrev pub stored : ℕ → ℤ
stored n = pos (min n 9223372036854775807)

abbrev pub number : ℕ → Value
number n = Int (pos n)

abbrev pub count : ℕ → Value
count n = Int (stored n)

abbrev pub flag : Bool → Value
flag b = Int (if b then pos 1 else pos 0)

-- the number of the row that was written last. The file numbers the rows of a table from 1
abbrev pub row_number : ℤ → ℕ
row_number (pos n) = n
row_number (negsuc n) = 0

-- the row of a term to which the file gave this number, as the rows of its calls and events need it
abbrev pub row_of_term : ℕ → TimedRecords → TermRow
row_of_term number term = record {
  number = number;
  last_tick = term.records.after.ticks;
  time = term.time;
}

-- the time of day of a tick of the term
abbrev pub time_in : TermRow → ℕ → Value
time_in term tick = count (time_of_tick term.time term.last_tick tick)

-- the version of tables with these columns, and that from which they are carried over
abbrev pub version : ℕ
version = 2

abbrev pub version_before : ℕ
version_before = 1

abbrev pub term_columns : List Column
term_columns =
    map integer
    ("ended_ms" ∷ "tick_ms" ∷ "last_tick" ∷ "entries" ∷ "heard" ∷ "requests" ∷ "noise" ∷ "active"
    ∷ "polls" ∷ "ticks" ∷ "commands" ∷ "grants" ∷ "late_entries" ∷ "registrations" ∷ "refusals"
    ∷ "begun" ∷ "ended" ∷ "most_lines" ∷ [])

-- the row of a term: its time, the ticks up to its end, and its counts
abbrev pub put_term : TermTime → ℕ → TermCounts → Statement
put_term time ticks c = record {
  text = insert_into "terms" term_columns;
  params =
      count time.ended ∷ number time.tick_ms ∷ count ticks ∷ count c.entries ∷ count c.heard
      ∷ count c.requests ∷ count c.noise ∷ count c.active ∷ count c.polls ∷ count c.ticks
      ∷ count c.commands ∷ count c.grants ∷ count c.late_entries ∷ count c.registrations
      ∷ count c.refusals ∷ count c.begun ∷ count c.ended ∷ count c.most_lines ∷ [];
}

abbrev pub call_columns : List Column
call_columns =
    map integer
    ("term" ∷ "carrier" ∷ "slot" ∷ "is_group" ∷ "source" ∷ "target" ∷ "began" ∷ "began_ms" ∷ "ended"
    ∷ "ended_ms" ∷ [])
    ++ word "cause" ∷ added_in 2 (integer_or_null "waited") ∷ []

-- the row of a call in the term with this row
abbrev pub put_call : TermRow → EndedCall → Statement
put_call term c = record {
  text = insert_into "calls" call_columns;
  params =
      count term.number ∷ number c.call.slot.carrier ∷ number c.call.slot.slot ∷ flag c.call.group
      ∷ number c.call.source ∷ number c.call.target ∷ count c.began ∷ time_in term c.began
      ∷ count c.ended ∷ time_in term c.ended ∷ Words (cause_word c.cause)
      ∷ count c.waited ∷ [];
}

abbrev pub event_columns : List Column
event_columns =
    map integer ("term" ∷ "tick" ∷ "at_ms" ∷ [])
    ++ word "kind" ∷ []
    ++ map integer_or_null ("carrier" ∷ "slot" ∷ "radio" ∷ "target" ∷ "channel" ∷ "reason" ∷ [])
    ++ word_or_null "reply" ∷ []

-- the row of an event in the term with this row
abbrev pub put_event : TermRow → EventRow → Statement
put_event term e = record {
  text = insert_into "events" event_columns;
  params =
      count term.number ∷ count e.tick ∷ time_in term e.tick ∷ Words (kind_word e.kind)
      ∷ or_null number e.carrier ∷ or_null number e.slot ∷ or_null number e.radio ∷ or_null number e.target
      ∷ or_null number e.channel ∷ or_null number e.reason
      ∷ or_null (λ o. Words (outcome_word o)) e.reply ∷ [];
}

abbrev pub carrier_columns : List Column
carrier_columns =
    map (added_in 2)
    (map integer ("term" ∷ "carrier" ∷ "polls" ∷ "heard" ∷ "noise" ∷ "active" ∷ []))

-- the row of the counts of a carrier in the term with this row
abbrev pub put_carrier : TermRow → CarrierCounts → Statement
put_carrier term c = record {
  text = insert_into "carriers" carrier_columns;
  params =
      count term.number ∷ number c.carrier ∷ count c.polls ∷ count c.heard ∷ count c.noise
      ∷ count c.active ∷ [];
}

abbrev pub registration_columns : List Column
registration_columns = key "place" ∷ integer "radio" ∷ []

-- the radio at a place. A row that has this radio already is not written
abbrev pub put_registration : ℕ → ℕ → Statement
put_registration place radio = record {
  text =
      insert_into "registrations" registration_columns
      ++ codes
      " ON CONFLICT (place) DO UPDATE SET radio = excluded.radio WHERE radio <> excluded.radio";
  params = count place ∷ number radio ∷ [];
}

-- the radios from a place on
abbrev pub put_registrations : ℕ → List ℕ → List Statement
put_registrations place [] = []
put_registrations place (radio ∷ later) =
    put_registration place radio ∷ put_registrations (place + 1) later

-- the places after the last one are removed
abbrev pub cut_registrations : ℕ → Statement
cut_registrations last = record {
  text = codes "DELETE FROM registrations WHERE place > ?1";
  params = count last ∷ [];
}

-- the numbers up to which rows are removed, so that of each table only this number of the newest stays
abbrev pub newest_but : String → List ℕ
newest_but table =
    codes table ++ codes " = (SELECT max(number) FROM " ++ codes table ++ codes ") - ?1"

abbrev pub mark_removed : ℕ → Statement
mark_removed most = record {
  text =
      codes "UPDATE removed SET "
      ++ listed (newest_but "calls" ∷ newest_but "events" ∷ newest_but "terms" ∷ []);
  params = number most ∷ [];
}

-- the rows of a table are removed whose number in this column is at most that which was set for another table
abbrev pub prune_rows : String → String → String → Statement
prune_rows table number by = record {
  text =
      codes "DELETE FROM " ++ codes table ++ codes " WHERE " ++ codes number
      ++ codes " <= (SELECT " ++ codes by ++ codes " FROM removed)";
  params = [];
}

abbrev pub prune_calls : Statement
prune_calls = prune_rows "calls" "number" "calls"

abbrev pub prune_events : Statement
prune_events = prune_rows "events" "number" "events"

abbrev pub prune_terms : Statement
prune_terms = prune_rows "terms" "number" "terms"

-- those of carriers have the numbers of their terms
abbrev pub prune_carriers : Statement
prune_carriers = prune_rows "carriers" "term" "terms"

-- of calls, events and terms, only this number of the newest rows stays, and of carriers those of the terms that stay
abbrev pub prune : ℕ → List Statement
prune most = mark_removed most ∷ prune_calls ∷ prune_events ∷ prune_terms ∷ prune_carriers ∷ []

-- the oldest rows are removed after some terms alone, since that takes long: a table has at most a thousandth more
-- rows, in terms. If few rows stay, it is after each term
abbrev pub prune_after : ℕ → ℕ → List Statement
prune_after most number = if number % (most / 1000 + 1) == 0 then prune most else []

-- the calls of a term, in their order
abbrev pub put_calls : TermRow → List EndedCall → List Statement
put_calls term calls = map (put_call term) calls

-- the changes of registration, in their order
abbrev pub put_changes : TermRow → List Change → List Statement
put_changes term changes = map (λ (c : Change). put_event term (event_of_change c)) changes

-- the notes, in their order
abbrev pub put_notes : TermRow → List TimedOccurrence → List Statement
put_notes term notes = map (λ (n : TimedOccurrence). put_event term (event_of_note n)) notes

-- the counts of carriers, in their order
abbrev pub put_carriers : TermRow → List CarrierCounts → List Statement
put_carriers term carriers = map (put_carrier term) carriers

-- the registered radios from the first place on, and nothing after them
abbrev pub put_radios : List ℕ → List Statement
put_radios radios = put_registrations 1 radios ++ cut_registrations (length radios) ∷ []

-- what is written after the row of the term, from which it has the number and the times
abbrev pub put_rest : ℕ → TermRow → Records → List Statement
put_rest most term records =
    put_calls term records.calls.items
    ++ (put_changes term records.changes.items
    ++ (put_notes term records.notes.items
    ++ (put_carriers term records.carriers.items
    ++ (put_radios records.after.registered ++ prune_after most term.number))))
