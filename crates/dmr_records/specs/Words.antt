-- The words that the file has for causes, kinds of events and results of commands.
use Rattle.std.specs.Prelude.{ℕ, List, ◌++◌, codes}
use Rattle.dmr_core.specs.CommandWords.{command_row}
use Rattle.dmr_keeper.specs.declared.cause.EndCause.{EndCause}
use Rattle.dmr_keeper.specs.declared.cause.EndCause.TheVariants as cause
use Rattle.dmr_keeper.specs.declared.notes.CommandOutcome.{CommandOutcome}
use Rattle.dmr_keeper.specs.declared.notes.CommandOutcome.TheVariants as outcome
use Rattle.dmr_records.specs.declared.events.EventKind.{EventKind}
use Rattle.dmr_records.specs.declared.events.EventKind.TheVariants as kind

-- why a call ended
abbrev pub cause_word : EndCause → List ℕ
cause_word cause.HangTime = codes "hang_time"
cause_word cause.Maximum = codes "maximum"
cause_word cause.RadioLeft = codes "radio_left"
cause_word cause.Dropped = codes "dropped"
cause_word cause.EndedByOperator = codes "ended_by_operator"
cause_word cause.CarrierLost = codes "carrier_lost"

-- the kind of an event
abbrev pub kind_word : EventKind → List ℕ
kind_word kind.Joined = codes "joined"
kind_word kind.Left = codes "left"
kind_word kind.Dropped = codes "dropped"
kind_word kind.CameUp = codes "came_up"
kind_word kind.WasLost = codes "was_lost"
kind_word kind.JoinedCall = codes "joined_call"
kind_word kind.Refused = codes "refused"
kind_word (kind.Command k) = (command_row k).name ++ codes "_command"

-- the result of an operator's command
abbrev pub outcome_word : CommandOutcome → List ℕ
outcome_word outcome.Done = codes "done"
outcome_word outcome.NotRegistered = codes "not_registered"
outcome_word outcome.Busy = codes "busy"
outcome_word outcome.NoCall = codes "no_call"
outcome_word outcome.NoCarrier = codes "no_carrier"
