-- The rows of the commands that change the site: their words, and their columns.
use Rattle.std.proofs.Common.{◌≡◌, ℕ, Some, codes, refl}
use Rattle.dmr_core.specs.declared.command.Command.TheVariants.{Drop, End, Move, Stay}
use Rattle.dmr_core.specs.declared.command.CommandKind.{CommandKind}
use Rattle.dmr_core.specs.declared.command.CommandKind.TheVariants as command
use Rattle.dmr_keeper.specs.declared.notes.CommandOutcome.{CommandOutcome}
use Rattle.dmr_records.specs.declared.events.EventKind.TheVariants.{Command}
use Rattle.dmr_records.specs.declared.events.EventRow.{EventRow}
use Rattle.dmr_records.specs.Events.{bare, event_of_command}
use Rattle.dmr_records.specs.Words.{kind_word}

words : (kind_word (Command command.Drop) ≡ codes "drop_command")
    × (kind_word (Command command.End) ≡ codes "end_command")
    × (kind_word (Command command.Move) ≡ codes "move_command")
    × (kind_word (Command command.Stay) ≡ codes "stay_command")
words = (refl, refl, refl, refl)

module _ (tick : ℕ) (o : CommandOutcome) where
  abbrev row : CommandKind → EventRow
  row kind = record (bare tick (Command kind)) { reply = Some o }

  rows : (radio carrier slot channel : ℕ)
      → (event_of_command tick (Drop radio) o ≡ record (row command.Drop) { radio = Some radio })
      × (event_of_command tick (End carrier slot) o ≡ record (row command.End) { carrier = Some carrier; slot = Some slot })
      × (event_of_command tick (Move channel) o ≡ record (row command.Move) { channel = Some channel })
      × (event_of_command tick Stay o ≡ row command.Stay)
  rows radio carrier slot channel = (refl, refl, refl, refl)
