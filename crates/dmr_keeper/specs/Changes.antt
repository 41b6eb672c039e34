-- Changes of registration, by the entries of a journal.
use Rattle.std.specs.Prelude.{ℕ, List, Option, Some, None, filter_map}
use Rattle.dmr_core.specs.declared.command.Command.TheVariants as command
use Rattle.dmr_core.specs.declared.event.Event.{Event}
use Rattle.dmr_core.specs.declared.event.Event.TheVariants.{Say}
use Rattle.dmr_core.specs.declared.act.Act.{Act}
use Rattle.dmr_core.specs.declared.act.Act.TheVariants as act
use Rattle.dmr_core.specs.declared.entry.Entry.{Entry}
use Rattle.dmr_keeper.specs.declared.changes.Change.{Change}
use Rattle.dmr_keeper.specs.declared.changes.ChangeKind.{ChangeKind}
use Rattle.dmr_keeper.specs.declared.changes.ChangeKind.TheVariants as kind
use Rattle.dmr_keeper.specs.Ticks.{told_along}

-- how a registration ends: by an operator's `drop`, else by the radio's request
abbrev pub kind_of_leaving : Event → ChangeKind
kind_of_leaving (Say (command.Drop radio)) = kind.Dropped
kind_of_leaving _ = kind.Left

-- the change that an act makes
abbrev pub change_by_act : Event → ℕ → Act → Option Change
change_by_act event tick (act.Joined radio) =
    Some (record { radio = radio; tick = tick; kind = kind.Joined })
change_by_act event tick (act.Left radio) =
    Some (record { radio = radio; tick = tick; kind = kind_of_leaving event })
change_by_act event tick _ = None

-- the changes in an entry
abbrev pub changes_in_entry : ℕ → Entry → List Change
changes_in_entry tick entry = filter_map (change_by_act entry.event tick) entry.acts.list

-- the changes in a journal, from the ticks before it
abbrev pub changes_in : ℕ → List Entry → List Change
changes_in ticks journal = told_along changes_in_entry ticks journal
