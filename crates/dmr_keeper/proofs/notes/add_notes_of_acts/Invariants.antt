use Rattle.std.proofs.Common.{◌≡◌, ◌++◌, drop}
use Rattle.std.specs.Prelude.{filter_map}
use Rattle.dmr_keeper.specs.Notes.{note_by_act}
use Rattle.dmr_keeper.proofs.notes.add_notes_of_acts.Given as goal

abbrev pub invariant-loop-act : goal.invariant-loop-act
invariant-loop-act l =
    l.notes.items ++ filter_map (note_by_act l.tick) (drop l.act-index l.acts) ≡ l.initial.notes.items ++ filter_map
    (note_by_act l.tick) l.acts
