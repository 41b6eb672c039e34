use Rattle.std.proofs.Common.{◌≡◌, ◌+◌, ◌++◌, drop}
use Rattle.dmr_keeper.specs.Notes.{notes_in, notes_in_entry}
use Rattle.dmr_keeper.specs.Ticks.{ticks_in, told_along}
use Rattle.dmr_keeper.proofs.notes.notes_of.Given as goal

abbrev pub invariant-loop-entry : goal.invariant-loop-entry
invariant-loop-entry l = record {
  room : l.tick + ticks_in (drop l.entry-index l.journal) ≡ l.ticks + ticks_in l.journal;
  told : l.notes.items ++ told_along (notes_in_entry l.plan) l.tick (drop l.entry-index l.journal) ≡ notes_in l.plan l.ticks l.journal;
}
