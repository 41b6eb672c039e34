use Rattle.std.proofs.Common.{◌≡◌, ◌+◌, ◌++◌, drop}
use Rattle.dmr_keeper.specs.Changes.{changes_in, changes_in_entry}
use Rattle.dmr_keeper.specs.Ticks.{ticks_in, told_along}
use Rattle.dmr_keeper.proofs.changes.changes_of.Given as goal

abbrev pub invariant-loop-entry : goal.invariant-loop-entry
invariant-loop-entry l = record {
  room : l.tick + ticks_in (drop l.entry-index l.journal) ≡ l.ticks + ticks_in l.journal;
  told : l.changes.items ++ told_along changes_in_entry l.tick (drop l.entry-index l.journal) ≡ changes_in l.ticks l.journal;
}
