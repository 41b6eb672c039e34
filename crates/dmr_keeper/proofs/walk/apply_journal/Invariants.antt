use Rattle.std.proofs.Common.{◌≡◌, ◌+◌, ◌++◌, drop, max}
use Rattle.dmr_keeper.specs.Calls.{ended_in, open_after}
use Rattle.dmr_keeper.specs.Lines.{lines_after, most_waiting}
use Rattle.dmr_keeper.specs.Ticks.{ticks_in}
use Rattle.dmr_keeper.proofs.walk.apply_journal.Given as goal

abbrev pub invariant-loop-entry : goal.invariant-loop-entry
invariant-loop-entry l = record {
  room : l.tick + ticks_in (drop l.entry-index l.journal) ≡ l.ticks + ticks_in l.journal;
  lines : lines_after l.plan l.tick l.lines.items (drop l.entry-index l.journal) ≡ lines_after l.plan l.ticks l.initial.lines.items
      l.journal;
  calls : open_after l.plan l.tick l.lines.items l.calls.items (drop l.entry-index l.journal) ≡ open_after l.plan l.ticks
      l.initial.lines.items l.initial.calls.items l.journal;
  ended : l.ended.items ++ ended_in l.plan l.tick l.lines.items l.calls.items
      (drop l.entry-index l.journal) ≡ l.initial.ended.items ++ ended_in l.plan l.ticks l.initial.lines.items l.initial.calls.items
      l.journal;
  most : max l.most (most_waiting l.plan l.tick l.lines.items (drop l.entry-index l.journal)) ≡ most_waiting l.plan l.ticks
      l.initial.lines.items l.journal;
}
