use Rattle.std.proofs.Common.{◌≡◌, ◌+◌, ◌++◌, drop, ap, ◌∙◌}
use Rattle.dmr_keeper.specs.Changes.{changes_in, changes_in_entry}
use Rattle.dmr_keeper.specs.Ticks.{ticks_in}
use Rattle.dmr_keeper.proofs.LoopLemmas.{ticks_stay, told_on}
use Rattle.dmr_keeper.proofs.changes.changes_of.Goals as goal

pub loop-entry-preserved : goal.loop-entry-preserved
loop-entry-preserved c =
    let journal = c.args.journal.now in
    let i = c.loop-entry.entry-index in
    let entry = c.entry-item.result in
    let added : c.add_changes.new.changes.items ≡ c.loop-entry.changes.items ++ changes_in_entry c.tick_with-tick.result entry =
    rw c.as_slice.ensures.value at c.in_ok-add_changes.ensures in
    record {
      room =
          ap (λ n. n + ticks_in (drop (i + 1) journal)) c.tick_with-tick.ensures
          ∙ ticks_stay journal i c.loop-entry.tick (c.args.ticks + ticks_in journal) entry c.loop-entry-test.true c.entry-item.is
          c.loop-entry.invariant.room;
      told = told_on changes_in_entry journal i c.loop-entry.tick entry c.tick_with-tick.result c.loop-entry.changes.items
          c.add_changes.new.changes.items (changes_in c.args.ticks journal) c.loop-entry-test.true c.entry-item.is c.tick_with-tick.ensures
          added c.loop-entry.invariant.told;
    }
