use Rattle.std.proofs.Common.{◌≡◌, ◌++◌, drop}
use Rattle.std.specs.Prelude.{filter_map}
use Rattle.dmr_keeper.specs.Changes.{change_by_act}
use Rattle.dmr_keeper.proofs.changes.add_changes.Given as goal

abbrev pub invariant-loop-act : goal.invariant-loop-act
invariant-loop-act l =
    l.changes.items ++ filter_map (change_by_act l.event l.tick) (drop l.act-index l.acts)
    ≡ l.initial.changes.items ++ filter_map (change_by_act l.event l.tick) l.acts
