use Rattle.std.proofs.Common.{◌≡◌, drop}
use Rattle.toml.specs.View.{items_view}
use Rattle.dmr_plan.specs.Arrays.{is_item, all_items}
use Rattle.dmr_plan.proofs.arrays.admits_all.Given as goal

abbrev pub invariant-loop-value : goal.invariant-loop-value
invariant-loop-value l = all_items (is_item l.content) (items_view (drop l.value-index l.values))
    ≡ all_items (is_item l.content) (items_view l.values)
