use Rattle.std.proofs.Common.{◌≡◌, drop, length, []}
use Rattle.std.specs.List.{All}
use Rattle.dmr_plan.specs.Kept.{IsRange}
use Rattle.toml.specs.View.{items_view}
use Rattle.dmr_plan.specs.Arrays.{in_turn}
use Rattle.dmr_plan.specs.Lists.{range_of}
use Rattle.dmr_plan.proofs.lists.radio_list.Given as goal

abbrev pub invariant-loop-value : goal.invariant-loop-value
invariant-loop-value l = record {
  count : length l.ranges ≡ l.value-index;
  each : All IsRange l.ranges;
  same : in_turn (λ _ d. range_of d) l.ranges (items_view (drop l.value-index l.values))
      ≡ in_turn (λ _ d. range_of d) [] (items_view l.values);
}
