use Rattle.std.proofs.Common.{◌≡◌, drop, length, []}
use Rattle.std.specs.List.{All}
use Rattle.dmr_plan.specs.Keys.{IsNumberOf}
use Rattle.toml.specs.View.{items_view}
use Rattle.dmr_plan.specs.declared.key.Key.TheVariants.{Groups}
use Rattle.dmr_plan.specs.Numbers.{number}
use Rattle.dmr_plan.specs.Arrays.{in_turn}
use Rattle.dmr_plan.proofs.lists.group_list.Given as goal

abbrev pub invariant-loop-value : goal.invariant-loop-value
invariant-loop-value l = record {
  count : length l.groups ≡ l.value-index;
  each : All (IsNumberOf Groups) l.groups;
  same : in_turn (λ _ d. number Groups d) l.groups (items_view (drop l.value-index l.values))
      ≡ in_turn (λ _ d. number Groups d) [] (items_view l.values);
}
