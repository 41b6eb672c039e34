use Rattle.std.proofs.Common.{◌≡◌, drop, length, []}
use Rattle.std.specs.List.{All}
use Rattle.dmr_plan.specs.Kept.{IsCarrierRow, AreApart}
use Rattle.toml.specs.View.{items_view}
use Rattle.dmr_plan.specs.Arrays.{in_turn}
use Rattle.dmr_plan.specs.Carriers.{carrier_of_item}
use Rattle.dmr_plan.proofs.carriers.row_list.Given as goal

abbrev pub invariant-loop-value : goal.invariant-loop-value
invariant-loop-value l = record {
  count : length l.rows ≡ l.value-index;
  each : All IsCarrierRow l.rows;
  apart : AreApart l.console_port l.rows;
  same : in_turn (carrier_of_item l.console_port) l.rows (items_view (drop l.value-index l.values))
      ≡ in_turn (carrier_of_item l.console_port) [] (items_view l.values);
}
