use Rattle.std.proofs.Common.{◌≡◌}
use Rattle.std.specs.Prelude.{filter_map}
use Rattle.std.specs.List.{range_with_len}
use Rattle.dmr_keeper.specs.Carriers.{counts_if_any}
use Rattle.dmr_keeper.proofs.carriers.counts_of_carriers.Given as goal

abbrev pub invariant-loop-number : goal.invariant-loop-number
invariant-loop-number l = l.counts.items ≡ filter_map (counts_if_any l.journal) (range_with_len 0 l.number)
