use Rattle.std.proofs.Common.{◌≡◌, ◌≤◌, ◌-◌, ◌++◌, length}
use Rattle.dmr_registry.specs.Least.{least_from, next_from}
use Rattle.dmr_registry.proofs.LeastLemmas.{AreAllBelow}
use Rattle.dmr_registry.proofs.registry.Registry.from_number.Given as goal

abbrev pub invariant-loop-next : goal.invariant-loop-next
invariant-loop-next l = record {
  few : length l.listed.items ≤ 16;
  found : AreAllBelow l.self l.fn.from l.next l.listed.items;
  whole : l.listed.items ++ next_from (16 - length l.listed.items) l.self l.next ≡ least_from l.self l.fn.from;
}

abbrev pub decreases-loop-next : goal.decreases-loop-next
decreases-loop-next l = 16 - length l.listed.items
