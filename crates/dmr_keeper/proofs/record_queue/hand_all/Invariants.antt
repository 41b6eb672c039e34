use Rattle.std.proofs.Common.{◌≡◌, ◌≤◌, length}
use Rattle.std.specs.Prelude.{vec_capacity}
use Rattle.dmr_keeper.specs.Handing.{AreHandedOver}
use Rattle.dmr_keeper.proofs.record_queue.hand_all.Given as goal

abbrev pub invariant-loop-terms : goal.invariant-loop-terms
invariant-loop-terms g l = record {
  handed : AreHandedOver (g.K.Keeper.kept l.initial.keeper) l.initial.terms.items l.terms.items (g.K.Keeper.kept l.keeper);
  fewer : length l.terms.items ≤ length l.initial.terms.items;
  room : vec_capacity l.terms ≡ vec_capacity l.initial.terms;
}

abbrev pub decreases-loop-terms : goal.decreases-loop-terms
decreases-loop-terms g l = length l.terms.items
