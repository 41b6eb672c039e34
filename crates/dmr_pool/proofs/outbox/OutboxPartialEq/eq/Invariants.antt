use Rattle.std.proofs.Common.{◌≡◌, drop}
use Rattle.dmr_pool.specs.Same.{are_same_pdus}
use Rattle.dmr_pool.proofs.outbox.OutboxPartialEq.eq.Given as goal

abbrev pub invariant-loop-index : goal.invariant-loop-index
invariant-loop-index l = are_same_pdus (drop l.index l.self) (drop l.index l.other) ≡ are_same_pdus l.self l.other
