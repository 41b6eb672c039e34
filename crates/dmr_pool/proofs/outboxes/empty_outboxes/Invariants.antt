use Rattle.std.proofs.Common.{◌≡◌, [], replicate}
use Rattle.dmr_pool.proofs.outboxes.empty_outboxes.Given as goal

abbrev pub invariant-loop : goal.invariant-loop
invariant-loop l = l.outboxes.items ≡ replicate l.counter []
