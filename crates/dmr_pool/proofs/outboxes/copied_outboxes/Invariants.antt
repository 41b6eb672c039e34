use Rattle.std.proofs.Common.{◌≡◌, take}
use Rattle.dmr_pool.proofs.outboxes.copied_outboxes.Given as goal

abbrev pub invariant-loop-outbox : goal.invariant-loop-outbox
invariant-loop-outbox l = l.copies.items ≡ take l.outbox-index l.outboxes
