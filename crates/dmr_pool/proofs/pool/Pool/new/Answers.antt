use Rattle.std.proofs.Common.{replicate, false}
use Rattle.dmr_pool.proofs.MarkLemmas.{none_free}
use Rattle.dmr_pool.proofs.pool.Pool.new.Goals as goal

pub invariant_of-result : goal.invariant_of-result
invariant_of-result c = none_free c.none.result.bits c.in_ok-new.field-0.lists
    (replicate 32 false) c.in_ok-new.field-0.outboxes c.none.ensures
