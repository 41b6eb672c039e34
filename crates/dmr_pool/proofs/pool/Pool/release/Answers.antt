use Rattle.std.proofs.Common.{false}
use Rattle.dmr_pool.proofs.MarkLemmas.{reheld}
use Rattle.dmr_pool.proofs.pool.Pool.release.Goals as goal

pub invariant_of-self : goal.invariant_of-self
invariant_of-self c =
    reheld c.self.inside.free.bits c.set.new.self.bits c.self.inside.outboxes.lists c.self.inside.up c.self.inside.held
    c.self.inside.outboxes.outboxes c.args.slot c.index.result false c.is_free-is_idle.result c.index.ensures.value
    c.index.ensures.numbers
    c.self.invariant c.set.ensures.bits c.is_free-is_idle.ensures
