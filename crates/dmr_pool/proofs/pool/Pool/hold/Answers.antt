use Rattle.std.proofs.Common.{rules, true, false}
use Rattle.dmr_pool.proofs.MarkLemmas.{now_held, reheld}
use Rattle.dmr_pool.proofs.pool.Pool.hold.Goals as goal

pub invariant_of-self : goal.invariant_of-self
invariant_of-self c =
    reheld c.self.inside.free.bits c.set.new.self.bits c.self.inside.outboxes.lists c.self.inside.up c.self.inside.held
    c.self.inside.outboxes.outboxes c.args.slot c.index.result true false c.index.ensures.value c.index.ensures.numbers
    c.self.invariant c.set.ensures.bits (now_held c.self.inside.outboxes.lists c.self.inside.up c.self.inside.held
    c.self.inside.outboxes.outboxes c.args.slot c.index.result c.index.ensures.value c.index.ensures.numbers (search rules))
