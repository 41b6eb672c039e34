use Rattle.dmr_pool.specs.Slots.{place}
use Rattle.dmr_pool.proofs.BitLemmas.{bit_set, bit_cleared}
use Rattle.dmr_pool.proofs.marks.Marks.set.Goals as goal

pub returns-then-is_in-clause-bits : goal.returns-then-is_in-clause-bits
returns-then-is_in-clause-bits c = bit_set c.args.self.now.bits c.index.result
    (place c.args.slot.now) c.args.is_in c.index.ensures.value c.index.ensures.range c.if-is_in.true

pub returns-else-is_in-clause-bits : goal.returns-else-is_in-clause-bits
returns-else-is_in-clause-bits c = bit_cleared c.args.self.now.bits c.index.result
    (place c.args.slot.now) c.args.is_in c.index.ensures.value c.index.ensures.range c.if-is_in.false
