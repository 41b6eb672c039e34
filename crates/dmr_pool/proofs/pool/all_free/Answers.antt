use Rattle.dmr_pool.specs.Slots.{Slots}
use Rattle.dmr_pool.specs.Grants.{slots_with}
use Rattle.dmr_pool.proofs.MarkLemmas.{one_more}
use Rattle.dmr_pool.proofs.pool.all_free.Goals as goal

pub loop-place-preserved : goal.loop-place-preserved
loop-place-preserved c =
    let slots : Slots = slots_with c.args.outboxes.now c.args.up.now c.args.held.now in
    one_more c.loop-place.free.bits c.set.new.self.bits slots c.at.result c.is_free.result c.loop-place.place c.at.ensures
    c.loop-place-test.true c.set.ensures.bits c.is_free.ensures c.loop-place.invariant
