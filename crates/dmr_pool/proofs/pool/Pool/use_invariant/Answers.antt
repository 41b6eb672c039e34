use Rattle.std.proofs.Common.{subst}
use Rattle.dmr_pool.specs.Kept.{AreSlotsOfSite}
use Rattle.dmr_pool.proofs.pool.Pool.use_invariant.Goals as goal

pub returns : goal.returns
returns c = subst AreSlotsOfSite c.self.view_is (record {
  carriers = c.are_sized.ensures.carriers;
  held =
      c.are_sized.ensures.slots;
  outboxes = c.use_invariant.ensures.outboxes.size;
  few = c.use_invariant.ensures.outboxes.few;
})
