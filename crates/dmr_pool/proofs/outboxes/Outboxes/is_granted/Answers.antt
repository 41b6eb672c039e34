use Rattle.std.proofs.Common.{◌≡◌, subst, nat_lt, slice_index_or}
use Rattle.dmr_pool.specs.Free.{is_granted}
use Rattle.dmr_pool.specs.Grants.{WaitingPdus}
use Rattle.dmr_pool.proofs.GrantLemmas.{counted_granted}
use Rattle.dmr_pool.proofs.outboxes.Outboxes.is_granted.Goals as goal

pub returns : goal.returns
returns c =
    subst (λ (w : WaitingPdus). nat_lt 0 (slice_index_or c.self.inside.grants c.index.result 0)
    ≡ is_granted w.lists w.outboxes c.args.slot.now) c.self.view_is
    (counted_granted c.self.inside.lists c.self.inside.outboxes.items c.self.inside.grants c.args.slot.now c.index.result
    c.index.ensures.numbers c.index.ensures.value c.self.invariant.1)
