use Rattle.std.proofs.Common.{◌≡◌, true, ap, sym, subst, ◌∙◌}
use Rattle.std.specs.Prelude.{slice_get}
use Rattle.dmr_pool.specs.Slots.{box, slot_at}
use Rattle.dmr_pool.specs.Grants.{IsOneMore, WaitingPdus, is_this, slot_counted}
use Rattle.dmr_pool.proofs.GrantLemmas.{taken_counted, taken_kept, taken_some}
use Rattle.dmr_pool.proofs.outboxes.Outboxes.take.Goals as goal

pub uncount_grant-requires : goal.uncount_grant-requires
uncount_grant-requires c k below this =
    let inside = c.self.inside in
    let granted = c.slot_counted-granted.ensures ∙ sym
    (ap (λ (w : WaitingPdus). slot_counted w.lists c.args.slot.now c.args.pdu.now) c.self.view_is) in
    taken_some inside.lists inside.outboxes.items inside.grants c.args.slot.now c.args.pdu.now c.index.result c.index_mut.result.now
    c.self.invariant.2 c.index.ensures.numbers c.index.ensures.value c.index_mut.ensures.value c.self.invariant.0 c.self.invariant.1
    (ap (λ (w : WaitingPdus). slice_get (box w.outboxes c.args.slot.now) 0) c.self.view_is ∙ c.requires)
    k below (subst (λ o. is_this o (slot_at k) ≡ true) granted this)

pub invariant_of-self : goal.invariant_of-self
invariant_of-self c =
    let inside = c.self.inside in
    let granted = c.slot_counted-granted.ensures ∙ sym
    (ap (λ (w : WaitingPdus). slot_counted w.lists c.args.slot.now c.args.pdu.now) c.self.view_is) in (
      taken_kept inside.lists inside.outboxes.items inside.grants c.args.slot.now c.args.pdu.now c.index.result c.index_mut.result.now
          c.self.invariant.2 c.index.ensures.numbers c.index.ensures.value c.index_mut.ensures.value c.self.invariant.0 c.self.invariant.1
          c.take.new.self c.take.ensures.rest,
      taken_counted inside.lists inside.outboxes.items inside.grants c.args.slot.now c.args.pdu.now c.index.result c.index_mut.result.now
          c.self.invariant.2 c.index.ensures.numbers c.index.ensures.value c.index_mut.ensures.value c.self.invariant.0 c.self.invariant.1
          c.take.new.self c.uncount_grant.new.grants c.take.ensures.rest
          (ap (λ (w : WaitingPdus). slice_get (box w.outboxes c.args.slot.now) 0) c.self.view_is ∙ c.requires)
          (subst (λ o. IsOneMore c.uncount_grant.new.grants o inside.grants) granted c.uncount_grant.ensures),
      c.self.invariant.2,
    )
