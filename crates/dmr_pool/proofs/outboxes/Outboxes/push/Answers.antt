use Rattle.std.proofs.Common.{arith, length, ap, sym, subst, ◌∙◌}
use Rattle.dmr_pool.specs.Slots.{box}
use Rattle.dmr_pool.specs.Grants.{IsOneMore, WaitingPdus, slot_counted}
use Rattle.dmr_pool.proofs.GrantLemmas.{few_counted, pushed_counted, pushed_kept}
use Rattle.dmr_pool.proofs.outboxes.Outboxes.push.Goals as goal

pub count_grant-requires : goal.count_grant-requires
count_grant-requires c k below =
    let inside = c.self.inside in
    omega (arith, few_counted inside.lists inside.outboxes.items inside.grants k below c.self.invariant.0.few c.self.invariant.1)

pub invariant_of-self : goal.invariant_of-self
invariant_of-self c =
    let inside = c.self.inside in
    let granted = c.slot_counted-granted.ensures ∙ sym
    (ap (λ (w : WaitingPdus). slot_counted w.lists c.args.slot.now c.args.pdu.now) c.self.view_is) in (
      pushed_kept inside.lists inside.outboxes.items inside.grants c.args.slot.now c.args.pdu.now c.index.result c.index_mut.result.now
          c.self.invariant.2 c.index.ensures.numbers c.index.ensures.value c.index_mut.ensures.value c.self.invariant.0 c.self.invariant.1
          c.push.new.self c.push.ensures
          (omega (arith, c.requires, ap (λ (w : WaitingPdus). length (box w.outboxes c.args.slot.now)) c.self.view_is)),
      pushed_counted inside.lists inside.outboxes.items inside.grants c.args.slot.now c.args.pdu.now c.index.result c.index_mut.result.now
          c.self.invariant.2 c.index.ensures.numbers c.index.ensures.value c.index_mut.ensures.value c.self.invariant.0 c.self.invariant.1
          c.push.new.self c.count_grant.new.grants c.push.ensures
          (subst (λ o. IsOneMore inside.grants o c.count_grant.new.grants) granted c.count_grant.ensures),
      c.self.invariant.2,
    )
