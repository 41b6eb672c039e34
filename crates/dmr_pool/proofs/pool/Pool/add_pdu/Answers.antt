use Rattle.std.proofs.Common.{ap, sym, subst, ◌∙◌}
use Rattle.dmr_pool.specs.Grants.{WaitingPdus, slot_counted, slots_with}
use Rattle.dmr_pool.specs.Marks.{AreMarked}
use Rattle.dmr_pool.proofs.MarkLemmas.{put_none, added_one}
use Rattle.dmr_pool.proofs.pool.Pool.add_pdu.Goals as goal

pub invariant_of-self : goal.invariant_of-self
invariant_of-self c =
    let inside = c.self.inside in
    subst (λ (w : WaitingPdus). AreMarked c.set-in-Some.new.self.bits (slots_with w inside.up inside.held)) (sym c.push.ensures)
    (added_one inside.outboxes.lists inside.up inside.held inside.outboxes.outboxes c.args.slot.now c.args.pdu.now
    c.use_invariant.ensures.lists c.use_invariant.ensures.outboxes c.set.ensures.numbers inside.free.bits c.set.new.self.bits
    c.set-in-Some.new.self.bits
    c.in-Some.granted c.set-in-Some.ensures.numbers c.self.invariant c.set.ensures.bits c.set-in-Some.ensures.bits
    (ap (λ (w : WaitingPdus). slot_counted w.lists c.args.slot.now c.args.pdu.now) (sym c.push.ensures) ∙ sym c.slot_counted.ensures
    ∙ c.in-Some.is))

pub invariant_of-self-in_default : goal.invariant_of-self-in_default
invariant_of-self-in_default c =
    let inside = c.self.inside in
    subst (λ (w : WaitingPdus). AreMarked c.set.new.self.bits (slots_with w inside.up inside.held)) (sym c.push.ensures)
    (put_none inside.outboxes.lists inside.up inside.held inside.outboxes.outboxes c.args.slot.now c.args.pdu.now
    c.use_invariant.ensures.lists c.use_invariant.ensures.outboxes c.set.ensures.numbers inside.free.bits c.set.new.self.bits
    c.self.invariant c.set.ensures.bits (ap (λ (w : WaitingPdus). slot_counted w.lists c.args.slot.now c.args.pdu.now) (sym c.push.ensures)
    ∙ sym c.slot_counted.ensures ∙ c.in_default.is))
