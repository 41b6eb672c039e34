use Rattle.std.proofs.Common.{◌≡◌, Bool, ap, sym, subst, ◌∙◌}
use Rattle.std.specs.Prelude.{slice_get}
use Rattle.dmr_pdu.specs.declared.slots.Slot.{Slot}
use Rattle.dmr_pool.specs.Slots.{Slots, box, outboxes_after_send}
use Rattle.dmr_pool.specs.Free.{is_free}
use Rattle.dmr_pool.specs.Grants.{WaitingPdus, slot_counted, slots_with}
use Rattle.dmr_pool.specs.Marks.{AreMarked}
use Rattle.dmr_pool.proofs.MarkLemmas.{took_none, removed_one}
use Rattle.dmr_pool.proofs.pool.Pool.take_first.Goals as goal

pub invariant_of-self : goal.invariant_of-self
invariant_of-self c =
    let inside = c.self.inside in
    let told : (b : Bool) (s : Slot) → b ≡ is_free (slots_with c.take.new.self inside.up inside.held) s
    → b ≡ is_free (record {
      lists = inside.outboxes.lists;
      up = inside.up;
      held = inside.held;
      outboxes =
          outboxes_after_send inside.outboxes.outboxes c.args.slot.now;
    }) s =
    λ b s e. e ∙ ap (λ (w : WaitingPdus). is_free (slots_with w inside.up inside.held) s) c.take.ensures in
    subst (λ (w : WaitingPdus). AreMarked c.set-in-Some.new.self.bits (slots_with w inside.up inside.held)) (sym c.take.ensures)
    (removed_one inside.outboxes.lists inside.up inside.held inside.outboxes.outboxes c.args.slot.now c.args.pdu.now
    c.use_invariant.ensures.lists c.use_invariant.ensures.outboxes c.set.ensures.numbers inside.free.bits c.set.new.self.bits
    c.set-in-Some.new.self.bits
    c.in-Some.granted c.is_free-is_idle.result c.is_free-is_idle-in-Some.result
    (ap (λ (s : Slots). slice_get (box s.outboxes c.args.slot.now) 0) c.self.view_is ∙ c.requires) c.set-in-Some.ensures.numbers
    c.self.invariant c.set.ensures.bits c.set-in-Some.ensures.bits
    (told c.is_free-is_idle.result c.args.slot.now c.is_free-is_idle.ensures)
    (told c.is_free-is_idle-in-Some.result c.in-Some.granted c.is_free-is_idle-in-Some.ensures)
    (ap (λ (w : WaitingPdus). slot_counted w.lists c.args.slot.now c.args.pdu.now) (sym c.take.ensures) ∙ sym c.slot_counted.ensures
    ∙ c.in-Some.is))

pub invariant_of-self-in_default : goal.invariant_of-self-in_default
invariant_of-self-in_default c =
    let inside = c.self.inside in
    subst (λ (w : WaitingPdus). AreMarked c.set.new.self.bits (slots_with w inside.up inside.held)) (sym c.take.ensures)
    (took_none inside.outboxes.lists inside.up inside.held inside.outboxes.outboxes c.args.slot.now c.args.pdu.now
    c.use_invariant.ensures.lists c.use_invariant.ensures.outboxes c.set.ensures.numbers inside.free.bits c.set.new.self.bits
    c.is_free-is_idle.result
    (ap (λ (s : Slots). slice_get (box s.outboxes c.args.slot.now) 0) c.self.view_is ∙ c.requires) c.self.invariant c.set.ensures.bits
    (c.is_free-is_idle.ensures ∙ ap (λ (w : WaitingPdus). is_free (slots_with w inside.up inside.held) c.args.slot.now) c.take.ensures)
    (ap (λ (w : WaitingPdus). slot_counted w.lists c.args.slot.now c.args.pdu.now) (sym c.take.ensures) ∙ sym c.slot_counted.ensures
    ∙ c.in_default.is))
