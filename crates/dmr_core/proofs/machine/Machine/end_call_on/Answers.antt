use Rattle.std.proofs.Common.{sym, ap, ◌∙◌}
use Rattle.dmr_calls.specs.ActiveLists.{ActiveLists}
use Rattle.dmr_pool.specs.Slots.{Slots, is_slot_held}
use Rattle.dmr_core.specs.Words.{has_call_on}
use Rattle.dmr_core.proofs.HeldLemmas.{ended}
use Rattle.dmr_core.proofs.machine.Machine.end_call_on.Goals as goal

pub invariant_of-self : goal.invariant_of-self
invariant_of-self c = (
  c.self.invariant.0,
  c.self.invariant.1,
  c.self.invariant.2,
  ap (λ (p : Slots). p.lists) c.release.ensures ∙ c.self.invariant.3,
  λ s is.
      ap (λ (p : Slots). is_slot_held p.held s) c.release.ensures
      ∙ ended c.self.inside.pool.held c.self.inside.calls.calls c.args.slot.now c.use_invariant.ensures.held c.slot_is_in_range.ensures
      c.self.invariant.4 s is
      ∙ sym (ap (λ (n : ActiveLists). has_call_on n.calls s) c.end_calls_on.ensures),
)
