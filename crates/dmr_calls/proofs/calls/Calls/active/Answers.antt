use Rattle.dmr_calls.proofs.SlotLemmas.{on_slots_marked}
use Rattle.dmr_calls.proofs.calls.Calls.active.Goals as goal

pub invariant_of-self : goal.invariant_of-self
invariant_of-self c = (c.self.invariant.0, rw c.mark_active.ensures (on_slots_marked c.args.slot _ c.self.invariant.1))
