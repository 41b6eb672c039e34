use Rattle.dmr_calls.proofs.OwnAskLemmas.{own_after}
use Rattle.dmr_calls.proofs.SlotLemmas.{on_slots_after}
use Rattle.dmr_calls.proofs.calls.Calls.count_tick.Goals as goal

pub invariant_of-self : goal.invariant_of-self
invariant_of-self c = (rw c.age_asks.ensures (own_after _ c.self.invariant.0), rw c.age_calls.ensures (on_slots_after _ c.self.invariant.1))
