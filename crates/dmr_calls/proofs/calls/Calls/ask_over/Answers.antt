use Rattle.std.proofs.Common.{◌≢◌}
use Rattle.std.proofs.lemmas.List.Kept.{AllPairs-filter}
use Rattle.dmr_calls.specs.declared.ask.ActiveAsk.{ActiveAsk}
use Rattle.dmr_calls.proofs.calls.Calls.ask_over.Goals as goal

pub invariant_of-self : goal.invariant_of-self
invariant_of-self c =
    (rw c.remove.ensures (AllPairs-filter (λ (a b : ActiveAsk). a.ask.source ≢ b.ask.source) _ _ c.self.invariant.0), c.self.invariant.1)
