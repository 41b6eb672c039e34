use Rattle.std.proofs.Common.{◌≢◌, ℕ}
use Rattle.std.proofs.lemmas.List.Kept.{AllPairs-filter}
use Rattle.dmr_registry.proofs.registry.Registry.remove.Goals as goal

pub invariant_of-self : goal.invariant_of-self
invariant_of-self c = rw c.remove.ensures (AllPairs-filter (λ (a b : ℕ). a ≢ b) _ _ c.self.invariant)
