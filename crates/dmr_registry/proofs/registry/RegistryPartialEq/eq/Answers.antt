use Rattle.std.proofs.Common.{rules}
use Rattle.std.proofs.lemmas.Slice.Eq.{slice_eq-Decides}
use Rattle.dmr_registry.proofs.registry.RegistryPartialEq.eq.Goals as goal

pub returns-clause-same : goal.returns-clause-same
returns-clause-same c =
    rw (← c.as_slice.ensures.value, ← c.as_slice-2.ensures.value) (slice_eq-Decides (λ x y. search rules) _ _ _ c.eq.ensures)
