use Rattle.dmr_registry.proofs.HeldLemmas.{least_held}
use Rattle.dmr_registry.proofs.registry.Registry.lowest_from.Goals as goal

pub returns : goal.returns
returns c = rw (← c.self.view_is) (least_held _ _ _ c.least_from.ensures)
