use Rattle.std.proofs.Common.{sym, ◌∙◌}
use Rattle.dmr_core.specs.Same.{are_same-Decides}
use Rattle.dmr_core.proofs.site.SitePartialEq.eq.Goals as goal

pub returns-clause-same : goal.returns-clause-same
returns-clause-same c =
    let decides = are_same-Decides c.self.inside.machine c.other.inside.machine in
    rw (← c.self.view_is, ← c.other.view_is) (λ told. decides.0 (sym c.equals.ensures ∙ told), λ same. c.equals.ensures ∙ decides.1 same)
