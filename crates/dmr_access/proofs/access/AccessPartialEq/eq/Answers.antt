use Rattle.std.proofs.Common.{sym, ◌∙◌}
use Rattle.dmr_access.specs.Same.{are_same-Decides}
use Rattle.dmr_access.proofs.access.AccessPartialEq.eq.Goals as goal

pub returns-clause-same : goal.returns-clause-same
returns-clause-same c =
    let decides = are_same-Decides c.args.self.now c.args.other.now in (
      λ told. decides.0 (sym c.equals.ensures ∙ told),
      λ same. c.equals.ensures ∙ decides.1 same,
    )
