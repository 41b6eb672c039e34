use Rattle.std.proofs.Common.{◌∙◌, ap, sym}
use Rattle.dmr_plan.specs.declared.settings.Settings.{Settings}
use Rattle.dmr_plan.specs.Same.{are_same, are_same-Decides}
use Rattle.dmr_plan.proofs.plan.PlanPartialEq.eq.Goals as goal

pub returns-clause-gives : goal.returns-clause-gives
returns-clause-gives c =
    c.eq.ensures
    ∙ ap (λ (s : Settings). are_same s c.other.inside.settings) c.self.view_is
    ∙ ap (λ (s : Settings). are_same c.args.self.now s) c.other.view_is

pub returns-clause-same : goal.returns-clause-same
returns-clause-same c =
    let decides = are_same-Decides c.args.self.now c.args.other.now in
    let is = returns-clause-gives c in
    (λ told. decides.0 (sym is ∙ told), λ same. is ∙ decides.1 same)
