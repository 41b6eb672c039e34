use Rattle.std.proofs.Common.{◌∙◌, ap, sym}
use Rattle.dmr_plan.specs.declared.settings.Settings.{Settings}
use Rattle.dmr_plan.specs.Carriers.{has_number_in}
use Rattle.dmr_plan.proofs.plan.Plan.carrier_with.Goals as goal

pub returns-clause-found : goal.returns-clause-found
returns-clause-found c =
    c.carrier_with.ensures.found
    ∙ ap (λ (s : Settings). has_number_in s.lists.carriers c.args.number) c.self.view_is

pub returns-clause-control : goal.returns-clause-control
returns-clause-control c number =
    returns-clause-found c
    ∙ ap (λ n. has_number_in c.args.self.now.lists.carriers n) number
    ∙ sym (ap (λ (s : Settings). has_number_in s.lists.carriers s.lists.control) c.self.view_is)
    ∙ c.self.invariant.lists.control
