use Rattle.std.proofs.Common.{◌∙◌, ap}
use Rattle.std.specs.Prelude.{is_some}
use Rattle.dmr_plan.specs.Carriers.{has_number_in}
use Rattle.dmr_plan.proofs.Membership.{is_some-row_with}
use Rattle.dmr_plan.proofs.sections.ListSection.carrier_with.Goals as goal

pub returns-clause-found : goal.returns-clause-found
returns-clause-found c =
    ap is_some c.row_numbered.ensures.gives
    ∙ is_some-row_with c.as_slice.result.now c.args.number
    ∙ ap (λ rows. has_number_in rows c.args.number) c.as_slice.ensures.value
