use Rattle.std.proofs.Common.{rules}
use Rattle.dmr_plan.proofs.sections.lists_in.Goals as goal

pub returns-clause-limits : goal.returns-clause-limits
returns-clause-limits c =
    let apart = c.in_ok-carriers_in.ensures.limits _ c.in_ok-number.ensures.gives in
    search (apart, rules) depth 9
