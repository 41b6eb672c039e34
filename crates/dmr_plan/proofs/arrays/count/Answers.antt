use Rattle.std.proofs.Common.{sym}
use Rattle.dmr_plan.proofs.Turns.{count_of-view}
use Rattle.dmr_plan.proofs.arrays.count.Goals as goal

pub returns-clause-same : goal.returns-clause-same
returns-clause-same c = sym (count_of-view c.args.values.now)
