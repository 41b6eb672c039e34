use Rattle.std.proofs.Common.{rules, arith}
use Rattle.std.proofs.lemmas.Grind.{common_steps}
use Rattle.dmr_core.specs.Rules.{acts_for_individual_request}
use Rattle.dmr_core.proofs.machine.Machine.answer_individual_request.Goals as goal

pub returns-then-counts-lt-MOST_ASKS : goal.returns-then-counts-lt-MOST_ASKS
unfolding acts_for_individual_request
returns-then-counts-lt-MOST_ASKS c = grind (arith, common_steps)

pub returns-else-counts-lt-MOST_ASKS : goal.returns-else-counts-lt-MOST_ASKS
unfolding acts_for_individual_request
returns-else-counts-lt-MOST_ASKS c = search rules
