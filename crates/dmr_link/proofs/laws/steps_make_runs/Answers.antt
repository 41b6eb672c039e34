use Rattle.std.proofs.Common.{refl}
use Rattle.dmr_link.proofs.OneInputMore.{gives_more}
use Rattle.dmr_link.proofs.RunsAreAnswered.{run_is}
use Rattle.dmr_link.proofs.laws.steps_make_runs.Goals as goal

pub returns-clause-begins : goal.returns-clause-begins
returns-clause-begins c = λ s. record { carriers = refl; console = refl; left = refl }

pub returns-clause-goes_on : goal.returns-clause-goes_on
returns-clause-goes_on c = gives_more

pub returns-clause-run : goal.returns-clause-run
returns-clause-run c = run_is
