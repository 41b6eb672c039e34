use Rattle.dmr_core.proofs.AgeLemmas.{age_before, ages_count, quiet_before, quiet_counts, waited_before, waits_count}
use Rattle.dmr_core.proofs.PlansAreKnown.{plan_known}
use Rattle.dmr_core.proofs.laws.ages_count_ticks.Goals as goal

pub returns-clause-age : goal.returns-clause-age
returns-clause-age c = λ plan facts journal slot call p h legal stands. ages_count plan facts journal slot call
    (plan_known plan p) h legal stands

pub returns-clause-quiet : goal.returns-clause-quiet
returns-clause-quiet c = λ plan facts journal slot call p h legal stands. quiet_counts plan facts journal slot call
    (plan_known plan p) h legal stands

pub returns-clause-waited : goal.returns-clause-waited
returns-clause-waited c = waits_count

pub returns-clause-before : goal.returns-clause-before
returns-clause-before c = λ plan facts slot radio h.
    (age_before plan facts slot h, quiet_before plan facts slot h, waited_before plan facts radio h)
