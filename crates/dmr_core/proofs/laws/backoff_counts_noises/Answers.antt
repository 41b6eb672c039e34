use Rattle.dmr_core.specs.Facts.{no_facts}
use Rattle.dmr_core.proofs.BackoffLemmas.{backoff_counts}
use Rattle.dmr_core.proofs.laws.backoff_counts_noises.Goals as goal

pub returns-clause-counts : goal.returns-clause-counts
returns-clause-counts c = backoff_counts

pub returns-clause-from_nothing : goal.returns-clause-from_nothing
returns-clause-from_nothing c = λ plan journal p legal up. backoff_counts plan no_facts journal p
    (c.facts_stay_sound.ensures.nothing plan) legal up
