use Rattle.std.proofs.Common.{refl}
use Rattle.std.specs.Prelude.{reverse}
use Rattle.dmr_core.specs.Facts.{facts_after}
use Rattle.dmr_keeper.specs.Carried.{carried_after}
use Rattle.dmr_keeper.proofs.SiteLemmas.{stays_the_sites, within_limits}
use Rattle.dmr_keeper.proofs.laws.carried_is_the_sites.Goals as goal

pub returns-clause-starts : goal.returns-clause-starts
returns-clause-starts c = record { calls = refl; lines = refl; registered = refl }

pub returns-clause-restarts : goal.returns-clause-restarts
returns-clause-restarts c = λ radios. record { calls = refl; lines = refl; registered = refl }

pub returns-clause-stays : goal.returns-clause-stays
returns-clause-stays c = stays_the_sites

pub returns-clause-within : goal.returns-clause-within
returns-clause-within c =
    λ plan facts before journal accepted sound legal is.
    within_limits plan (facts_after plan facts (reverse journal)) (carried_after plan before journal)
    (c.facts_stay_sound.ensures.sound plan facts (reverse journal) accepted sound legal) (stays_the_sites plan facts before journal is)
