use Rattle.dmr_core.proofs.DownLemmas.{same_noted, no_acts}
use Rattle.dmr_core.proofs.laws.no_carrier_no_change.Goals as goal

pub returns-clause-acts : goal.returns-clause-acts
returns-clause-acts c = no_acts

pub returns-clause-facts : goal.returns-clause-facts
returns-clause-facts c = same_noted
