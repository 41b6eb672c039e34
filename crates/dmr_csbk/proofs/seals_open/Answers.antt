use Rattle.dmr_csbk.proofs.SealLemmas.{with_check-octets, without_check-with_check, without_check-found}
use Rattle.dmr_csbk.proofs.seals_open.Goals as goal

pub returns-clause-octets : goal.returns-clause-octets
returns-clause-octets c = with_check-octets

pub returns-clause-sealed : goal.returns-clause-sealed
returns-clause-sealed c = without_check-with_check

pub returns-clause-opened : goal.returns-clause-opened
returns-clause-opened c = without_check-found
