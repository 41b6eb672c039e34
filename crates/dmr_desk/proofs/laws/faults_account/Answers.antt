use Rattle.dmr_desk.proofs.ClosingLemmas.{missing_is}
use Rattle.dmr_desk.proofs.DepositLemmas.{differing_has_deposits}
use Rattle.dmr_desk.proofs.laws.faults_account.Goals as goal

pub returns-clause-missing : goal.returns-clause-missing
returns-clause-missing c = λ desk seats actor is. let m = missing_is desk seats actor is in (m.0, m.1)

pub returns-clause-deposits : goal.returns-clause-deposits
returns-clause-deposits c = λ desk seats actor is. differing_has_deposits desk seats actor is
