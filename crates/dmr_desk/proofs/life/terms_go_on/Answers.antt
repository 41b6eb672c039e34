use Rattle.dmr_desk.proofs.TermsJoin.{terms_join, start_on, ran_on}
use Rattle.dmr_desk.proofs.life.terms_go_on.Goals as goal

pub returns-clause-terms : goal.returns-clause-terms
returns-clause-terms c = terms_join

pub returns-clause-ends : goal.returns-clause-ends
returns-clause-ends c = start_on

pub returns-clause-run : goal.returns-clause-run
returns-clause-run c = ran_on
