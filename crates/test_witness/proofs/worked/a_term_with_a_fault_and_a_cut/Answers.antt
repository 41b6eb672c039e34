use Rattle.test_witness.proofs.WorkedTerm.{a_term}
use Rattle.test_witness.proofs.worked.a_term_with_a_fault_and_a_cut.Goals as goal

pub returns : goal.returns
returns c = record { term = a_term }
