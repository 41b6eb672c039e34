use Rattle.std.proofs.Common.{sym, subst}
use Rattle.dmr_pdu.specs.declared.pdu.Pdu.{Pdu}
use Rattle.dmr_pdu.specs.Layout.{Agrees}
use Rattle.dmr_pdu.proofs.LayoutLemmas.{spells-agrees}
use Rattle.dmr_pdu.proofs.FunctionLemmas.{octets_of-spells, pdu_of-agrees, pdu_of-only}
use Rattle.dmr_pdu.proofs.law.octets_mean_one_pdu.Goals as goal

pub returns-clause-written : goal.returns-clause-written
returns-clause-written c = octets_of-spells

pub returns-clause-agrees : goal.returns-clause-agrees
returns-clause-agrees c = λ octets pdu. (
  λ is. sym (pdu_of-only pdu octets is),
  λ same. subst (λ (p : Pdu). Agrees p octets) (sym same) (pdu_of-agrees octets),
)

pub returns-clause-back : goal.returns-clause-back
returns-clause-back c = spells-agrees
