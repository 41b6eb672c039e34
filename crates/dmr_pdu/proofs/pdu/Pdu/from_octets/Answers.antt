use Rattle.std.proofs.Common.{sym}
use Rattle.dmr_pdu.specs.declared.pdu.Pdu.TheVariants.{Other}
use Rattle.dmr_pdu.proofs.LayoutLemmas.{agrees-laid_out, agrees-same, agrees-other, agrees-other_same}
use Rattle.dmr_pdu.proofs.FunctionLemmas.{pdu_of-only}
use Rattle.dmr_pdu.proofs.pdu.Pdu.from_octets.Goals as goal

pub returns-in-Some-clause-agrees : goal.returns-in-Some-clause-agrees
returns-in-Some-clause-agrees c = agrees-laid_out c.in-Some.pdu c.args.octets.now c.in-Some.ensures.found

pub returns-in-Some-clause-only : goal.returns-in-Some-clause-only
returns-in-Some-clause-only c = λ pdu is. agrees-same c.in-Some.pdu pdu c.args.octets.now c.in-Some.ensures.found is

pub returns-in-None-clause-agrees : goal.returns-in-None-clause-agrees
returns-in-None-clause-agrees c = agrees-other c.args.octets.now (λ pdu is. cc (c.read_pdu.ensures.only pdu is, c.in-None.is))

pub returns-in-None-clause-only : goal.returns-in-None-clause-only
returns-in-None-clause-only c = λ pdu is. agrees-other_same pdu c.args.octets.now
    (λ p p_is. cc (c.read_pdu.ensures.only p p_is, c.in-None.is)) is

pub returns-in-Some-clause-pdu : goal.returns-in-Some-clause-pdu
returns-in-Some-clause-pdu c = sym (pdu_of-only c.in-Some.pdu c.args.octets.now (returns-in-Some-clause-agrees c))

pub returns-in-None-clause-pdu : goal.returns-in-None-clause-pdu
returns-in-None-clause-pdu c = sym (pdu_of-only (Other c.args.octets.now) c.args.octets.now (returns-in-None-clause-agrees c))
