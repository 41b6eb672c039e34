use Rattle.std.proofs.Common.{sym}
use Rattle.dmr_pdu.proofs.LayoutLemmas.{spells_alone}
use Rattle.dmr_pdu.proofs.FunctionLemmas.{octets_of-spells}
use Rattle.dmr_pdu.proofs.pdu.Pdu.to_octets.Goals as goal

pub returns-clause-alone : goal.returns-clause-alone
returns-clause-alone c = λ octets is_octets spells. spells_alone c.args.self.now octets c.write_pdu.result is_octets
    c.write_pdu.ensures.octets spells c.write_pdu.ensures.is

pub returns-clause-written : goal.returns-clause-written
returns-clause-written c = sym (octets_of-spells c.args.self.now c.write_pdu.result c.write_pdu.ensures.octets c.write_pdu.ensures.is)
