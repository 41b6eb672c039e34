use Rattle.std.proofs.Common.{rules, sym}
use Rattle.dmr_pdu.proofs.PackedLemmas.{octet-field}
use Rattle.dmr_pdu.proofs.layouts.opcode_of.Goals as goal

pub returns : goal.returns
returns c = sym (octet-field c.args.octets.now 0 (search rules))
