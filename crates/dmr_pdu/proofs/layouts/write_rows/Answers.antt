use Rattle.std.proofs.Common.{refl}
use Rattle.dmr_pdu.proofs.PackedLemmas.{spelled-octets, spelled-is}
use Rattle.dmr_pdu.proofs.layouts.write_rows.Goals as goal

pub returns-clause-octets : goal.returns-clause-octets
returns-clause-octets c = rw c.to_be_bytes.ensures (spelled-octets c.args.opcode c.args.number c.ranges.opcode.fits)

pub returns-clause-is : goal.returns-clause-is
returns-clause-is c = spelled-is c.args.opcode c.args.number c.ranges.opcode.fits _ (rw c.to_be_bytes.ensures refl)
