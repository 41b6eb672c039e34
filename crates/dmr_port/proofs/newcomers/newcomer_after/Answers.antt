use Rattle.std.proofs.Common.{refl}
use Rattle.dmr_port.proofs.newcomers.newcomer_after.Goals as goal

pub returns-in-Octets : goal.returns-in-Octets
returns-in-Octets c = rw c.in-Octets.is (refl, c.is_claim.ensures)
