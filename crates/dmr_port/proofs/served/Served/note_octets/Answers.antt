use Rattle.std.proofs.Common.{ap}
use Rattle.dmr_port.specs.declared.patience.Patience.{Patience}
use Rattle.dmr_port.specs.declared.served.Served.{Served}
use Rattle.dmr_port.proofs.HelloLemmas.{hears_octets}
use Rattle.dmr_port.proofs.served.Served.note_octets.Goals as goal

pub returns-clause-heard : goal.returns-clause-heard
returns-clause-heard c =
    let old : Served = c.args.self.now in
    let asked = c.has_awaited_hello-has_hello in
    let noted = c.note_octets.ensures in
    λ given. hears_octets c.args.octets.now c.args.is_carrier asked.result old _ asked.ensures
    (ap (λ (p : Patience). record old { first = c.add.new.self; patience = p }) noted)
