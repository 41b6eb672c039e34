use Rattle.std.proofs.Common.{refl}
use Rattle.std.specs.Prelude.{option_map}
use Rattle.dmr_wire.specs.Answers.{NotYet}
use Rattle.dmr_port.specs.PortState.{connection_of, first_if_served}
use Rattle.dmr_port.specs.Settings.{is_carrier}
use Rattle.dmr_port.proofs.RecordLemmas.{agrees_quiet}
use Rattle.dmr_port.proofs.serving_port.ServingPort.answer_not_yet.Goals as goal

pub invariant_of-self : goal.invariant_of-self
invariant_of-self g c =
    let p = c.self.inside in
    let i = c.self.invariant in (
      i.0,
      i.1,
      i.2,
      i.3,
      i.4,
      agrees_quiet (is_carrier p.settings.whose) (first_if_served (option_map connection_of p.served)) p.unsent
          (g.S.Sockets.state p.sockets).log
          (g.W.Witness.reported p.witness) (g.W.Witness.reported c.see.new.self) NotYet (λ traffic. refl) c.see.ensures i.5,
    )
