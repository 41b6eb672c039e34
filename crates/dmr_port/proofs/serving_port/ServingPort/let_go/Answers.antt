use Rattle.std.proofs.Common.{◌≡◌, ◌∙◌, Some, ap, sym}
use Rattle.std.specs.Option.{is_some}
use Rattle.dmr_port.specs.Settings.{is_carrier}
use Rattle.dmr_port.proofs.NewcomersLemmas.{newcomers_kept}
use Rattle.dmr_port.proofs.RecordLemmas.{agrees_let_go}
use Rattle.dmr_port.proofs.serving_port.ServingPort.let_go.Goals as goal

pub invariant_of-self-2 : goal.invariant_of-self-2
invariant_of-self-2 g c =
    let p = c.self.inside in
    let i = c.self.invariant in
    let state = g.S.Sockets.state in
    let served : p.served ≡ Some c.in-Some.served = cc in (
      c.close.ensures.connection ∙ sym (ap is_some c.take.ensures.after),
      newcomers_kept p.settings p.room (state c.send_all.new.sockets) (state c.close.new.self) c.close.ensures.newcomers
          (newcomers_kept p.settings p.room (state p.sockets) (state c.send_all.new.sockets) c.send_all.ensures.newcomers i.1),
      i.2,
      λ none. c.clear.ensures,
      i.4,
      agrees_let_go (is_carrier p.settings.whose) p.served c.take.new.self c.in-Some.served p.unsent c.send_all.new.self c.clear.new.self
          (state p.sockets).log (state c.send_all.new.sockets).log (state c.close.new.self).log (g.W.Witness.reported p.witness)
          served c.take.ensures.after c.clear.ensures c.close.ensures.log c.send_all.ensures.passes i.5,
    )
