use Rattle.dmr_port.proofs.NewcomersLemmas.{claimed}
use Rattle.dmr_port.proofs.serving_port.ServingPort.is_claimed.Goals as goal

pub returns : goal.returns
returns g c =
    let p = c.self.inside in
    let i = c.self.invariant in
    rw (← c.self.view_is)
    (claimed p.settings p.room.newcomers.items (g.S.Sockets.state p.sockets).shown c.place_of_claimant.result c.is_some.result i.1.known
    c.place_of_claimant.ensures.claimant c.is_some.ensures)
