use Rattle.dmr_trunk.specs.Served.{HasLeft}
use Rattle.dmr_trunk.proofs.PlanLemmas.{ok_and}
use Rattle.dmr_trunk.proofs.serve.serve_opened.Goals as goal

pub returns-in-Ok : goal.returns-in-Ok
returns-in-Ok g c =
    ok_and (λ r. HasLeft g.P.Wire.reported g.G.Gate.passed g.T.Pacer.paced g.C.Wire.reported g.O.Observer.seen g.K.Keeper.kept
    g.K.Keeper.refuses c.args.service r.1 r.0 c.args.terms c.end_service.result) c.args.rest
    (c.in-Ok.books, c.in-Ok.observer) c.in-Ok.is
    (record {
      ran = c.serve_service-ran.result;
      served = c.serve_service-ran.ensures;
      keeping = c.end_service.ensures.keeping;
      ended = c.end_service.ensures.ended;
    })
