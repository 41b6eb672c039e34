use Rattle.dmr_desk.proofs.TickerLemmas.{one_tick}
use Rattle.dmr_desk.proofs.pace.tick_once.Goals as goal

pub returns-in-Ok-clause-ticks : goal.returns-in-Ok-clause-ticks
returns-in-Ok-clause-ticks g c = λ before calls b.
    one_tick before (g.T.Pacer.paced c.args.pacer.now) (g.T.Pacer.paced c.next.new.self) calls (g.D.Desk.calls c.args.desk.now)
    (g.D.Desk.calls c.over.new.self) (g.D.Desk.calls c.deposit.new.self)
    c.in-Ok.field-0 b c.in-Tick.ensures c.over.ensures.calls c.in-Ok.ensures.ok
