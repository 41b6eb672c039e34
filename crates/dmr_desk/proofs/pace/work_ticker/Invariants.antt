use Rattle.std.proofs.Common.{◌≡◌}
use Rattle.dmr_desk.specs.Pace.{Ticking}
use Rattle.dmr_desk.proofs.pace.work_ticker.Given as goal

abbrev pub invariant-loop : goal.invariant-loop
invariant-loop g l = record {
  ticking : Ticking (g.T.Pacer.paced l.initial.pacer) (g.D.Desk.calls l.initial.desk) (g.T.Pacer.paced l.pacer) (g.D.Desk.calls l.desk);
  actor : g.D.Desk.actor l.desk ≡ g.D.Desk.actor l.initial.desk;
}
