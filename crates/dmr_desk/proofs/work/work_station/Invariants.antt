use Rattle.std.proofs.Common.{◌≡◌}
use Rattle.dmr_desk.specs.Crew.{moment_of}
use Rattle.dmr_desk.specs.Work.{IsAtWork}
use Rattle.dmr_desk.proofs.work.work_station.Given as goal

abbrev pub invariant-loop : goal.invariant-loop
invariant-loop g l = record {
  going : IsAtWork (moment_of g.S.Serving g.D.Desk l.initial.station l.initial.desk) (moment_of g.S.Serving g.D.Desk l.station l.desk);
  actor : g.D.Desk.actor l.desk ≡ g.D.Desk.actor l.initial.desk;
}
