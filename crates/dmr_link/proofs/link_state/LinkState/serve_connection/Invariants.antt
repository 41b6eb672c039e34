use Rattle.std.proofs.Common.{◌≡◌, ◌≤◌, []}
use Rattle.dmr_link.specs.Desks.{KeepsDesk}
use Rattle.dmr_link.specs.Happenings.{Outside}
use Rattle.dmr_link.specs.LinkSteps.{moment_of}
use Rattle.dmr_link.specs.Moves.{Moves}
use Rattle.dmr_link.specs.Sessions.{IsQuiet}
use Rattle.dmr_link.proofs.link_state.LinkState.serve_connection.Given as goal

abbrev pub invariant-loop : goal.invariant-loop
invariant-loop g l = record {
  keeps : KeepsDesk g.D.Desk l.initial.desk l.desk;
  moves : Moves (moment_of g.W.Wire g.D.Desk g.G.Gate l.initial.self l.initial.port l.initial.desk l.initial.gate 0 Outside)
      (moment_of g.W.Wire g.D.Desk g.G.Gate l.self l.port l.desk l.gate l.row Outside) l.counter;
  quiet : IsQuiet l.self;
  unread : l.self.unread ≡ [];
  few : l.row ≤ 16;
}
