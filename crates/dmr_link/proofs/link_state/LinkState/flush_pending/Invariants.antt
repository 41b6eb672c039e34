use Rattle.std.proofs.Common.{◌≡◌, true, List, Option}
use Rattle.dmr_wire.specs.Answers.{Answer}
use Rattle.dmr_link.specs.Desks.{KeepsDesk}
use Rattle.dmr_link.specs.Happenings.{Disordered}
use Rattle.dmr_link.specs.LinkSteps.{pending_weight}
use Rattle.dmr_link.specs.Moves.{Moves, moment}
use Rattle.dmr_link.specs.Passages.{Passage}
use Rattle.dmr_link.specs.Sessions.{sides}
use Rattle.dmr_link.proofs.link_state.LinkState.flush_pending.Given as goal

abbrev pub invariant-loop-notice : goal.invariant-loop-notice
invariant-loop-notice g l = record {
  keeps : KeepsDesk g.D.Desk l.initial.desk l.desk;
  moves : (reported : Option (List Answer)) (passed : Option (List Passage)) →
      Moves (moment l.initial.self (sides reported (g.D.Desk.calls l.initial.desk) passed) 0 Disordered)
      (moment l.self (sides reported (g.D.Desk.calls l.desk) passed) 0 Disordered) 0;
  cut : l.self.is_cut ≡ true;
  connection : l.self.connection ≡ l.initial.self.connection;
  closing : l.self.closing ≡ l.initial.self.closing;
}

abbrev pub decreases-loop-notice : goal.decreases-loop-notice
decreases-loop-notice g l = pending_weight l.self.pending
