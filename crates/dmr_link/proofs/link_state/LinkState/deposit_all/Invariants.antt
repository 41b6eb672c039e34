use Rattle.std.proofs.Common.{◌≡◌}
use Rattle.std.specs.Prelude.{Ok}
use Rattle.dmr_link.specs.LinkSteps.{Steps, pending_weight}
use Rattle.dmr_link.proofs.link_state.LinkState.deposit_all.Given as goal

abbrev pub invariant-loop-notice : goal.invariant-loop-notice
invariant-loop-notice g l = record {
  so_far : Steps {X = Unit {0}} g.W.Wire g.D.Desk g.G.Gate l.initial.self l.initial.port l.initial.desk l.initial.gate
      l.self l.port l.desk l.gate (Ok tt);
  unread : l.self.unread ≡ l.initial.self.unread;
}

abbrev pub decreases-loop-notice : goal.decreases-loop-notice
decreases-loop-notice g l = pending_weight l.self.pending
