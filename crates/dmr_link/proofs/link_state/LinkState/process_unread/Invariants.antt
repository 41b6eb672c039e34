use Rattle.std.proofs.Common.{length}
use Rattle.std.specs.Prelude.{Ok}
use Rattle.dmr_link.specs.LinkSteps.{Steps}
use Rattle.dmr_link.specs.Sessions.{IsQuiet}
use Rattle.dmr_link.proofs.link_state.LinkState.process_unread.Given as goal

abbrev pub invariant-loop-self : goal.invariant-loop-self
invariant-loop-self g l = record {
  so_far : Steps {X = Unit {0}} g.W.Wire g.D.Desk g.G.Gate l.initial.self l.initial.port l.initial.desk l.initial.gate
      l.self l.port l.desk l.gate (Ok tt);
  quiet : IsQuiet l.self;
}

abbrev pub decreases-loop-self : goal.decreases-loop-self
decreases-loop-self g l = length l.self.unread
