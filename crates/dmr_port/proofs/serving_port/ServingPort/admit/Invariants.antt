use Rattle.dmr_port.specs.PortState.{IsLater}
use Rattle.dmr_port.proofs.serving_port.ServingPort.admit.Given as goal

abbrev pub invariant-loop : goal.invariant-loop
invariant-loop g l =
    IsLater (record l.initial.self { waiting = l.self.waiting; shown = l.self.shown }) l.self
