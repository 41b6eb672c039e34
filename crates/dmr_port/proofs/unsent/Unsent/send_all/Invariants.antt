use Rattle.std.proofs.Common.{◌≡◌, [], true, length}
use Rattle.dmr_port.specs.Sockets.{KeepsNewcomers}
use Rattle.dmr_port.specs.Unsent.{PassesOctets}
use Rattle.dmr_port.proofs.unsent.Unsent.send_all.Given as goal

abbrev pub invariant-loop-self : goal.invariant-loop-self
invariant-loop-self g l = record {
  passes : PassesOctets (g.S.Sockets.state l.initial.sockets).log l.initial.self [] (g.S.Sockets.state l.sockets).log l.self;
  connection : (g.S.Sockets.state l.sockets).is_open ≡ true;
  newcomers : KeepsNewcomers (g.S.Sockets.state l.initial.sockets) (g.S.Sockets.state l.sockets);
}

abbrev pub decreases-loop-self : goal.decreases-loop-self
decreases-loop-self g l = length l.self
