use Rattle.std.proofs.Common.{◌≡◌, ◌≤◌}
use Rattle.test_peers.proofs.ports.sockets.MemorySockets.apply_due.Given as goal

abbrev pub invariant-loop : goal.invariant-loop
invariant-loop l = record {
  seen : l.self.seen ≡ record l.initial.self.seen { clock = l.self.seen.clock };
  clock : l.initial.self.seen.clock ≤ l.self.seen.clock;
}
