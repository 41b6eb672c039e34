use Rattle.std.proofs.Common.{◌≤◌, ◌-◌}
use Rattle.arrayvec.specs.ArrayVec.{array_vec_len}
use Rattle.dmr_port.specs.Newcomers.{HasNewcomersOf}
use Rattle.dmr_port.specs.Sockets.{KeepsConnection}
use Rattle.dmr_port.proofs.newcomers.look_at_all.Given as goal

abbrev pub invariant-loop-place : goal.invariant-loop-place
invariant-loop-place g l = record {
  room : HasNewcomersOf l.settings l.room (g.S.Sockets.state l.sockets);
  few : array_vec_len l.room.newcomers ≤ array_vec_len l.initial.room.newcomers;
  connection : KeepsConnection (g.S.Sockets.state l.initial.sockets) (g.S.Sockets.state l.sockets);
}

abbrev pub decreases-loop-place : goal.decreases-loop-place
decreases-loop-place g l = array_vec_len l.room.newcomers - l.place
