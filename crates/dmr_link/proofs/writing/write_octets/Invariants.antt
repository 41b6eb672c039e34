use Rattle.std.proofs.Common.{◌≡◌, ◌≤◌, ◌+◌, ◌*◌, ◌-◌, take, length}
use Rattle.dmr_link.specs.Moves.{Writing}
use Rattle.dmr_link.proofs.writing.write_octets.Given as goal

abbrev pub invariant-loop-from : goal.invariant-loop-from
invariant-loop-from g l = record {
  putting : Writing (g.W.Wire.reported l.initial.port) (take l.from l.octets) l.row (g.W.Wire.reported l.port);
  within : l.from ≤ length l.octets;
  patient : l.row ≤ 16;
  whole : length l.octets ≤ l.from → l.row ≡ 0;
}

abbrev pub decreases-loop-from : goal.decreases-loop-from
decreases-loop-from g l = (length l.octets - l.from) * 17 + (16 - l.row)
