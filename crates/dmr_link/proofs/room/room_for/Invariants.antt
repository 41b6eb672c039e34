use Rattle.std.proofs.Common.{◌≡◌, ◌^◌, ◌-◌, ◌+◌, ◌≤◌, min, drop, length}
use Rattle.dmr_link.specs.Room.{most_in}
use Rattle.dmr_link.specs.Steps.{notices_of_octets}
use Rattle.dmr_link.proofs.room.room_for.Given as goal

abbrev pub invariant-loop-from : goal.invariant-loop-from
invariant-loop-from l = record {
  within : l.from ≤ length l.octets;
  room : min (l.room + most_in l.numbered (notices_of_octets l.who l.trial (drop l.from l.octets))) (2 ^ 64 - 1) ≡ min
      (most_in l.initial.numbered (notices_of_octets l.who l.connection l.octets)) (2 ^ 64 - 1);
  fits : l.room ≤ 2 ^ 64 - 1;
}

abbrev pub decreases-loop-from : goal.decreases-loop-from
decreases-loop-from l = length l.octets - l.from
