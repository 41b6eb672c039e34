use Rattle.std.proofs.Common.{◌≡◌, ◌≤◌, take}
use Rattle.dmr_link.specs.Zeros.{zeros_in}
use Rattle.dmr_link.proofs.room.zeros.Given as goal

abbrev pub invariant-loop-octet : goal.invariant-loop-octet
invariant-loop-octet l = record {
  count : l.count ≡ zeros_in (take l.octet-index l.octets);
  few : l.count ≤ l.octet-index;
}
