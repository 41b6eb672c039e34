use Rattle.std.proofs.Common.{◌≡◌, ◌*◌}
use Rattle.dmr_bits.specs.Bits.{octet_bit}
use Rattle.dmr_bptc.specs.Groups.{added, number_of_bit}
use Rattle.dmr_bptc.proofs.table.GroupTable.sum_of.Given as goal

abbrev pub invariant-loop-k : goal.invariant-loop-k
invariant-loop-k g l = record {
  first : l.first ≡ added (octet_bit l.octets) (number_of_bit l.self.entries 0) (8 * l.k);
  second : l.second ≡ added (octet_bit l.octets) (number_of_bit l.self.entries 1) (8 * l.k);
  third : l.third ≡ added (octet_bit l.octets) (number_of_bit l.self.entries 2) (8 * l.k);
  fourth : l.fourth ≡ added (octet_bit l.octets) (number_of_bit l.self.entries 3) (8 * l.k);
}
