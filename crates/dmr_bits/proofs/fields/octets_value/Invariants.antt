use Rattle.std.proofs.Common.{◌≡◌, ◌*◌}
use Rattle.dmr_bits.specs.Bits.{field_of}
use Rattle.dmr_bits.proofs.fields.octets_value.Given as goal

abbrev pub invariant-loop-octet : goal.invariant-loop-octet
invariant-loop-octet l = l.number ≡ field_of l.octets 0 (8 * l.octet-index)
