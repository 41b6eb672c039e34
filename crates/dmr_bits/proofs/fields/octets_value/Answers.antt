use Rattle.std.proofs.Common.{◌≡◌, ◌<◌, ◌*◌, ◌^◌, get_or, arith, sym}
use Rattle.dmr_bits.specs.Bits.{octet_bit, bits_value}
use Rattle.dmr_bits.proofs.BitLemmas.{bits_value-zero, bits_value-octet_more, bits_value-below_word}
use Rattle.dmr_bits.proofs.fields.octets_value.Goals as goal

pub loop-octet-init : goal.loop-octet-init
loop-octet-init c = sym (bits_value-zero (octet_bit c.args.octets.now) 0)

pub overflow_mul-number : goal.overflow_mul-number
overflow_mul-number c =
    let below : bits_value (octet_bit c.args.octets.now) 0 (8 * c.loop-octet.octet-index) < 2 ^ 56 =
    bits_value-below_word (octet_bit c.args.octets.now) 0 (8 * c.loop-octet.octet-index) (omega arith) in
    omega (arith, below, c.loop-octet.invariant)

pub overflow_add-number : goal.overflow_add-number
overflow_add-number c =
    let below : bits_value (octet_bit c.args.octets.now) 0 (8 * c.loop-octet.octet-index) < 2 ^ 56 =
    bits_value-below_word (octet_bit c.args.octets.now) 0 (8 * c.loop-octet.octet-index) (omega arith) in
    omega (arith, below, c.loop-octet.invariant)

pub loop-octet-preserved : goal.loop-octet-preserved
loop-octet-preserved c =
    let old : c.loop-octet.number ≡ bits_value (octet_bit c.args.octets.now) 0 (8 * c.loop-octet.octet-index) = c.loop-octet.invariant in
    let read : c.from.result ≡ get_or c.args.octets.now c.loop-octet.octet-index 0 = c.from.ensures in
    omega (arith, old, read, bits_value-octet_more c.args.octets.now c.loop-octet.octet-index (omega arith))
