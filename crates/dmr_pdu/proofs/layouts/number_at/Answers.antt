use Rattle.std.proofs.Common.{ℕ, ◌-◌, ◌/◌, ◌%◌, ◌^◌, bit_and, arith, ap, ◌∙◌}
use Rattle.std.proofs.lemmas.Nat.{and_mask, one_shl}
use Rattle.dmr_bits.specs.Bits.{octet_bit}
use Rattle.dmr_bits.proofs.Laws.{bits_value-field}
use Rattle.dmr_pdu.proofs.layouts.number_at.Goals as goal

pub returns-clause-value : goal.returns-clause-value
returns-clause-value c =
    let shift : ℕ = 80 - c.args.place.first - c.args.place.width in
    ap (λ m. bit_and (c.rows_of.result / 2 ^ shift) (m - 1)) (one_shl c.args.place.width 64 (omega arith))
    ∙ and_mask (c.rows_of.result / 2 ^ shift) c.args.place.width
    ∙ ap (λ n. n / 2 ^ shift % 2 ^ c.args.place.width) c.rows_of.ensures
    ∙ bits_value-field (octet_bit c.args.octets.now) 16 64 c.args.place.first c.args.place.width shift (omega arith) (omega arith)
