use Rattle.std.proofs.Common.{◌∙◌, ap, arith}
use Rattle.std.specs.Int.{w64, from_be_bytes}
use Rattle.dmr_bits.proofs.NumberLemmas.{number-of_octets}
use Rattle.dmr_bits.proofs.word.number_of.Goals as goal

pub returns : goal.returns
returns c =
    c.from_be_bytes.ensures
    ∙ ap (from_be_bytes w64) c.copy_from_slice.ensures.after
    ∙ number-of_octets c.args.octets.now (λ k. omega (arith, c.type_inv.octets k))
