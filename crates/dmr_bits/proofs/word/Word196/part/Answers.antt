use Rattle.std.proofs.Common.{◌*◌, ◌∙◌, ap, sym, length}
use Rattle.dmr_bits.specs.Bits.{bits_value}
use Rattle.dmr_bits.specs.Words.{word_bit}
use Rattle.dmr_bits.specs.Inverse.{length-bits_of}
use Rattle.dmr_bits.proofs.PackedLemmas.{part_of_words}
use Rattle.dmr_bits.proofs.word.Word196.part.Goals as goal

pub returns-clause-is : goal.returns-clause-is
returns-clause-is c =
    part_of_words c.self.inside.words c.self.invariant c.args.k ∙ ap (λ word. bits_value (word_bit word) (64 * c.args.k) 64) c.self.view_is

pub returns-clause-len : goal.returns-clause-len
returns-clause-len c = ap length (sym c.self.view_is) ∙ length-bits_of c.self.inside.words
