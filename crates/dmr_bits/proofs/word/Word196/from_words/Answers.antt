use Rattle.std.proofs.Common.{rules}
use Rattle.dmr_bits.specs.Inverse.{length-bits_of, word_bit-bits_of}
use Rattle.dmr_bits.proofs.word.Word196.from_words.Goals as goal

pub invariant_of-result : goal.invariant_of-result
invariant_of-result c = search rules

pub returns-clause-len : goal.returns-clause-len
returns-clause-len c = length-bits_of c.args.words

pub returns-clause-bits : goal.returns-clause-bits
returns-clause-bits c = word_bit-bits_of c.args.words (invariant_of-result c)
