use Rattle.std.proofs.Common.{◌∙◌, arith}
use Rattle.dmr_bits.specs.Packed.{places_apart}
use Rattle.dmr_bits.proofs.PackedLemmas.{places_apart-is, few_apart}
use Rattle.dmr_bits.proofs.word.Word196.places_apart.Goals as goal

pub overflow_add-result : goal.overflow_add-result
overflow_add-result c = omega (arith, few_apart c.self.inside.words c.other.inside.words c.self.invariant c.other.invariant)

pub overflow_add-result-2 : goal.overflow_add-result-2
overflow_add-result-2 c = omega (arith, few_apart c.self.inside.words c.other.inside.words c.self.invariant c.other.invariant)

pub overflow_add-result-3 : goal.overflow_add-result-3
overflow_add-result-3 c = omega (arith, few_apart c.self.inside.words c.other.inside.words c.self.invariant c.other.invariant)

pub returns : goal.returns
returns c = places_apart-is c.self.inside.words c.other.inside.words c.self.invariant c.other.invariant
    ∙ (λ i. places_apart (c.self.view_is i) (c.other.view_is i))
