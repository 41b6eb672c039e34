use Rattle.std.proofs.Common.{◌∙◌, arith, ap}
use Rattle.dmr_bits.specs.Packed.{set_under}
use Rattle.dmr_bits.proofs.PackedLemmas.{set_under-is, few_in_both}
use Rattle.dmr_bits.proofs.word.Word196.set_under.Goals as goal

pub overflow_add-result : goal.overflow_add-result
overflow_add-result c = omega (arith, few_in_both c.self.inside.words c.args.mask.now c.self.invariant)

pub overflow_add-result-2 : goal.overflow_add-result-2
overflow_add-result-2 c = omega (arith, few_in_both c.self.inside.words c.args.mask.now c.self.invariant)

pub overflow_add-result-3 : goal.overflow_add-result-3
overflow_add-result-3 c = omega (arith, few_in_both c.self.inside.words c.args.mask.now c.self.invariant)

pub returns : goal.returns
returns c = set_under-is c.self.inside.words c.args.mask.now c.self.invariant ∙ ap (λ word. set_under word c.args.mask.now) c.self.view_is
