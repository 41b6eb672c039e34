use Rattle.std.proofs.Common.{◌≡◌, ◌%◌, arith, ap, sym, ◌∙◌, refl, ⊎_elim}
use Rattle.std.proofs.lemmas.Bool.{cases_eq}
use Rattle.dmr_bptc.proofs.equations.all_even.Goals as goal

pub loop-mask-init : goal.loop-mask-init
loop-mask-init c = λ e lt. absurd (omega arith)

pub loop-mask-preserved : goal.loop-mask-preserved
loop-mask-preserved c = λ e lt.
    ⊎_elim
    (λ (here : e ≡ c.loop-mask.mask-index). rw here (ap (λ n. n % 2) (sym c.set_under.ensures) ∙ c.if-set_under-ne0.false))
    (λ (ne : e ≡ c.loop-mask.mask-index → ⊥). c.loop-mask.invariant e (omega arith))
    (cases_eq e c.loop-mask.mask-index)

pub returns : goal.returns
returns c = (λ told e lt. c.loop-mask.invariant e (omega arith), λ even. refl)
