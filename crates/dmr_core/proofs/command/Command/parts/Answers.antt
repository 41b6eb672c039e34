use Rattle.std.proofs.Common.{◌≢◌, ℕ, zero, suc, ◌<◌, ◌^◌, refl, sym, subst, arith}
use Rattle.dmr_core.specs.declared.command.Command.{Command}
use Rattle.dmr_core.specs.declared.command.Command.TheVariants.{Drop}
use Rattle.dmr_core.specs.CommandWords.{IsSaid}
use Rattle.dmr_core.proofs.command.Command.parts.Goals as goal

drop_is_said : (radio : ℕ) → radio < 2 ^ 24 → Drop radio ≢ Drop 0 → IsSaid (Drop radio)
drop_is_said zero small other = absurd (other refl)
drop_is_said (suc n) small other = ((omega arith, omega (arith, small)), tt)

pub returns-in-Drop-clause-said : goal.returns-in-Drop-clause-said
returns-in-Drop-clause-said c =
    let small : c.in-Drop.radio < 2 ^ 24 = omega (arith, c.get-in-Drop.ensures.value, c.get-in-Drop.ensures.range) in
    let P : Command → Type 0 = λ d. d ≢ Drop 0 → IsSaid d in
    subst P (sym c.in-Drop.is) (drop_is_said c.in-Drop.radio small)
