use Rattle.std.proofs.Common.{ℕ, ◌≡◌, arith, subst}
use Rattle.dmr_link.proofs.EngineSessionLemmas.{AreBegun, begun_all}
use Rattle.dmr_link.proofs.engine.states_of.Goals as goal

pub returns : goal.returns
returns c =
    let P : ℕ → Type 0 = λ n. AreBegun c.args.plan.now c.loop-number.states.items n in
    let all : c.loop-number.number ≡ 16 = omega arith in
    let begun = subst P all c.loop-number.invariant.begun in
    (begun_all c.args.plan.now c.loop-number.states.items begun, (begun.none, begun.uncounted))
