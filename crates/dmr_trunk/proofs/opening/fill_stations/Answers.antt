use Rattle.std.proofs.Common.{◌≡◌, ℕ, ◌+◌, List, arith, add-one, zero-add, ap, sym, ◌∙◌, subst}
use Rattle.dmr_desk.specs.Refusing.{numbers_from}
use Rattle.dmr_trunk.specs.Opened.{AreNewStations, with_number}
use Rattle.dmr_trunk.proofs.OpenedLemmas.{numbers_on}
use Rattle.dmr_trunk.proofs.opening.fill_stations.Goals as goal

pub loop-number-preserved : goal.loop-number-preserved
loop-number-preserved g c =
    let plan = c.args.plan.now in
    let n = c.loop-number.number in
    let made : c.new.result ≡ n = c.new.ensures in
    let next : with_number plan (numbers_from plan n 0) c.new.result ≡ numbers_from plan (n + 1) 0 = ap
    (with_number plan (numbers_from plan n 0)) (made ∙ sym (zero-add n))
    ∙ sym (ap (λ (m : ℕ). numbers_from plan m 0) (add-one n) ∙ numbers_on plan n 0) in
    let P : List ℕ → Type 0 = λ numbers. AreNewStations plan numbers c.open_next.new.stations.items in
    subst P next (c.in_ok-open_next.ensures (numbers_from plan n 0) c.loop-number.invariant)

pub returns : goal.returns
returns g c =
    let plan = c.args.plan.now in
    let all : c.loop-number.number ≡ 16 = omega arith in
    let P : ℕ → Type 0 = λ m. AreNewStations plan (numbers_from plan m 0) c.loop-number.stations.items in
    subst P all c.loop-number.invariant
