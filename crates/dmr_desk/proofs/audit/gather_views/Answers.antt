use Rattle.std.proofs.Common.{◌≡◌, ◌+◌, List, ◌++◌, ◌∷◌, [], sym, ap, ◌∙◌, subst, length, arith}
use Rattle.dmr_link.specs.declared.desk.Deposit.{Deposit}
use Rattle.dmr_desk.specs.Audited.{count_of_deposits}
use Rattle.dmr_desk.proofs.SeatLemmas.{IsGathering, gathering_more, missing, all_counted, all_views_gathered, deposited_more}
use Rattle.dmr_desk.proofs.audit.gather_views.Goals as goal

pub returns-in_default-clause-missing : goal.returns-in_default-clause-missing
returns-in_default-clause-missing g c = missing c.args.seats.items c.loop-actor.seats.items c.loop-actor.views.items c.loop-actor.actor
    c.args.actors c.loop-actor.invariant.gathering (omega arith) c.in_default.ensures.none

pub loop-actor-preserved : goal.loop-actor-preserved
loop-actor-preserved g c =
    let views = c.loop-actor.views.items in
    let seat = c.in-Some.seat in
    let out = c.in-Some.ensures.some in
    let pushed : c.push.new.self.items ≡ views ++ seat.deposits ∷ [] =
    c.push.ensures.items ∙ ap (λ (d : List Deposit). views ++ d ∷ []) (c.new.ensures ∙ c.into_parts-deposits.ensures.deposits) in
    let reported : count_of_deposits c.push.new.self.items ≡ count_of_deposits views + length seat.deposits =
    ap count_of_deposits pushed ∙ deposited_more views seat.deposits in
    let P : List (List Deposit) → Type 0 = λ vs. IsGathering c.args.seats.items c.take_seat.new.seats.items vs (c.loop-actor.actor + 1) in
    record {
      gathering = subst P (sym pushed)
          (gathering_more c.args.seats.items c.loop-actor.seats.items c.take_seat.new.seats.items views c.loop-actor.actor
          seat c.loop-actor.invariant.gathering out.0 out.1);
      parts = omega arith;
      amount = omega arith;
    }

pub returns-clause-views : goal.returns-clause-views
returns-clause-views g c =
    let none = c.in_default-pop.ensures.cases.0 in
    all_views_gathered c.args.seats.items c.loop-actor.seats.items c.loop-actor.views.items c.loop-actor.actor
    c.loop-actor.invariant.gathering (omega arith)

pub returns-clause-counted : goal.returns-clause-counted
returns-clause-counted g c =
    let none = c.in_default-pop.ensures.cases.0 in
    all_counted c.args.seats.items c.loop-actor.seats.items c.loop-actor.views.items c.loop-actor.actor c.loop-actor.invariant.gathering
    (omega arith)
