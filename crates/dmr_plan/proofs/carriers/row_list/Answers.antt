use Rattle.std.proofs.Common.{arith, ap, length, length-append}
use Rattle.std.proofs.lemmas.List.Elements.{All-push}
use Rattle.dmr_plan.specs.Kept.{IsCarrierRow}
use Rattle.dmr_plan.specs.Carriers.{carrier_of_item}
use Rattle.dmr_plan.proofs.Apart.{AreApart-grown}
use Rattle.dmr_plan.proofs.Turns.{in_turn-step}
use Rattle.dmr_plan.proofs.carriers.row_list.Goals as goal

pub loop-value-preserved : goal.loop-value-preserved
loop-value-preserved c =
    let old = c.loop-value.invariant in
    let row = c.in_ok-row.row in
    let new = c.in_ok-row.ensures.apart in
    let more = c.push.ensures in
    record {
      count = omega (arith, simp length-append at (ap length more), old.count);
      each = rw more (All-push IsCarrierRow _ row old.each new.limits);
      apart = AreApart-grown c.args.console_port _ _ _ row c.as_slice.ensures.value more old.apart new;
      same = in_turn-step (carrier_of_item c.args.console_port) _ _ _ row _ _ _ _ c.as_slice.ensures.value more c.loop-value-test.true
          c.value-item.is c.in_ok-row.ensures.gives old.same;
    }
