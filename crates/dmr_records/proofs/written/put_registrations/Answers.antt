use Rattle.std.proofs.Common.{◌≡◌, ◌∙◌, Err, arith, rules}
use Rattle.dmr_records.proofs.RanLemmas.{keeps_then, placed_off, placed_on}
use Rattle.dmr_records.proofs.written.put_registrations.Goals as goal

pub loop-radio-preserved : goal.loop-radio-preserved
loop-radio-preserved g c = record {
  same = c.put_registration.ensures.same_reference ∙ c.loop-radio.invariant.same;
  keeps = keeps_then g.S.Store _ _ _ c.loop-radio.invariant.keeps c.put_registration.ensures.keeps;
  place = omega arith;
  all = placed_on g.S.Store c.args.radios.now c.loop-radio.radio-index c.loop-radio.place c.radio-item.result _ _ _ c.loop-radio-test.true
      c.radio-item.is c.in_ok-put_registration.ensures.ran c.loop-radio.invariant.all;
}

pub returns-in_err-put_registration-clause-ran : goal.returns-in_err-put_registration-clause-ran
returns-in_err-put_registration-clause-ran g c =
    let is : c.from_residual.result ≡ Err c.in_err-put_registration.field-0.0 = search rules in
    rw is (placed_off g.S.Store c.args.radios.now c.loop-radio.radio-index c.loop-radio.place c.radio-item.result _ _ _ _
    c.loop-radio-test.true c.radio-item.is c.in_err-put_registration.ensures.ran c.loop-radio.invariant.all)
