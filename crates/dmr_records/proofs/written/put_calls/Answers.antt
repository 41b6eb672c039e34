use Rattle.std.proofs.Common.{◌≡◌, ◌∙◌, Err, rules}
use Rattle.dmr_records.specs.Statements.{put_call}
use Rattle.dmr_records.proofs.RanLemmas.{keeps_then, ran_off, ran_on}
use Rattle.dmr_records.proofs.written.put_calls.Goals as goal

pub loop-call-preserved : goal.loop-call-preserved
loop-call-preserved g c = record {
  same = c.put_call.ensures.same_reference ∙ c.loop-call.invariant.same;
  keeps = keeps_then g.S.Store _ _ _ c.loop-call.invariant.keeps c.put_call.ensures.keeps;
  all = ran_on g.S.Store (put_call c.args.term) c.args.calls.now c.loop-call.call-index c.call-item.result _ _ _ c.loop-call-test.true
      c.call-item.is c.in_ok-put_call.ensures.ran c.loop-call.invariant.all;
}

pub returns-in_err-put_call-clause-ran : goal.returns-in_err-put_call-clause-ran
returns-in_err-put_call-clause-ran g c =
    let is : c.from_residual.result ≡ Err c.in_err-put_call.field-0.0 = search rules in
    rw is (ran_off g.S.Store (put_call c.args.term) c.args.calls.now c.loop-call.call-index c.call-item.result _ _ _ _ c.loop-call-test.true
    c.call-item.is c.in_err-put_call.ensures.ran c.loop-call.invariant.all)
