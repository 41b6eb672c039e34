use Rattle.std.proofs.Common.{◌≡◌, ◌∙◌, Err, rules}
use Rattle.dmr_records.specs.Statements.{put_carrier}
use Rattle.dmr_records.proofs.RanLemmas.{keeps_then, ran_off, ran_on}
use Rattle.dmr_records.proofs.written.put_carriers.Goals as goal

pub loop-counts-preserved : goal.loop-counts-preserved
loop-counts-preserved g c = record {
  same = c.put_carrier.ensures.same_reference ∙ c.loop-counts.invariant.same;
  keeps = keeps_then g.S.Store _ _ _ c.loop-counts.invariant.keeps c.put_carrier.ensures.keeps;
  all = ran_on g.S.Store (put_carrier c.args.term) c.args.carriers.now c.loop-counts.counts-index c.counts-item.result _ _ _
      c.loop-counts-test.true c.counts-item.is c.in_ok-put_carrier.ensures.ran c.loop-counts.invariant.all;
}

pub returns-in_err-put_carrier-clause-ran : goal.returns-in_err-put_carrier-clause-ran
returns-in_err-put_carrier-clause-ran g c =
    let is : c.from_residual.result ≡ Err c.in_err-put_carrier.field-0.0 = search rules in
    rw is (ran_off g.S.Store (put_carrier c.args.term) c.args.carriers.now c.loop-counts.counts-index c.counts-item.result _ _ _ _
    c.loop-counts-test.true c.counts-item.is c.in_err-put_carrier.ensures.ran c.loop-counts.invariant.all)
