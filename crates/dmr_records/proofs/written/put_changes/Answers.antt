use Rattle.std.proofs.Common.{◌≡◌, ◌∙◌, Err, rules}
use Rattle.dmr_keeper.specs.declared.changes.Change.{Change}
use Rattle.dmr_records.specs.Events.{event_of_change}
use Rattle.dmr_records.specs.Statements.{put_event}
use Rattle.dmr_records.proofs.RanLemmas.{keeps_then, ran_off, ran_on}
use Rattle.dmr_records.proofs.written.put_changes.Goals as goal

pub loop-change-preserved : goal.loop-change-preserved
loop-change-preserved g c = record {
  same = c.put_event.ensures.same_reference ∙ c.loop-change.invariant.same;
  keeps = keeps_then g.S.Store _ _ _ c.loop-change.invariant.keeps c.put_event.ensures.keeps;
  all = ran_on g.S.Store (λ (it : Change). put_event c.args.term (event_of_change it)) c.args.changes.now c.loop-change.change-index
      c.change-item.result _ _ _ c.loop-change-test.true c.change-item.is
      (rw c.event_of_change.ensures at c.in_ok-put_event.ensures.ran) c.loop-change.invariant.all;
}

pub returns-in_err-put_event-clause-ran : goal.returns-in_err-put_event-clause-ran
returns-in_err-put_event-clause-ran g c =
    let is : c.from_residual.result ≡ Err c.in_err-put_event.field-0.0 = search rules in
    rw is (ran_off g.S.Store (λ (it : Change). put_event c.args.term (event_of_change it)) c.args.changes.now c.loop-change.change-index
    c.change-item.result _ _ _ _ c.loop-change-test.true c.change-item.is
    (rw c.event_of_change.ensures at c.in_err-put_event.ensures.ran) c.loop-change.invariant.all)
