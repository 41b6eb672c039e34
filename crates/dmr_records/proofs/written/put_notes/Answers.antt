use Rattle.std.proofs.Common.{◌≡◌, ◌∙◌, Err, rules}
use Rattle.dmr_keeper.specs.declared.notes.TimedOccurrence.{TimedOccurrence}
use Rattle.dmr_records.specs.Events.{event_of_note}
use Rattle.dmr_records.specs.Statements.{put_event}
use Rattle.dmr_records.proofs.RanLemmas.{keeps_then, ran_off, ran_on}
use Rattle.dmr_records.proofs.written.put_notes.Goals as goal

pub loop-note-preserved : goal.loop-note-preserved
loop-note-preserved g c = record {
  same = c.put_event.ensures.same_reference ∙ c.loop-note.invariant.same;
  keeps = keeps_then g.S.Store _ _ _ c.loop-note.invariant.keeps c.put_event.ensures.keeps;
  all = ran_on g.S.Store (λ (it : TimedOccurrence). put_event c.args.term (event_of_note it)) c.args.notes.now c.loop-note.note-index
      c.note-item.result _ _ _ c.loop-note-test.true c.note-item.is (rw c.event_of_note.ensures at c.in_ok-put_event.ensures.ran)
      c.loop-note.invariant.all;
}

pub returns-in_err-put_event-clause-ran : goal.returns-in_err-put_event-clause-ran
returns-in_err-put_event-clause-ran g c =
    let is : c.from_residual.result ≡ Err c.in_err-put_event.field-0.0 = search rules in
    rw is (ran_off g.S.Store (λ (it : TimedOccurrence). put_event c.args.term (event_of_note it)) c.args.notes.now c.loop-note.note-index
    c.note-item.result _ _ _ _ c.loop-note-test.true c.note-item.is
    (rw c.event_of_note.ensures at c.in_err-put_event.ensures.ran) c.loop-note.invariant.all)
