use Rattle.std.proofs.Common.{◌≡◌, ◌+◌, Bool, List, ◌∷◌, drop, sym, ap, ◌∙◌, subst, inr, arith}
use Rattle.dmr_core.specs.declared.event.Event.{Event}
use Rattle.dmr_recording.specs.Drafts.{whole}
use Rattle.dmr_recording.specs.Events.{events_of}
use Rattle.dmr_recording.specs.Recordable.{AreRecordable, IsFirstFault, up_after_all}
use Rattle.dmr_recording.proofs.JournalLemmas.{event_at, first_fault}
use Rattle.dmr_recording.proofs.recording.draft_of.Goals as goal

pub returns-in-Err-clause-fault : goal.returns-in-Err-clause-fault
returns-in-Err-clause-fault c =
    let events = events_of c.args.journal.now in
    let k = c.loop-place.place in
    let entry = c.index-journal-place.result in
    let here = event_at c.args.journal.now k entry (omega arith) c.index-journal-place.is in
    first_fault c.args.plan.now c.args.up.now c.loop-place.draft.up k entry.event (drop k events)
    (drop (k + 1) events) events c.in-Err.fault here c.loop-place.invariant.4 c.in-Err.ensures.fault

pub loop-place-preserved : goal.loop-place-preserved
loop-place-preserved c =
    let events = events_of c.args.journal.now in
    let plan = c.args.plan.now in
    let k = c.loop-place.place in
    let entry = c.index-journal-place.result in
    let rest = drop (k + 1) events in
    let old = c.loop-place.draft in
    let here : drop k events ≡ entry.event ∷ rest = event_at c.args.journal.now k entry (omega arith) c.index-journal-place.is in
    let before = c.loop-place.invariant in
    let did = c.in-Ok.ensures in (
      c.add_event.ensures.ticks,
      did.lines rest ∙ ap (whole plan old) (sym here) ∙ before.1,
      ap (λ (up : List Bool). up_after_all up rest) did.up ∙ ap (up_after_all old.up) (sym here) ∙ before.2,
      λ are. before.3 (subst (AreRecordable plan old.up) (sym here)
          (did.recordable, subst (λ (up : List Bool). AreRecordable plan up rest) did.up are)),
      λ fault is. before.4 fault (subst (λ (es : List Event). IsFirstFault plan old.up k es fault) (sym here)
          (inr (did.recordable, subst (λ (up : List Bool). IsFirstFault plan up (k + 1) rest fault) did.up is))),
    )
