use Rattle.std.proofs.Common.{◌≡◌, ◌≤◌, drop}
use Rattle.dmr_recording.specs.declared.fault.RecordingFault.{RecordingFault}
use Rattle.dmr_recording.specs.Drafts.{whole}
use Rattle.dmr_recording.specs.Events.{events_of, inputs_of_events}
use Rattle.dmr_recording.specs.Lines.{text_of}
use Rattle.dmr_recording.specs.Recordable.{AreRecordable, IsFirstFault, up_after_all}
use Rattle.dmr_recording.proofs.recording.draft_of.Given as goal

abbrev pub invariant-loop-place : goal.invariant-loop-place
invariant-loop-place l =
    (l.draft.ticks ≤ 100000)
    × (whole l.plan l.draft (drop l.place (events_of l.journal)) ≡ text_of (inputs_of_events l.plan (events_of l.journal)))
    × (up_after_all l.draft.up (drop l.place (events_of l.journal)) ≡ up_after_all l.up (events_of l.journal))
    × (AreRecordable l.plan l.draft.up (drop l.place (events_of l.journal)) → AreRecordable l.plan l.up (events_of l.journal))
    × ((fault : RecordingFault) → IsFirstFault l.plan l.draft.up l.place (drop l.place (events_of l.journal)) fault →
    IsFirstFault l.plan l.up 0 (events_of l.journal) fault)
