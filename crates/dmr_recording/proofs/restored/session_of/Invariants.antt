use Rattle.std.proofs.Common.{◌≡◌, ◌∷◌, take, flat_map}
use Rattle.dmr_core.specs.declared.event.Event.TheVariants.{Up}
use Rattle.dmr_recording.specs.Events.{events_of}
use Rattle.dmr_recording.specs.Restored.{registers}
use Rattle.dmr_recording.proofs.restored.session_of.Given as goal

abbrev pub invariant-loop-radio : goal.invariant-loop-radio
invariant-loop-radio l = events_of l.journal.items ≡ Up l.plan.lists.control ∷ flat_map (registers l.plan) (take l.radio-index l.radios)
