-- Recordings that are being written: definitions for private functions. No public contract depends on them.
use Rattle.std.specs.Prelude.{ℕ, List, ◌++◌, string_bytes}
use Rattle.dmr_plan.specs.declared.settings.Settings.{Settings}
use Rattle.dmr_core.specs.declared.event.Event.{Event}
use Rattle.dmr_recording.specs.declared.recording.Draft.{Draft}
use Rattle.dmr_recording.specs.Events.{inputs_after_ticks}
use Rattle.dmr_recording.specs.Lines.{text_of}

-- what is written, and the lines of the ticks that have none yet and of further events
abbrev pub whole : Settings → Draft → List Event → List ℕ
whole plan draft more =
    string_bytes draft.text ++ text_of (inputs_after_ticks plan draft.ticks more)
