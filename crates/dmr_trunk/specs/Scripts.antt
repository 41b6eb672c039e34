-- Scripts to which a site is recorded.
use Rattle.std.specs.Prelude.{◌≡◌, ◌<◌, ◌+◌, ℕ, List, [], ◌∷◌, ◌++◌, length, Bool, true, false, ◌⊎◌, Option, None, Some, IfSome, IsSomeAnd, replicate}
use Rattle.dmr_core.specs.declared.event.Event.{Event}
use Rattle.dmr_plan.specs.declared.settings.Settings.{Settings}
use Rattle.dmr_recording.specs.declared.fault.RecordingFault.TheVariants.{OutOfMemory}
use Rattle.dmr_recording.specs.Events.{inputs_of_events}
use Rattle.dmr_recording.specs.Lines.{text_of}
use Rattle.dmr_recording.specs.Recordable.{AreRecordable, IsFirstFault, up_after_all}
use Rattle.dmr_recording.specs.Restored.{session_of}
use Rattle.dmr_trunk.specs.declared.script.RecordingFile.{RecordingFile}
use Rattle.dmr_trunk.specs.declared.script.ScriptFileFault.{ScriptFileFault}
use Rattle.dmr_trunk.specs.declared.script.ScriptFileFault.TheVariants.{Exists, CannotMake, Long}
use Rattle.dmr_trunk.specs.declared.script.ScriptFileFault.TheVariants.{Full, NotWritten, Removed}
use Rattle.dmr_trunk.specs.declared.scripted.RecordingEnd.{RecordingEnd}
use Rattle.dmr_trunk.specs.declared.scripted.RecordingEnd.TheVariants.{NotRecorded, Refused}
use Rattle.dmr_trunk.specs.declared.scripted.SiteRecording.{SiteRecording}

-- between two moments these octets were appended, and no others. So if the script reports at the second moment, it has
-- what it had at the first, and these
pub record Appends (before : Option (List ℕ)) (octets : List ℕ) (after : Option (List ℕ)) : Type 0 where
  pub follows : (whole : List ℕ) → after ≡ Some whole
      → (begun : List ℕ) × (before ≡ Some begun) × (whole ≡ begun ++ octets)

-- a fault of making the file
abbrev pub is_of_making : ScriptFileFault → Bool
is_of_making Exists = true
is_of_making CannotMake = true
is_of_making other = false

-- a fault of the disk, or of a file that was removed
abbrev pub is_of_disk : ScriptFileFault → Bool
is_of_disk Full = true
is_of_disk NotWritten = true
is_of_disk Removed = true
is_of_disk other = false

-- the file of a recording may refuse lines with this fault. The faults of making it come only while it is not open, and
-- `Long` only if it would have more than 1 GiB. Nobody knows before what the disk refuses
abbrev pub MayRefuse : RecordingFile → List ℕ → ScriptFileFault → Type 0
MayRefuse file lines Exists = file.file ≡ None
MayRefuse file lines CannotMake = file.file ≡ None
MayRefuse file lines Long = 1073741824 < file.octets + length lines
MayRefuse file lines other = is_of_disk other ≡ true

-- the events with which a recording begins: the session in which these radios register, if there are any
abbrev pub events_at_start : Settings → List ℕ → List Event
events_at_start plan [] = []
events_at_start plan (radio ∷ radios) = session_of plan (radio ∷ radios)

-- the lines of events
abbrev pub lines_of : Settings → List Event → List ℕ
lines_of plan events = text_of (inputs_of_events plan events)

-- the script refuses lines, and so the recording ends
abbrev pub IsRefusal : (ScriptFileFault → Type 0) → RecordingEnd → Type 0
IsRefusal refuses (NotRecorded fault) = ⊥
IsRefusal refuses (Refused fault) = refuses fault

-- why a recording ends with these events. One of them cannot be recorded, and this is the first; or there is no memory
-- for their lines; or the script refuses the lines
abbrev pub IsEnding : (List ℕ → ScriptFileFault → Type 0) → Settings → List Bool → List Event → RecordingEnd → Type 0
IsEnding refuses plan up events (NotRecorded fault) =
    (fault ≡ OutOfMemory) ⊎ IsFirstFault plan up 0 events fault
IsEnding refuses plan up events (Refused fault) = refuses (lines_of plan events) fault

-- the recording of a plan's site begins, on which these radios are registered. If there are any, the script has the
-- lines of the session in which they register; if it cannot, the recording has ended
pub record BeginsRecording {W R : Type 0} (appended : W → Option (List ℕ))
    (refuses : W → List ℕ → ScriptFileFault → Type 0) (plan : Settings) (radios : List ℕ) (script : W)
    (recording : SiteRecording W R) : Type 0 where
  pub planned : recording.plan ≡ plan
  pub up : recording.up ≡ replicate 16 false
  pub lines : recording.ending ≡ None → Appends (appended script)
      (lines_of plan (events_at_start plan radios)) (appended recording.script)
  pub ending : IfSome recording.ending
      (IsEnding (refuses script) plan (replicate 16 false) (events_at_start plan radios))

-- the same if there is a script; without one nothing is recorded
abbrev pub BeginsIfAsked : {W R : Type 0} → (W → Option (List ℕ))
    → (W → List ℕ → ScriptFileFault → Type 0) → Settings → List ℕ → Option W → Option (SiteRecording W R)
    → Type 0
BeginsIfAsked appended refuses plan radios None recording = recording ≡ None
BeginsIfAsked appended refuses plan radios (Some script) recording =
    IsSomeAnd recording (BeginsRecording appended refuses plan radios script)

-- a recording was given further events. If it goes on, each of them could be recorded, and the lines of all were
-- appended; otherwise nothing was. A recording that ends now has a reason among these events. One that had ended before
-- keeps its reason
pub record HasAppended (before : Option (List ℕ)) (refuses : List ℕ → ScriptFileFault → Type 0)
    (plan : Settings) (up : List Bool) (old : Option RecordingEnd) (events : List Event)
    (after : Option (List ℕ)) (up_then : List Bool) (new : Option RecordingEnd) : Type 0 where
  pub recordable : new ≡ None → AreRecordable plan up events
  pub lines : new ≡ None → Appends before (lines_of plan events) after
  pub carriers : new ≡ None → up_then ≡ up_after_all up events
  pub nothing : IfSome new (λ ending. Appends before [] after)
  pub ending : old ≡ None → IfSome new (IsEnding refuses plan up events)
  pub over : IfSome old (λ ending. new ≡ Some ending)
