-- A recording: lines of a script whose inputs mean these events.
use Rattle.std.specs.Prelude.{◌≡◌, ℕ, Bool, true, false, List, [], ◌++◌, Some, None, map, Ok}
use Rattle.dmr_plan.specs.declared.settings.Settings.{Settings}
use Rattle.dmr_console.specs.Lines.{open_in}
use Rattle.dmr_core.specs.declared.event.Event.{Event}
use Rattle.dmr_frames.specs.declared.version.FrameTable.TheVariants.{Later}
use Rattle.dmr_frames.specs.declared.version.Version.TheVariants.{V1}
use Rattle.dmr_frames.specs.Rest.{Open}
use Rattle.dmr_link.specs.declared.connection.CarrierIdentity.{CarrierIdentity}
use Rattle.dmr_link.specs.declared.connection.Connection.{Connection}
use Rattle.dmr_link.specs.declared.connection.Connection.TheVariants.{Running}
use Rattle.dmr_link.specs.CarrierStates.{up_by}
use Rattle.dmr_link.specs.Identities.{who_of}
use Rattle.dmr_link.specs.Records.{Past, left_by_records, all_mean, all_past}
use Rattle.dmr_replay.specs.Script.{RepeatedInput, inputs_of_script, script_of}
use Rattle.dmr_recording.specs.Events.{notice_of_event}
use Rattle.dmr_recording.specs.Lines.{text_of}
use Rattle.dmr_recording.specs.Recordable.{is_up}

-- the connection of a carrier that is up in version 1, with no octets of a frame
abbrev pub quiet_connection : Connection
quiet_connection = Running (Open (Later V1) []) None

-- the connection of a carrier that is up, or of one that is not
abbrev pub IsConnectionOf : CarrierIdentity → Bool → Connection → Type 0
IsConnectionOf who true connection = connection ≡ quiet_connection
IsConnectionOf who false connection = up_by who connection ≡ None

-- of the plan's carriers exactly these are up, each in version 1 and between two frames, and no operator's line is open
pub record Matches (plan : Settings) (up : List Bool) (past : Past) : Type 0 where
  pub carriers : (carrier : ℕ) (who : CarrierIdentity) → who_of plan carrier ≡ Some who
      → IsConnectionOf who (is_up up carrier) (left_by_records who (past.carriers carrier))
  pub console : open_in past.console ≡ []

-- while the carriers in `up` are up, the lines of these inputs are a script, also before another script. The inputs
-- mean exactly the events, and the carriers in `later` are up after them
pub record Records (plan : Settings) (up later : List Bool) (events : List Event)
    (given : List RepeatedInput) : Type 0 where
  pub script : (more : List ℕ) (after : List RepeatedInput) → script_of more ≡ Ok after
      → script_of (text_of given ++ more) ≡ Ok (given ++ after)
  pub means : (past : Past) → Matches plan up past
      → all_mean plan past (inputs_of_script given) ≡ map notice_of_event events
  pub leaves : (past : Past) → Matches plan up past
      → Matches plan later (all_past plan past (inputs_of_script given))
