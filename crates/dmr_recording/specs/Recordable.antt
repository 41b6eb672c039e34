-- The events that can be recorded, while these carriers are up.
use Rattle.std.specs.Prelude.{◌≡◌, ◌≢◌, ℕ, ◌+◌, ◌<◌, Bool, true, false, List, [], ◌∷◌, Option, Some}
use Rattle.std.specs.Prelude.{◌⊎◌, None, is_some, slice_index_or, slice_set, fold}
use Rattle.dmr_plan.specs.declared.settings.Settings.{Settings}
use Rattle.dmr_burst.specs.Functions.{meaning_of, burst_of}
use Rattle.dmr_core.specs.CommandWords.{IsSaid}
use Rattle.dmr_core.specs.declared.command.Command.TheVariants.{Drop}
use Rattle.dmr_core.specs.declared.event.Event.{Event}
use Rattle.dmr_core.specs.declared.event.Event.TheVariants as event
use Rattle.dmr_link.specs.Identities.{who_of}
use Rattle.dmr_recording.specs.declared.fault.RecordingFault.{RecordingFault}
use Rattle.dmr_recording.specs.declared.fault.RecordingFault.TheVariants.{NotOfPlan, AlreadyUp}
use Rattle.dmr_recording.specs.declared.fault.RecordingFault.TheVariants.{NotUp, NotHeard, NotSaid}
use Rattle.dmr_recording.specs.declared.fault.RecordingFault.TheVariants.{OutOfMemory}
use Rattle.dmr_recording.specs.Events.{lpcn_of}

-- whether a carrier is among those that are up
abbrev pub is_up : List Bool → ℕ → Bool
is_up up carrier = slice_index_or up carrier false

-- the carriers that are up after an event
abbrev pub up_after : List Bool → Event → List Bool
up_after up (event.Up c) = slice_set up c true
up_after up (event.Lost c) = slice_set up c false
up_after up other = up

-- the carriers that are up after events
abbrev pub up_after_all : List Bool → List Event → List Bool
up_after_all up events = fold up_after up events

-- a carrier of the plan, which is up or is not; its number and its channel are in their ranges
abbrev pub IsCarrier : Settings → List Bool → Bool → ℕ → Type 0
IsCarrier plan up whether carrier =
    (carrier < 16) × (lpcn_of plan carrier < 65536) × (is_some (who_of plan carrier) ≡ true)
    × (is_up up carrier ≡ whether)

-- the event can be recorded. Its carrier is one of the plan's, and is up, except for an Up. A burst exists that means
-- its PDU. A line can mean its command: each but `drop 0`
abbrev pub IsRecordable : Settings → List Bool → Event → Type 0
IsRecordable plan up (event.Up c) = IsCarrier plan up false c
IsRecordable plan up (event.Lost c) = IsCarrier plan up true c
IsRecordable plan up (event.Heard slot pdu) =
    IsCarrier plan up true slot.carrier × (slot.slot < 2)
    × (meaning_of (burst_of pdu) ≡ Some pdu)
IsRecordable plan up (event.Noise slot) = IsCarrier plan up true slot.carrier × (slot.slot < 2)
IsRecordable plan up (event.Active slot) = IsCarrier plan up true slot.carrier × (slot.slot < 2)
IsRecordable plan up (event.Poll c) = IsCarrier plan up true c
IsRecordable plan up event.Tick = Unit {0}
IsRecordable plan up (event.Say command) = IsSaid command

-- each event can be recorded, one after another
abbrev pub AreRecordable : Settings → List Bool → List Event → Type 0
AreRecordable plan up [] = Unit {0}
AreRecordable plan up (e ∷ es) = IsRecordable plan up e × AreRecordable plan (up_after up e) es

-- the carrier of an event, if it has one
abbrev pub carrier_of : Event → Option ℕ
carrier_of (event.Up c) = Some c
carrier_of (event.Lost c) = Some c
carrier_of (event.Heard slot pdu) = Some slot.carrier
carrier_of (event.Noise slot) = Some slot.carrier
carrier_of (event.Active slot) = Some slot.carrier
carrier_of (event.Poll c) = Some c
carrier_of other = None

-- the plan has no carrier of this number
abbrev pub IsOutside : Settings → Option ℕ → Type 0
IsOutside plan None = ⊥
IsOutside plan (Some c) = is_some (who_of plan c) ≡ false

-- the fault of a carrier that has to be up, or has not to be up, in an event at this place
abbrev pub IsCarrierFault : Settings → List Bool → ℕ → ℕ → Bool → RecordingFault → Type 0
IsCarrierFault plan up place carrier wanted (NotOfPlan at) =
    (at ≡ place) × (is_some (who_of plan carrier) ≡ false)
IsCarrierFault plan up place carrier wanted (AlreadyUp at) =
    (at ≡ place) × (wanted ≡ false) × (is_up up carrier ≡ true)
IsCarrierFault plan up place carrier wanted (NotUp at) =
    (at ≡ place) × (wanted ≡ true) × (is_up up carrier ≡ false)
IsCarrierFault plan up place carrier wanted other = ⊥

-- the event is an Up of a carrier that is up
abbrev pub IsSecondUp : List Bool → Event → Type 0
IsSecondUp up (event.Up c) = is_up up c ≡ true
IsSecondUp up other = ⊥

-- the event is another event of a carrier, and the carrier is not up
abbrev pub IsWithoutUp : List Bool → Event → Type 0
IsWithoutUp up (event.Up c) = ⊥
IsWithoutUp up (event.Lost c) = is_up up c ≡ false
IsWithoutUp up (event.Heard slot pdu) = is_up up slot.carrier ≡ false
IsWithoutUp up (event.Noise slot) = is_up up slot.carrier ≡ false
IsWithoutUp up (event.Active slot) = is_up up slot.carrier ≡ false
IsWithoutUp up (event.Poll c) = is_up up c ≡ false
IsWithoutUp up other = ⊥

-- the event is of a PDU that its burst does not mean
abbrev pub IsUnheard : Event → Type 0
IsUnheard (event.Heard slot pdu) = meaning_of (burst_of pdu) ≢ Some pdu
IsUnheard other = ⊥

-- the event is of the command that no line means, `drop 0`
abbrev pub IsUnsaid : Event → Type 0
IsUnsaid (event.Say command) = command ≡ Drop 0
IsUnsaid other = ⊥

-- the fault of an event at this place
abbrev pub IsFault : Settings → List Bool → ℕ → Event → RecordingFault → Type 0
IsFault plan up place e (NotOfPlan at) = (at ≡ place) × IsOutside plan (carrier_of e)
IsFault plan up place e (AlreadyUp at) = (at ≡ place) × IsSecondUp up e
IsFault plan up place e (NotUp at) = (at ≡ place) × IsWithoutUp up e
IsFault plan up place e (NotHeard at) = (at ≡ place) × IsUnheard e
IsFault plan up place e (NotSaid at) = (at ≡ place) × IsUnsaid e
IsFault plan up place e OutOfMemory = ⊥

-- the fault of the first event that cannot be recorded; the first of these events has this place
abbrev pub IsFirstFault : Settings → List Bool → ℕ → List Event → RecordingFault → Type 0
IsFirstFault plan up place [] fault = ⊥
IsFirstFault plan up place (e ∷ es) fault =
    IsFault plan up place e fault
    ⊎ (IsRecordable plan up e × IsFirstFault plan (up_after up e) (place + 1) es fault)
