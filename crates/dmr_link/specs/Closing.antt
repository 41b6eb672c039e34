-- How octets close a connection.
use Rattle.std.specs.Prelude.{ℕ, List, [], ◌∷◌, Option, Some, None, if◌then◌else◌}
use Rattle.dmr_frames.specs.declared.frame.FrameIn.{FrameIn}
use Rattle.dmr_frames.specs.declared.frame.FrameIn.TheVariants as frame
use Rattle.dmr_frames.specs.declared.frame.Cause.{Cause}
use Rattle.dmr_frames.specs.declared.frame.Cause.TheVariants as cause
use Rattle.dmr_frames.specs.declared.frame.Refusal.{Refusal}
use Rattle.dmr_frames.specs.declared.frame.Refusal.TheVariants as refusal
use Rattle.dmr_frames.specs.declared.cutter.Step.{Step}
use Rattle.dmr_frames.specs.declared.cutter.Step.TheVariants.{Need, Frame, Fault}
use Rattle.dmr_frames.specs.Rest.{Rest, Open, Faulty}
use Rattle.dmr_frames.specs.Reading.{step_from, frames_from, rest_after_octets}
use Rattle.dmr_link.specs.declared.ended.Ended.{Ended}
use Rattle.dmr_link.specs.declared.ended.Ended.TheVariants as ended
use Rattle.dmr_wire.specs.declared.closing.Closing.{Closing}
use Rattle.dmr_wire.specs.declared.closing.Closing.TheVariants as closing
use Rattle.dmr_link.specs.declared.connection.CarrierIdentity.{CarrierIdentity}
use Rattle.dmr_link.specs.declared.connection.Connection.{Connection}
use Rattle.dmr_link.specs.declared.connection.Connection.TheVariants.{Closed, Waiting, Running}
use Rattle.dmr_link.specs.Meaning.{is_accepted, is_served, no_octets}
use Rattle.dmr_link.specs.Steps.{connection_after_octet}

-- what `serve` returns for a connection that was closed in this way
abbrev pub ended_of : Closing → Ended
ended_of closing.Over = ended.Closed
ended_of closing.Bye = ended.Closed
ended_of closing.ReadFailed = ended.ReadFault
ended_of closing.WriteFailed = ended.WriteFault
ended_of (closing.Bad why) = ended.BadFrame why
ended_of (closing.Refused why hello) = ended.BadFrame why

-- ---- by the frames of a connection

-- how a fault after the last frame closes a connection, if there is one
abbrev pub fault_of : Rest → Option Closing
fault_of (Open table octets) = None
fault_of (Faulty why) = Some (closing.Bad why)

-- the cause for which a connection is closed when its HELLO is refused
abbrev pub cause_of_refusal : Refusal → Cause
cause_of_refusal refusal.BadVersion = cause.BadVersion
cause_of_refusal refusal.WrongCarrier = cause.WrongCarrier

-- how a first frame that is not accepted closes a connection: a HELLO is refused, for its version before all else
abbrev pub first_fault : CarrierIdentity → FrameIn → Closing
first_fault who (frame.Hello version carrier lpcn) =
    closing.Refused (if is_served who version then cause.WrongCarrier else cause.BadVersion)
    (record { version = version; carrier = carrier; lpcn = lpcn })
first_fault who other = closing.Bad cause.NoHello

-- how a first frame closes a connection, if it does
abbrev pub first_closes : CarrierIdentity → FrameIn → Option Closing
first_closes who f = if is_accepted who f then None else Some (first_fault who f)

-- how a frame closes a connection whose carrier is up, if it does
abbrev pub frame_closes : FrameIn → Option Closing
frame_closes (frame.Hello version carrier lpcn) = Some (closing.Bad cause.SecondHello)
frame_closes frame.Bye = Some closing.Bye
frame_closes other = None

-- the first closing, if there is one; else the second
abbrev pub or_else : Option Closing → Option Closing → Option Closing
or_else None other = other
or_else (Some it) other = Some it

-- how frames of a carrier that is up, and the rest after them, close the connection, if they do
abbrev pub up_closed : List FrameIn → Rest → Option Closing
up_closed [] rest = fault_of rest
up_closed (f ∷ fs) rest = or_else (frame_closes f) (up_closed fs rest)

-- how the frames of a connection, and the rest after them, close it, if they do
abbrev pub frames_closed : CarrierIdentity → List FrameIn → Rest → Option Closing
frames_closed who [] rest = fault_of rest
frames_closed who (f ∷ fs) rest =
    if is_accepted who f then up_closed fs rest else Some (first_fault who f)

-- HOW OCTETS CLOSE a connection, if they do: by a BYE of a carrier that is up, or for a cause
unfoldable pub closing_of_octets : CarrierIdentity → List ℕ → Option Closing
closing_of_octets who octets =
    frames_closed who (frames_from (no_octets who) octets)
    (rest_after_octets (no_octets who) octets)

-- ---- octet by octet

-- how a cutter's step closes a connection that waits for its first frame, if it does
abbrev pub waiting_closes : CarrierIdentity → Step → Option Closing
waiting_closes who Need = None
waiting_closes who (Frame f) = first_closes who f
waiting_closes who (Fault why) = Some (closing.Bad why)

-- how a cutter's step closes a connection whose carrier is up, if it does
abbrev pub running_closes : Step → Option Closing
running_closes Need = None
running_closes (Frame f) = frame_closes f
running_closes (Fault why) = Some (closing.Bad why)

-- how an octet closes a connection, if it does
abbrev pub closes : CarrierIdentity → Connection → ℕ → Option Closing
closes who Closed x = None
closes who (Waiting rest) x = waiting_closes who (step_from rest x)
closes who (Running rest newest) x = running_closes (step_from rest x)

-- how octets close a connection, if they do: the first octet that does decides
abbrev pub all_closes : CarrierIdentity → Connection → List ℕ → Option Closing
all_closes who k [] = None
all_closes who k (x ∷ xs) =
    or_else (closes who k x) (all_closes who (connection_after_octet who k x) xs)
