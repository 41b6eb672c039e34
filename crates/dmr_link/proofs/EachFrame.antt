-- Facts about each frame by itself. A new frame is one more case of each function here, and of none in another file.
use Rattle.std.proofs.Common.{◌≡◌, ◌<◌, ℕ, Bool, true, false, Option, Some, None, refl, ap}
use Rattle.std.specs.Prelude.{is_some}
use Rattle.std.proofs.lemmas.Bool.{false≢true, and_parts, eqb-true}
use Rattle.dmr_pdu.specs.declared.slots.Slot.{Slot}
use Rattle.dmr_pdu.specs.declared.pdu.Pdu.{Pdu}
use Rattle.dmr_burst.specs.Functions.{meaning_of}
use Rattle.dmr_frames.specs.declared.frame.FrameIn.{FrameIn}
use Rattle.dmr_frames.specs.declared.frame.FrameIn.TheVariants as frame
use Rattle.dmr_frames.specs.declared.frame.Refusal.{Refusal}
use Rattle.dmr_frames.specs.declared.version.Version.{Version}
use Rattle.dmr_frames.specs.declared.version.Version.TheVariants.{V1}
use Rattle.dmr_frames.specs.Frames.{IsFrame, IsNumbered}
use Rattle.dmr_frames.specs.Versions.{version_named, or_first, chosen_by}
use Rattle.dmr_core.specs.declared.event.Event.{Event}
use Rattle.dmr_core.specs.declared.event.Event.TheVariants.{Lost}
use Rattle.dmr_wire.specs.declared.closing.Closing.{Closing}
use Rattle.dmr_link.specs.declared.connection.CarrierIdentity.{CarrierIdentity}
use Rattle.dmr_link.specs.Closing.{frame_closes}
use Rattle.dmr_link.specs.Ended.{IsOfUp}
use Rattle.dmr_link.specs.Meaning.{event_of_burst, is_accepted, refusal_of_first, is_last, event_of, is_repeat, newest_after}
use Rattle.dmr_link.specs.Notices.{Notice, Refused}
use Rattle.dmr_link.specs.Sound.{IsServed, IsNewest}

-- ---- a first frame

served : (greatest : Version) (octet : ℕ) (found : Option Version) → octet < 256 → version_named greatest octet ≡ found →
    is_some found ≡ true → IsServed greatest (or_first found)
served greatest octet None lt at is = absurd (false≢true is)
served greatest octet (Some version) lt at is = (octet, lt, at)

-- a HELLO that is accepted chooses a version that is served
pub accepted_served : (who : CarrierIdentity) (f : FrameIn) → IsFrame V1 f → is_accepted who f ≡ true →
    IsServed who.greatest (chosen_by who.greatest f)
accepted_served who (frame.Hello version carrier lpcn) fits is = served who.greatest version
    (version_named who.greatest version) fits.0 refl (and_parts (is_some (version_named who.greatest version)) _ is).0
accepted_served who (frame.Rx number slot word) fits is = absurd (false≢true is)
accepted_served who frame.Poll fits is = absurd (false≢true is)
accepted_served who (frame.Active slot) fits is = absurd (false≢true is)
accepted_served who frame.Bye fits is = absurd (false≢true is)

-- a first frame that is not accepted produces nothing, or the refusal of its carrier
abbrev pub IsRefusalOf : ℕ → Option Notice → Type 0
IsRefusalOf c None = Unit {0}
IsRefusalOf c (Some notice) = (refusal : Refusal) × (notice ≡ Refused c refusal)

pub refusal_is : (who : CarrierIdentity) (f : FrameIn) → IsRefusalOf who.carrier (refusal_of_first who f)
refusal_is who (frame.Hello version carrier lpcn) = (_, refl)
refusal_is who (frame.Rx number slot word) = tt
refusal_is who frame.Poll = tt
refusal_is who (frame.Active slot) = tt
refusal_is who frame.Bye = tt

-- ---- a frame of a carrier that is up

-- a last frame closes the connection, and no other does
abbrev pub ClosesIf : Bool → Option Closing → Type 0
ClosesIf false closing = closing ≡ None
ClosesIf true closing = (it : Closing) × (closing ≡ Some it)

pub last_closes : (f : FrameIn) → ClosesIf (is_last f) (frame_closes f)
last_closes (frame.Hello version carrier lpcn) = (_, refl)
last_closes (frame.Rx number slot word) = refl
last_closes frame.Poll = refl
last_closes (frame.Active slot) = refl
last_closes frame.Bye = (_, refl)

burst_up : (c : ℕ) (slot : Slot) (found : Option Pdu) → slot.carrier ≡ c → IsOfUp c (event_of_burst slot found)
burst_up c slot (Some pdu) is = is
burst_up c slot None is = is

-- a last frame produces the carrier's Lost, and any other an event of a carrier that is up
abbrev pub IsEventIf : Bool → ℕ → Event → Type 0
IsEventIf false c event = IsOfUp c event
IsEventIf true c event = event ≡ Lost c

pub event_is : (c : ℕ) (newest : Option ℕ) (f : FrameIn) → is_repeat newest f ≡ false → IsEventIf (is_last f) c (event_of c f)
event_is c newest (frame.Hello version carrier lpcn) brings = refl
event_is c newest (frame.Rx number slot word) brings = burst_up c (record { carrier = c; slot = slot }) (meaning_of word) refl
event_is c newest frame.Poll brings = refl
event_is c newest (frame.Active slot) brings = refl
event_is c newest frame.Bye brings = refl

-- a repeat ends no connection, and its number is that of the newest RX
pub repeat_stays : (newest : Option ℕ) (f : FrameIn) → is_repeat newest f ≡ true → (is_last f ≡ false) × (newest_after newest f ≡ newest)
repeat_stays (Some m) (frame.Rx (Some n) slot word) is = (refl, ap Some (eqb-true n m is))
repeat_stays (Some m) (frame.Rx None slot word) is = absurd (false≢true is)
repeat_stays (Some m) (frame.Hello version carrier lpcn) is = absurd (false≢true is)
repeat_stays (Some m) frame.Poll is = absurd (false≢true is)
repeat_stays (Some m) (frame.Active slot) is = absurd (false≢true is)
repeat_stays (Some m) frame.Bye is = absurd (false≢true is)
repeat_stays None f is = absurd (false≢true is)

numbered_newest : (version : Version) (number : Option ℕ) → IsNumbered version number → IsNewest version number
numbered_newest version None is = tt
numbered_newest version (Some n) is = is

-- the number of the newest RX stays one of the version
pub newest_stays : (version : Version) (newest : Option ℕ) (f : FrameIn) → IsNewest version newest → IsFrame version f →
    IsNewest version (newest_after newest f)
newest_stays version newest (frame.Hello v carrier lpcn) is fits = is
newest_stays version newest (frame.Rx number slot word) is fits = numbered_newest version number fits.0
newest_stays version newest frame.Poll is fits = is
newest_stays version newest (frame.Active slot) is fits = is
newest_stays version newest frame.Bye is fits = is
