-- The table of frames: of each frame its type octet, its name, the version that introduced it, and the fields of its
-- body.
use Rattle.std.specs.Prelude.{ℕ, ◌+◌, ◌-◌, ◌%◌, ◌==◌, nat_lt, Bool, List, [], ◌∷◌, Option, Some}
use Rattle.std.specs.Prelude.{None, if◌then◌else◌, codes}
use Rattle.dmr_frames.specs.declared.frame.Cause.{Cause}
use Rattle.dmr_frames.specs.declared.frame.Cause.TheVariants.{BadSlot, BadPad}
use Rattle.dmr_frames.specs.declared.table.Field.{Field}
use Rattle.dmr_frames.specs.declared.table.Field.TheVariants as field
use Rattle.dmr_frames.specs.declared.table.FrameKind.{FrameKind}
use Rattle.dmr_frames.specs.declared.table.FrameKind.TheVariants as kind
use Rattle.dmr_frames.specs.declared.version.Version.{Version}
use Rattle.dmr_frames.specs.declared.version.Version.TheVariants.{V1}
use Rattle.dmr_frames.specs.Versions.{is_since}

-- a row of the table
pub record Row : Type 0 where
  pub octet : ℕ
  pub name : List ℕ
  pub since : Version
  pub body : List Field

-- makes a row of its octet, its name, the version that introduced it, and its fields
abbrev pub row : ℕ → List ℕ → Version → List Field → Row
row octet name since body = record { octet = octet; name = name; since = since; body = body }

-- the row of each frame: the table of frames
abbrev pub frame_row : FrameKind → Row
frame_row kind.Hello = row 0x01 (codes "HELLO") V1 (field.Version ∷ field.Carrier ∷ field.Lpcn ∷ [])
frame_row kind.Rx = row 0x02 (codes "RX") V1 (field.Number ∷ field.Slot ∷ field.Word ∷ [])
frame_row kind.Poll = row 0x03 (codes "POLL") V1 []
frame_row kind.Active = row 0x04 (codes "ACTIVE") V1 (field.Slot ∷ [])
frame_row kind.Bye = row 0x05 (codes "BYE") V1 []
frame_row kind.Welcome = row 0x81 (codes "WELCOME") V1 (field.Version ∷ [])
frame_row kind.Tx = row 0x82 (codes "TX") V1 (field.Number ∷ field.Slot ∷ field.Word ∷ [])
frame_row kind.Done = row 0x83 (codes "DONE") V1 []
frame_row kind.Refused = row 0x84 (codes "REFUSED") V1 (field.Reason ∷ [])

-- the frames that come from a carrier
abbrev pub carrier_kinds : List FrameKind
carrier_kinds = kind.Hello ∷ kind.Rx ∷ kind.Poll ∷ kind.Active ∷ kind.Bye ∷ []

-- the frames that go to a carrier
abbrev pub site_kinds : List FrameKind
site_kinds = kind.Welcome ∷ kind.Tx ∷ kind.Done ∷ kind.Refused ∷ []

-- the frame, of these, that has a type octet in a version
abbrev pub kind_among : Version → List FrameKind → ℕ → Option FrameKind
kind_among version [] octet = None
kind_among version (kind ∷ kinds) octet =
    if octet == (frame_row kind).octet
    then (if is_since (frame_row kind).since version then Some kind else None)
    else kind_among version kinds octet

-- the frame from a carrier that has a type octet in a version
abbrev pub carrier_kind : Version → ℕ → Option FrameKind
carrier_kind version octet = kind_among version carrier_kinds octet

-- the frame to a carrier that has a type octet in a version
abbrev pub site_kind : Version → ℕ → Option FrameKind
site_kind version octet = kind_among version site_kinds octet

-- the number of octets of a field; a number has none if bursts are not numbered
abbrev pub field_length : Bool → Field → ℕ
field_length numbered field.Lpcn = 2
field_length numbered field.Number = if numbered then 1 else 0
field_length numbered field.Word = 25
field_length numbered other = 1

-- the number of octets of fields together
abbrev pub fields_length : Bool → List Field → ℕ
fields_length numbered [] = 0
fields_length numbered (field ∷ fields) =
    field_length numbered field + fields_length numbered fields

-- the number of octets of a frame after its length octet
abbrev pub body_length : Bool → FrameKind → ℕ
body_length numbered kind = fields_length numbered (frame_row kind).body

-- the fault of an octet at a place of a field: a slot has to be 0 or 1, and the last four bits of a word's octets 0
abbrev pub field_fault : Field → ℕ → ℕ → Option Cause
field_fault field.Slot place octet = if nat_lt octet 2 then None else Some BadSlot
field_fault field.Word place octet =
    if place == 24 then (if octet % 16 == 0 then None else Some BadPad) else None
field_fault other place octet = None

-- the fault of an octet at a place of fields
abbrev pub fields_fault : Bool → List Field → ℕ → ℕ → Option Cause
fields_fault numbered [] place octet = None
fields_fault numbered (field ∷ fields) place octet =
    if nat_lt place (field_length numbered field) then field_fault field place octet
    else fields_fault numbered fields (place - field_length numbered field) octet

-- the fault of an octet at a place of a frame's body
abbrev pub body_fault : Bool → FrameKind → ℕ → ℕ → Option Cause
body_fault numbered kind place octet = fields_fault numbered (frame_row kind).body place octet
