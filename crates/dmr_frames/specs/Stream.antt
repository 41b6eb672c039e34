-- A stream of octets: frames, and a rest. The first frame chooses the version of those after it.
use Rattle.std.specs.Prelude.{◌≡◌, ℕ, ◌+◌, Bool, List, [], ◌∷◌, ◌++◌, length, Option, Some, None}
use Rattle.std.specs.Prelude.{if◌then◌else◌, ◌==◌, ◌||◌}
use Rattle.std.specs.List.{flat_map}
use Rattle.dmr_frames.specs.declared.frame.FrameIn.{FrameIn}
use Rattle.dmr_frames.specs.declared.frame.Cause.{Cause}
use Rattle.dmr_frames.specs.declared.frame.Cause.TheVariants.{UnknownType, BadLength, BadSlot}
use Rattle.dmr_frames.specs.declared.frame.Cause.TheVariants.{BadPad}
use Rattle.dmr_frames.specs.declared.cutter.Step.{Step}
use Rattle.dmr_frames.specs.declared.cutter.Step.TheVariants.{Need, Frame, Fault}
use Rattle.dmr_frames.specs.declared.table.FrameKind.TheVariants as kind
use Rattle.dmr_frames.specs.declared.version.Version.{Version}
use Rattle.dmr_frames.specs.declared.version.FrameTable.{FrameTable}
use Rattle.dmr_frames.specs.Frames.{IsFrame, spelling}
use Rattle.dmr_frames.specs.Table.{body_length}
use Rattle.dmr_frames.specs.Rest.{Rest, Open, Faulty}
use Rattle.dmr_frames.specs.Versions.{has_numbers, version_of, table_after, table_after_frames}

-- the spelling of some frame of this version begins with these octets
abbrev pub Begins : Version → List ℕ → Type 0
Begins version q = (f : FrameIn) × (more : List ℕ) × IsFrame version f × (q ++ more ≡ spelling f)

-- a proper prefix of the spelling of some frame of this version
abbrev pub IsOpen : Version → List ℕ → Type 0
IsOpen version q =
    (f : FrameIn) × (x : ℕ) × (more : List ℕ) × IsFrame version f × (q ++ x ∷ more ≡ spelling f)

-- the place of the slot in an RX, counted from 0; in an ACTIVE it is 2 in each version
abbrev pub slot_place : Bool → ℕ
slot_place numbered = if numbered then 3 else 2

-- the fault of an octet after `n` octets of a frame
abbrev pub fault_at : Bool → ℕ → Option Cause
fault_at numbered n =
    if n == 0 then Some UnknownType else
    if n == 1 then Some BadLength else
    if n == 2 || n == slot_place numbered then Some BadSlot else
    if n == body_length numbered kind.Rx + 1 then Some BadPad else None

-- a proper prefix of a spelling, one octet with which no spelling begins, and any octets
pub record IsFaulty (version : Version) (octets : List ℕ) (cause : Cause) : Type 0 where
  pub front : List ℕ
  pub octet : ℕ
  pub more : List ℕ
  pub whole : octets ≡ front ++ octet ∷ more
  pub open_front : IsOpen version front
  pub no_frame : Begins version (front ++ octet ∷ []) → ⊥
  pub cause_is : fault_at (has_numbers version) (length front) ≡ Some cause

-- octets after the last whole frame are this rest, by this table
abbrev pub IsRest : FrameTable → List ℕ → Rest → Type 0
IsRest table octets (Open t q) = (table ≡ t) × (octets ≡ q) × IsOpen (version_of t) q
IsRest table octets (Faulty cause) = IsFaulty (version_of table) octets cause

-- each frame is of the version of the table at its place
abbrev pub AreFrames : FrameTable → List FrameIn → Type 0
AreFrames table [] = Unit {0}
AreFrames table (f ∷ fs) = IsFrame (version_of table) f × AreFrames (table_after table f) fs

-- the octets are the spellings of these frames, the first by this table, followed by this rest
pub record Reads (table : FrameTable) (octets : List ℕ) (frames : List FrameIn)
    (rest : Rest) : Type 0 where
  pub tail : List ℕ
  pub whole : octets ≡ flat_map spelling frames ++ tail
  pub each : AreFrames table frames
  pub rest_is : IsRest (table_after_frames table frames) tail rest

-- an open rest with one more octet is still open, a whole frame, or a fault, as the result says
abbrev pub IsStep : Version → List ℕ → ℕ → Step → Type 0
IsStep version q x Need = IsOpen version (q ++ x ∷ [])
IsStep version q x (Frame f) = IsFrame version f × (q ++ x ∷ [] ≡ spelling f)
IsStep version q x (Fault cause) =
    (Begins version (q ++ x ∷ []) → ⊥) × (fault_at (has_numbers version) (length q) ≡ Some cause)
