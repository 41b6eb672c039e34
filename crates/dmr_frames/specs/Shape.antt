-- The octets from which a frame can follow: definitions for the cutter and its private functions. No public contract
-- depends on them.
use Rattle.std.specs.Prelude.{◌≡◌, ℕ, ◌<◌, Bool, true, false, List, [], ◌∷◌, length, slice_index}
use Rattle.std.specs.Prelude.{Option, Some, None}
use Rattle.dmr_bits.specs.Bits.{field_of}
use Rattle.dmr_frames.specs.declared.table.Field.{Field}
use Rattle.dmr_frames.specs.declared.table.FrameKind.{FrameKind}
use Rattle.dmr_frames.specs.declared.table.FrameKind.TheVariants as kind
use Rattle.dmr_frames.specs.declared.cutter.Step.{Step}
use Rattle.dmr_frames.specs.declared.cutter.Step.TheVariants.{Frame}
use Rattle.dmr_frames.specs.declared.frame.FrameIn.{FrameIn}
use Rattle.dmr_frames.specs.declared.version.Version.{Version}
use Rattle.dmr_frames.specs.Table.{frame_row, body_length, fields_fault, carrier_kind}
use Rattle.dmr_frames.specs.Versions.{has_numbers}

-- every number is an octet's
abbrev pub AreSmall : List ℕ → Type 0
AreSmall xs = (k : ℕ) → slice_index xs k < 256

-- no octet of these fields is a fault
abbrev pub AreFaultless : Bool → List Field → List ℕ → Type 0
AreFaultless numbered fields octets =
    (k : ℕ) → k < length octets → fields_fault numbered fields k (slice_index octets k) ≡ None

-- no octet of a body is a fault
abbrev pub AreFitting : Bool → FrameKind → List ℕ → Type 0
AreFitting numbered kind body = AreFaultless numbered (frame_row kind).body body

-- a body that has begun, without a fault
pub record IsBegun (numbered : Bool) (kind : FrameKind) (body : List ℕ) : Type 0 where
  pub short : length body < body_length numbered kind
  pub small : AreSmall body
  pub fitting : AreFitting numbered kind body

-- a whole body, without a fault
pub record IsWhole (numbered : Bool) (kind : FrameKind) (body : List ℕ) : Type 0 where
  pub all : length body ≡ body_length numbered kind
  pub small : AreSmall body
  pub fitting : AreFitting numbered kind body

-- a slot and the octets of a word
abbrev pub IsBurst : List ℕ → Type 0
IsBurst [] = ⊥
IsBurst (slot ∷ octets) = (slot < 2) × (length octets ≡ 25) × (field_of octets 196 4 ≡ 0)

-- the whole body of an RX
abbrev pub IsRxBody : Bool → List ℕ → Type 0
IsRxBody false body = IsBurst body
IsRxBody true [] = ⊥
IsRxBody true (number ∷ body) = IsBurst body

-- the whole body of an ACTIVE
abbrev pub IsActiveBody : List ℕ → Type 0
IsActiveBody [] = ⊥
IsActiveBody (slot ∷ more) = slot < 2

-- a whole body without a fault: only a slot and a word can have one
abbrev pub IsClean : Bool → FrameKind → List ℕ → Type 0
IsClean numbered kind.Rx body = IsRxBody numbered body
IsClean numbered kind.Active body = IsActiveBody body
IsClean numbered other body = Unit {0}

-- octets of which this proposition holds are read as this step, and others as no frame
abbrev pub IsReadIf : Type 0 → Step → Step → Type 0
IsReadIf P step result = (P → result ≡ step) × ((f : FrameIn) → result ≡ Frame f → P)

-- octets from which a frame can follow, after the type octet of this frame
abbrev pub IsShapeOf : Bool → Option FrameKind → List ℕ → Type 0
IsShapeOf numbered None rest = ⊥
IsShapeOf numbered (Some kind) [] = Unit {0}
IsShapeOf numbered (Some kind) (n ∷ body) =
    (n ≡ body_length numbered kind) × IsBegun numbered kind body

-- octets from which a frame can follow
abbrev pub IsShape : Version → List ℕ → Type 0
IsShape version [] = Unit {0}
IsShape version (octet ∷ rest) = IsShapeOf (has_numbers version) (carrier_kind version octet) rest
