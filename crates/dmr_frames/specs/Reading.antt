-- The result of each octet, for the rest before it.
use Rattle.std.specs.Prelude.{◌≡◌, ℕ, ◌+◌, ◌≤◌, Bool, List, [], ◌∷◌, ◌++◌, length, nat_lt, ◌==◌, not, take}
use Rattle.std.specs.Prelude.{Option, Some, None, is_some, if◌then◌else◌}
use Rattle.std.specs.List.{flat_map, fold, scan}
use Rattle.dmr_frames.specs.declared.frame.FrameIn.{FrameIn}
use Rattle.dmr_frames.specs.declared.frame.Cause.{Cause}
use Rattle.dmr_frames.specs.declared.frame.Cause.TheVariants.{UnknownType, BadLength}
use Rattle.dmr_frames.specs.declared.cutter.Step.{Step}
use Rattle.dmr_frames.specs.declared.cutter.Step.TheVariants.{Need, Frame, Fault}
use Rattle.dmr_frames.specs.declared.table.FrameKind.{FrameKind}
use Rattle.dmr_frames.specs.declared.version.Version.{Version}
use Rattle.dmr_frames.specs.declared.version.FrameTable.{FrameTable}
use Rattle.dmr_frames.specs.Frames.{whole_step}
use Rattle.dmr_frames.specs.Rest.{Rest, Open, Faulty}
use Rattle.dmr_frames.specs.Table.{body_length, body_fault, carrier_kind}
use Rattle.dmr_frames.specs.Versions.{has_numbers, version_of, table_after}

-- the result of a length octet: a frame without a body ends there
unfoldable pub length_step : Bool → FrameKind → ℕ → Step
length_step numbered kind x =
    if not (x == body_length numbered kind) then Fault BadLength else
    if x == 0 then whole_step numbered kind [] else Need

-- the fault of an octet, or else the other result
abbrev pub unless_fault : Option Cause → Step → Step
unless_fault None step = step
unless_fault (Some cause) step = Fault cause

-- the result of an octet of a body
unfoldable pub body_step : Bool → FrameKind → List ℕ → ℕ → Step
body_step numbered kind body x = unless_fault (body_fault numbered kind (length body) x)
    (if nat_lt (length body + 1) (body_length numbered kind) then Need
    else whole_step numbered kind (body ++ x ∷ []))

-- the result of an octet after a type octet of this kind and after these octets
unfoldable pub kind_step : Bool → Option FrameKind → List ℕ → ℕ → Step
kind_step numbered None rest x = Fault UnknownType
kind_step numbered (Some kind) [] x = length_step numbered kind x
kind_step numbered (Some kind) (n ∷ body) x = body_step numbered kind body x

-- the result of an octet after an open rest
unfoldable pub step_at : Version → List ℕ → ℕ → Step
step_at version [] x = if is_some (carrier_kind version x) then Need else Fault UnknownType
step_at version (octet ∷ rest) x =
    kind_step (has_numbers version) (carrier_kind version octet) rest x

-- the result of an octet
abbrev pub step_from : Rest → ℕ → Step
step_from (Open table q) x = step_at (version_of table) q x
step_from (Faulty cause) x = Fault cause

-- the rest after an octet with this result
abbrev pub rest_after : FrameTable → List ℕ → ℕ → Step → Rest
rest_after table q x Need = Open table (q ++ x ∷ [])
rest_after table q x (Frame f) = Open (table_after table f) []
rest_after table q x (Fault cause) = Faulty cause

-- the rest after an octet
abbrev pub rest_after_octet : Rest → ℕ → Rest
rest_after_octet (Open table q) x = rest_after table q x (step_at (version_of table) q x)
rest_after_octet (Faulty cause) x = Faulty cause

-- the frame of a result, if it has one
abbrev pub frame_of : Step → List FrameIn
frame_of (Frame f) = f ∷ []
frame_of _ = []

-- the frames that octets produce
abbrev pub frames_from : Rest → List ℕ → List FrameIn
frames_from rest octets = flat_map frame_of (scan rest_after_octet step_from rest octets)

-- each of these octets needs more, except the last, which has this step
abbrev pub ProduceAtLast : Rest → List ℕ → Step → Type 0
ProduceAtLast rest [] step = ⊥
ProduceAtLast rest (x ∷ []) step = step_from rest x ≡ step
ProduceAtLast rest (x ∷ y ∷ octets) step =
    (step_from rest x ≡ Need) × ProduceAtLast (rest_after_octet rest x) (y ∷ octets) step

-- the rest after octets
abbrev pub rest_after_octets : Rest → List ℕ → Rest
rest_after_octets rest octets = fold rest_after_octet rest octets

-- the first `count` of these octets are taken: up to the end of the next frame, up to a fault, or all of them. The last of
-- them has this step
pub record CutsPiece (old new : Rest) (octets : List ℕ) (count : ℕ) (step : Step) : Type 0 where
  pub within : count ≤ length octets
  pub whole : step ≡ Need → count ≡ length octets
  pub last : ProduceAtLast old (take count octets) step
  pub rest : new ≡ rest_after_octets old (take count octets)
