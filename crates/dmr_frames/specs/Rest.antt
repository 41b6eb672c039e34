-- The octets after the last whole frame.
use Rattle.std.specs.Prelude.{ℕ, List, Option, Some, None}
use Rattle.dmr_frames.specs.declared.frame.Cause.{Cause}
use Rattle.dmr_frames.specs.declared.version.FrameTable.{FrameTable}

-- octets from which a frame of this table can follow, or a fault
pub data Rest : Type 0 where
  Open : (table : FrameTable) (octets : List ℕ) → Rest
  Faulty : (cause : Cause) → Rest

-- the octets since the last whole frame, unless there was a fault
abbrev pub rest_of : Option Cause → FrameTable → List ℕ → Rest
rest_of None table octets = Open table octets
rest_of (Some cause) table octets = Faulty cause
