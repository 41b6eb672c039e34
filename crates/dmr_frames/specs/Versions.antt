-- The versions of the link format, and the version of each frame of a connection.
use Rattle.std.specs.Prelude.{ℕ, ◌==◌, ◌&&◌, Bool, true, false, List, Option, Some, None}
use Rattle.std.specs.Prelude.{if◌then◌else◌, fold}
use Rattle.dmr_frames.specs.declared.frame.FrameIn.{FrameIn}
use Rattle.dmr_frames.specs.declared.frame.FrameIn.TheVariants.{Hello}
use Rattle.dmr_frames.specs.declared.version.Version.{Version}
use Rattle.dmr_frames.specs.declared.version.Version.TheVariants.{V1, V2}
use Rattle.dmr_frames.specs.declared.version.FrameTable.{FrameTable}
use Rattle.dmr_frames.specs.declared.version.FrameTable.TheVariants.{First, Later}

-- the octet that names a version
abbrev pub version_octet : Version → ℕ
version_octet V1 = 0x01
version_octet V2 = 0x02

-- whether bursts have numbers in a version
abbrev pub has_numbers : Version → Bool
has_numbers V1 = false
has_numbers V2 = true

-- whether `version` has the things that another version introduced
abbrev pub is_since : Version → Version → Bool
is_since V1 version = true
is_since V2 V1 = false
is_since V2 V2 = true

-- the first version that has bursts with a number, or without one
abbrev pub version_by : Option ℕ → Version
version_by None = V1
version_by (Some number) = V2

-- the version that an octet names, if it is at most the greatest that is served
abbrev pub version_named : Version → ℕ → Option Version
version_named greatest octet =
    if octet == 0x01 then Some V1 else if octet == 0x02 && is_since V2 greatest then Some V2
    else None

-- a version, or else the first
abbrev pub or_first : Option Version → Version
or_first None = V1
or_first (Some version) = version

-- the version that an octet names, or else the first
abbrev pub named_or_first : ℕ → Version
named_or_first octet = or_first (version_named V2 octet)

-- the version that a first frame chooses: a HELLO chooses that of its octet, if it is served; any other frame chooses
-- the first
abbrev pub chosen_by : Version → FrameIn → Version
chosen_by greatest (Hello version carrier lpcn) = or_first (version_named greatest version)
chosen_by greatest other = V1

-- the version of the next frame's spelling: the first frame has that of version 1
abbrev pub version_of : FrameTable → Version
version_of (First greatest) = V1
version_of (Later version) = version

-- the table after a frame: the first frame chooses it for all others
abbrev pub table_after : FrameTable → FrameIn → FrameTable
table_after (First greatest) f = Later (chosen_by greatest f)
table_after (Later version) f = Later version

-- the table after frames
abbrev pub table_after_frames : FrameTable → List FrameIn → FrameTable
table_after_frames table frames = fold table_after table frames
