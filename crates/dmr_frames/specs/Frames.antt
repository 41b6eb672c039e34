-- The octets of each frame, in each version of the link format, and the frame of each whole body.
use Rattle.std.specs.Prelude.{◌≡◌, ℕ, ◌+◌, ◌*◌, ◌/◌, ◌%◌, ◌<◌, Bool, true, false, List, [], ◌∷◌}
use Rattle.std.specs.Prelude.{length, Option, Some, None, IfSome}
use Rattle.dmr_bits.specs.Words.{word_of, word_octets}
use Rattle.dmr_frames.specs.declared.cutter.Step.{Step}
use Rattle.dmr_frames.specs.declared.cutter.Step.TheVariants.{Need, Frame}
use Rattle.dmr_frames.specs.declared.frame.FrameIn.{FrameIn}
use Rattle.dmr_frames.specs.declared.frame.FrameIn.TheVariants.{Hello, Rx, Poll, Active, Bye}
use Rattle.dmr_frames.specs.declared.frame.FrameOut.{FrameOut}
use Rattle.dmr_frames.specs.declared.frame.FrameOut.TheVariants.{Welcome, Tx, Done, Refused}
use Rattle.dmr_frames.specs.declared.frame.Refusal.{Refusal}
use Rattle.dmr_frames.specs.declared.frame.Refusal.TheVariants.{BadVersion, WrongCarrier}
use Rattle.dmr_frames.specs.declared.table.FrameKind.{FrameKind}
use Rattle.dmr_frames.specs.declared.table.FrameKind.TheVariants as kind
use Rattle.dmr_frames.specs.declared.version.Version.{Version}
use Rattle.dmr_frames.specs.Table.{frame_row, body_length}
use Rattle.dmr_frames.specs.Versions.{has_numbers, version_by}

-- a frame: its type, its length, its body
abbrev pub frame_octets : Version → FrameKind → List ℕ → List ℕ
frame_octets version kind body =
    (frame_row kind).octet ∷ body_length (has_numbers version) kind ∷ body

-- a frame whose octets are the same in each version that has it
abbrev pub plain_octets : FrameKind → List ℕ → List ℕ
plain_octets kind body = frame_octets (frame_row kind).since kind body

-- the octets of a burst: its number, if it has one, its slot and its word
abbrev pub burst_octets : Option ℕ → ℕ → List ℕ → List ℕ
burst_octets None slot octets = slot ∷ octets
burst_octets (Some number) slot octets = number ∷ slot ∷ octets

-- a burst has an octet as its number if its version numbers bursts, and otherwise none
abbrev pub IsNumberWhere : Bool → Option ℕ → Type 0
IsNumberWhere true (Some number) = number < 256
IsNumberWhere false None = Unit {0}
IsNumberWhere other number = ⊥

-- a burst of this version has a number if and only if the version numbers bursts
abbrev pub IsNumbered : Version → Option ℕ → Type 0
IsNumbered version number = IsNumberWhere (has_numbers version) number

-- a frame from a carrier, of this version: each field is in its range
abbrev pub IsFrame : Version → FrameIn → Type 0
IsFrame v (Hello version carrier lpcn) = (version < 256) × (carrier < 256) × (lpcn < 65536)
IsFrame v (Rx number slot word) = IsNumbered v number × (slot < 2) × (length word ≡ 196)
IsFrame v Poll = Unit {0}
IsFrame v (Active slot) = slot < 2
IsFrame v Bye = Unit {0}

-- the octets of a frame from a carrier; only RX has different octets in each version
abbrev pub spelling : FrameIn → List ℕ
spelling (Hello version carrier lpcn) =
    plain_octets kind.Hello (version ∷ carrier ∷ (lpcn / 256) ∷ (lpcn % 256) ∷ [])
spelling (Rx number slot word) =
    frame_octets (version_by number) kind.Rx (burst_octets number slot (word_octets word))
spelling Poll = plain_octets kind.Poll []
spelling (Active slot) = plain_octets kind.Active (slot ∷ [])
spelling Bye = plain_octets kind.Bye []

-- ---- the frame of a body

-- the frame of a HELLO's body
unfoldable pub hello_step : List ℕ → Step
hello_step (version ∷ carrier ∷ high ∷ low ∷ []) = Frame (Hello version carrier (256 * high + low))
hello_step body = Need

-- the RX of a slot and a word, after the number
unfoldable pub burst_step : Option ℕ → List ℕ → Step
burst_step number [] = Need
burst_step number (slot ∷ octets) = Frame (Rx number slot (word_of octets))

-- the frame of an RX's body, which begins with a number if bursts are numbered
unfoldable pub rx_step : Bool → List ℕ → Step
rx_step false body = burst_step None body
rx_step true [] = Need
rx_step true (number ∷ body) = burst_step (Some number) body

-- the frame of an ACTIVE's body
unfoldable pub active_step : List ℕ → Step
active_step (slot ∷ []) = Frame (Active slot)
active_step body = Need

-- the frame of a whole body in which no octet is a fault
unfoldable pub whole_step : Bool → FrameKind → List ℕ → Step
whole_step numbered kind.Hello body = hello_step body
whole_step numbered kind.Rx body = rx_step numbered body
whole_step numbered kind.Poll body = Frame Poll
whole_step numbered kind.Active body = active_step body
whole_step numbered kind.Bye body = Frame Bye
whole_step numbered other body = Need

-- ---- frames to a carrier

-- the octet of a refusal
abbrev pub refusal_octet : Refusal → ℕ
refusal_octet BadVersion = 0x01
refusal_octet WrongCarrier = 0x02

-- each field of a frame to a carrier is in its range
abbrev pub IsFrameOut : FrameOut → Type 0
IsFrameOut (Welcome version) = version < 256
IsFrameOut (Tx number slot word) = IfSome number (λ n. n < 256) × (slot < 2) × (length word ≡ 196)
IsFrameOut Done = Unit {0}
IsFrameOut (Refused refusal) = Unit {0}

-- the octets of a frame to a carrier; only TX has different octets in each version
abbrev pub spelling_out : FrameOut → List ℕ
spelling_out (Welcome version) = plain_octets kind.Welcome (version ∷ [])
spelling_out (Tx number slot word) =
    frame_octets (version_by number) kind.Tx (burst_octets number slot (word_octets word))
spelling_out Done = plain_octets kind.Done []
spelling_out (Refused refusal) = plain_octets kind.Refused (refusal_octet refusal ∷ [])
