-- The layouts of the PDUs, and the octets that a PDU agrees with.
use Rattle.std.specs.Prelude.{◌≡◌, ℕ, Bool, List, [], ◌∷◌, if◌then◌else◌}
use Rattle.std.specs.List.{AllByRecursion}
use Rattle.dmr_bits.specs.Bits.{field_of}
use Rattle.dmr_pdu.specs.Channels.{IsChannel}
use Rattle.dmr_pdu.specs.declared.layouts.FieldPlace.{FieldPlace}
use Rattle.dmr_pdu.specs.declared.pdu.Pdu.{Pdu}
use Rattle.dmr_pdu.specs.declared.pdu.Pdu.TheVariants.{Aloha, Ahoy, Random, Ackd, Acku, Clear}
use Rattle.dmr_pdu.specs.declared.pdu.Pdu.TheVariants.{PvGrant, TvGrant, Move, Other}

-- a row of a layout: a place in ten octets, and the number there
abbrev pub Row : Type 0
Row = FieldPlace × ℕ

-- the row with this first bit, this width in bits, and this number
abbrev pub layout_row : ℕ → ℕ → ℕ → Row
layout_row first width number = (record { first = first; width = width }, number)

-- a bit as a number: 1 or 0
abbrev pub bit : Bool → ℕ
bit b = if b then 1 else 0

-- the rows of each PDU: octet 0 is LB, PF and the opcode, octet 1 the feature set; bits without a field are 0
unfoldable pub layout : Pdu → List Row
layout (Aloha sync version offset active mask function nrand_wait register backoff system address) =
    layout_row 0 8 0x99 ∷ layout_row 8 8 0 ∷ layout_row 16 2 0 ∷ layout_row 18 1 (bit sync)
    ∷ layout_row 19 3 version ∷ layout_row 22 1 (bit offset) ∷ layout_row 23 1 (bit active)
    ∷ layout_row 24 5 mask ∷ layout_row 29 2 function ∷ layout_row 31 4 nrand_wait
    ∷ layout_row 35 1 (bit register) ∷ layout_row 36 4 backoff ∷ layout_row 40 16 system
    ∷ layout_row 56 24 address ∷ []
layout (Ahoy options group kind called calling) =
    layout_row 0 8 0x9C ∷ layout_row 8 8 0 ∷ layout_row 16 7 options ∷ layout_row 23 2 0
    ∷ layout_row 25 1 (bit group) ∷ layout_row 26 2 0 ∷ layout_row 28 4 kind
    ∷ layout_row 32 24 called ∷ layout_row 56 24 calling ∷ []
layout (Random options flags kind target source) =
    layout_row 0 8 0x9F ∷ layout_row 8 8 0 ∷ layout_row 16 7 options ∷ layout_row 23 5 flags
    ∷ layout_row 28 4 kind ∷ layout_row 32 24 target ∷ layout_row 56 24 source ∷ []
layout (Ackd info reason spare target additional) =
    layout_row 0 8 0xA0 ∷ layout_row 8 8 0 ∷ layout_row 16 7 info ∷ layout_row 23 8 reason
    ∷ layout_row 31 1 (bit spare) ∷ layout_row 32 24 target ∷ layout_row 56 24 additional ∷ []
layout (Acku info reason spare target additional) =
    layout_row 0 8 0xA1 ∷ layout_row 8 8 0 ∷ layout_row 16 7 info ∷ layout_row 23 8 reason
    ∷ layout_row 31 1 (bit spare) ∷ layout_row 32 24 target ∷ layout_row 56 24 additional ∷ []
layout (Clear lpcn group target source) =
    layout_row 0 8 0xAE ∷ layout_row 8 8 0 ∷ layout_row 16 12 lpcn ∷ layout_row 28 3 0
    ∷ layout_row 31 1 (bit group) ∷ layout_row 32 24 target ∷ layout_row 56 24 source ∷ []
layout (PvGrant lpcn slot target source) =
    layout_row 0 8 0xB0 ∷ layout_row 8 8 0 ∷ layout_row 16 12 lpcn ∷ layout_row 28 1 slot
    ∷ layout_row 29 3 0 ∷ layout_row 32 24 target ∷ layout_row 56 24 source ∷ []
layout (TvGrant lpcn slot late target source) =
    layout_row 0 8 0xB1 ∷ layout_row 8 8 0 ∷ layout_row 16 12 lpcn ∷ layout_row 28 1 slot
    ∷ layout_row 29 1 (bit late) ∷ layout_row 30 2 0 ∷ layout_row 32 24 target
    ∷ layout_row 56 24 source ∷ []
layout (Move register backoff lpcn) =
    layout_row 0 8 0xB9 ∷ layout_row 8 8 0 ∷ layout_row 16 19 0 ∷ layout_row 35 1 (bit register)
    ∷ layout_row 36 4 backoff ∷ layout_row 40 4 0 ∷ layout_row 44 12 lpcn ∷ layout_row 56 24 0 ∷ []
layout (Other octets) = []

-- every row holds: the field at its place of the octets is its number
abbrev pub Holds : List ℕ → List Row → Type 0
Holds octets rows = AllByRecursion (λ (r : Row). field_of octets r.0.first r.0.width ≡ r.1) rows

-- a PDU with a channel number has one from 1 to 4094
unfoldable pub HasChannel : Pdu → Type 0
HasChannel (Clear lpcn group target source) = IsChannel lpcn
HasChannel (PvGrant lpcn slot target source) = IsChannel lpcn
HasChannel (TvGrant lpcn slot late target source) = IsChannel lpcn
HasChannel (Move register backoff lpcn) = IsChannel lpcn
HasChannel pdu = Unit {0}

-- the PDU is not `Other`: it has a layout of the table
unfoldable pub IsListed : Pdu → Type 0
IsListed (Other octets) = ⊥
IsListed pdu = Unit {0}

-- the PDU is not `Other`, the octets are laid out by its layout, and its channel number, if it has one, is from 1 to
-- 4094
pub record IsLaidOut (pdu : Pdu) (octets : List ℕ) : Type 0 where
  pub listed : IsListed pdu
  pub rows : Holds octets (layout pdu)
  pub channel : HasChannel pdu

-- the octets are those that the PDU is written as: those of its layout, or those that `Other` carries
unfoldable pub SpellsPdu : Pdu → List ℕ → Type 0
SpellsPdu (Other carried) octets = carried ≡ octets
SpellsPdu pdu octets = IsLaidOut pdu octets

-- a PDU and ten octets agree: the PDU is laid out in them, or it is `Other` and no PDU is laid out in them
unfoldable pub Agrees : Pdu → List ℕ → Type 0
Agrees (Other carried) octets = (carried ≡ octets) × ((pdu : Pdu) → ¬ IsLaidOut pdu octets)
Agrees pdu octets = IsLaidOut pdu octets

-- the octets of the PDU are read as it: true of each PDU, except an `Other` that carries octets in which a PDU is laid
-- out
unfoldable pub IsReadable : Pdu → Type 0
IsReadable (Other carried) = (pdu : Pdu) → ¬ IsLaidOut pdu carried
IsReadable pdu = Unit {0}
