-- The meaning of a word of 196 bits, and the word that a PDU is sent as.
use Rattle.std.specs.Prelude.{ℕ, List, Bool}
use Rattle.dmr_bits.specs.Bits.{IsOctets}
use Rattle.dmr_csbk.specs.Check.{with_check}
use Rattle.dmr_bptc.specs.Bptc.{Means, IsEncoding}
use Rattle.dmr_pdu.specs.declared.pdu.Pdu.{Pdu}
use Rattle.dmr_pdu.specs.Layout.{SpellsPdu, Agrees}

-- a codeword that differs from the word in at most three of the places 1 to 195 has these octets and their check, and
-- the PDU agrees with the octets
pub record IsMeaning (word : List Bool) (pdu : Pdu) (octets : List ℕ) : Type 0 where
  pub are_octets : IsOctets 10 octets
  pub means : Means 3 word (with_check octets)
  pub agrees : Agrees pdu octets

-- the word means the PDU: `IsMeaning` holds for some ten octets
abbrev pub MeansPdu : List Bool → Pdu → Type 0
MeansPdu word pdu = (octets : List ℕ) × IsMeaning word pdu octets

-- the word is the codeword of the PDU's octets and their check, with place 0 and the reserved cells 0
pub record IsSending (pdu : Pdu) (word : List Bool) (octets : List ℕ) : Type 0 where
  pub are_octets : IsOctets 10 octets
  pub spells : SpellsPdu pdu octets
  pub is_encoding : IsEncoding (with_check octets) word

-- the word is the burst of the PDU: `IsSending` holds for some ten octets
abbrev pub IsBurst : Pdu → List Bool → Type 0
IsBurst pdu word = (octets : List ℕ) × IsSending pdu word octets
