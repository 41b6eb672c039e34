-- The fields of ten octets, by the first octet. Fixed bits are ignored.
use Rattle.std.specs.Prelude.{◌==◌, ℕ, Bool, ◌&&◌, nat_le, List, Option, Some, None, if◌then◌else◌}
use Rattle.std.specs.Prelude.{option_map}
use Rattle.dmr_bits.specs.Bits.{field_of}
use Rattle.dmr_pdu.specs.declared.pdu.Pdu.{Pdu}
use Rattle.dmr_pdu.specs.declared.pdu.Pdu.TheVariants.{Aloha, Ahoy, Random, Ackd, Acku, Clear}
use Rattle.dmr_pdu.specs.declared.pdu.Pdu.TheVariants.{PvGrant, TvGrant, Move}

-- the number, if a channel may have it: 1 to 4094
abbrev pub channel : ℕ → Option ℕ
channel n = if nat_le 1 n && nat_le n 4094 then Some n else None

-- the field of one bit at this place
abbrev pub bit_of : List ℕ → ℕ → Bool
bit_of octets first = field_of octets first 1 == 1

-- the PDU with the fields of the octets, by the first octet; none if it is of no layout, or the channel number is 0 or
-- 4095
unfoldable pub read_as : ℕ → List ℕ → Option Pdu
read_as opcode o =
    if opcode == 0x99
    then Some (Aloha (bit_of o 18) (field_of o 19 3) (bit_of o 22) (bit_of o 23) (field_of o 24 5)
    (field_of o 29 2) (field_of o 31 4) (bit_of o 35) (field_of o 36 4) (field_of o 40 16)
    (field_of o 56 24))
    else if opcode == 0x9C
    then Some
    (Ahoy (field_of o 16 7) (bit_of o 25) (field_of o 28 4) (field_of o 32 24) (field_of o 56 24))
    else if opcode == 0x9F
    then Some (Random (field_of o 16 7) (field_of o 23 5) (field_of o 28 4) (field_of o 32 24)
    (field_of o 56 24))
    else if opcode == 0xA0
    then Some
    (Ackd (field_of o 16 7) (field_of o 23 8) (bit_of o 31) (field_of o 32 24) (field_of o 56 24))
    else if opcode == 0xA1
    then Some
    (Acku (field_of o 16 7) (field_of o 23 8) (bit_of o 31) (field_of o 32 24) (field_of o 56 24))
    else if opcode == 0xAE
    then option_map (λ lpcn. Clear lpcn (bit_of o 31) (field_of o 32 24) (field_of o 56 24))
    (channel (field_of o 16 12))
    else if opcode == 0xB0
    then option_map (λ lpcn. PvGrant lpcn (field_of o 28 1) (field_of o 32 24) (field_of o 56 24))
    (channel (field_of o 16 12))
    else if opcode == 0xB1
    then option_map (λ lpcn. TvGrant lpcn (field_of o 28 1) (bit_of o 29) (field_of o 32 24)
    (field_of o 56 24)) (channel (field_of o 16 12))
    else if opcode == 0xB9
    then option_map (λ lpcn. Move (bit_of o 35) (field_of o 36 4) lpcn) (channel (field_of o 44 12))
    else None
