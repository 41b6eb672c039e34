-- The octets of a PDU, and the PDU of octets, as functions. The contract of `octets_mean_one_pdu` says that they
-- compute the relations `SpellsPdu` and `Agrees`. The crates above depend on that contract only.
use Rattle.std.specs.Prelude.{◌==◌, ℕ, ◌+◌, ◌-◌, ◌*◌, ◌/◌, ◌%◌, ◌^◌, Bool, false, nat_lt, List, []}
use Rattle.std.specs.Prelude.{◌∷◌, Option, Some, None, if◌then◌else◌, map}
use Rattle.std.specs.List.{list_all, range_with_len}
use Rattle.dmr_bits.specs.Bits.{bits_value, field_of}
use Rattle.dmr_pdu.specs.declared.pdu.Pdu.{Pdu}
use Rattle.dmr_pdu.specs.declared.pdu.Pdu.TheVariants.{Other}
use Rattle.dmr_pdu.specs.Layout.{Row, layout}
use Rattle.dmr_pdu.specs.Reading.{read_as}

-- the bit at a place of octets that rows are written into
abbrev pub row_bit : List Row → ℕ → Bool
row_bit [] place = false
row_bit (r ∷ rows) place =
    if nat_lt place (r.0.first + r.0.width)
    then r.1 / 2 ^ (r.0.first + r.0.width - 1 - place) % 2 == 1
    else row_bit rows place

-- the ten octets that a PDU is written as
unfoldable pub octets_of : Pdu → List ℕ
octets_of (Other carried) = carried
octets_of pdu = map (λ k. bits_value (row_bit (layout pdu)) (8 * k) 8) (range_with_len 0 10)

-- whether every row holds
abbrev pub do_hold : List ℕ → List Row → Bool
do_hold octets rows = list_all (λ (r : Row). field_of octets r.0.first r.0.width == r.1) rows

-- the PDU that was read, if all of its layout holds, or else the octets themselves
abbrev pub pdu_or_other : List ℕ → Option Pdu → Pdu
pdu_or_other octets None = Other octets
pdu_or_other octets (Some pdu) = if do_hold octets (layout pdu) then pdu else Other octets

-- the one PDU that agrees with ten octets
unfoldable pub pdu_of : List ℕ → Pdu
pdu_of octets = pdu_or_other octets (read_as (field_of octets 0 8) octets)
