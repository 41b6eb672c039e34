-- The rows of a PDU as one number. Only contracts of internal functions name these definitions; nothing above depends
-- on them.
use Rattle.std.specs.Prelude.{◌≡◌, ℕ, ◌-◌, ◌*◌, ◌%◌, ◌<◌, ◌^◌, bit_or, List, [], ◌∷◌, take, drop}
use Rattle.dmr_pdu.specs.declared.pdu.Pdu.{Pdu}
use Rattle.dmr_pdu.specs.Layout.{Row, layout_row, layout, HasChannel, IsListed}

-- each row's number fits its place, and a number of 64 bits becomes another one when the rows are put into it: bit 79
-- is its last bit
abbrev pub ArePacked : ℕ → List Row → ℕ → Type 0
ArePacked number [] packed = number ≡ packed
ArePacked number (r ∷ rows) packed =
    (r.1 < 2 ^ r.0.width)
    × ArePacked (bit_or number (r.1 * 2 ^ (80 - r.0.first - r.0.width) % 2 ^ 64)) rows packed

-- a PDU of the table has this opcode, and its rows after octet 1 are put into this number
pub record HasNumber (pdu : Pdu) (opcode number : ℕ) : Type 0 where
  pub listed : IsListed pdu
  pub channel : HasChannel pdu
  pub begins : take 2 (layout pdu) ≡ layout_row 0 8 opcode ∷ layout_row 8 8 0 ∷ []
  pub rows : ArePacked 0 (drop 2 (layout pdu)) number
