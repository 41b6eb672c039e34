-- The rows after octet 1 in one number of 64 bits, and that number in octets 2 to 9.
use Rattle.std.proofs.Common.{◌≡◌, ◌==◌, ℕ, zero, suc, ◌+◌, ◌-◌, ◌*◌, ◌/◌, ◌%◌, ◌^◌, ◌<◌, ◌≤◌, true, List, [], ◌∷◌, ◌++◌, drop, length}
use Rattle.std.proofs.Common.{subst, take-append-drop, get_or, refl, sym, ap, ◌∙◌, arith, ⊎_elim}
use Rattle.std.specs.Prelude.{bit_or}
use Rattle.std.specs.Int.{w64, bit_at, to_be_bytes, from_be_bytes}
use Rattle.std.proofs.Math.Nat.{mod-eq_of_lt}
use Rattle.std.proofs.lemmas.Bool.{cases_lt}
use Rattle.std.proofs.lemmas.List.{get_or_past, get_or-drop}
use Rattle.std.proofs.lemmas.Nat.{pow_pos, shr-shr, shl_whole, shl_below, field_of, mod-pow-add, be_bytes_8}
use Rattle.std.proofs.lemmas.Nat.Bits.{bit_at_or, bit_at-zero, bit_at_above, bit_at_cat_low, bit_at_cat_high}
use Rattle.dmr_bits.specs.Bits.{octet_bit, field_of as bits_of_field, IsOctets}
use Rattle.dmr_bits.proofs.Laws.{bits_value-of_number, bits_value-bit}
use Rattle.dmr_pdu.specs.declared.pdu.Pdu.{Pdu}
use Rattle.dmr_pdu.specs.Layout.{Row, layout_row, layout, Holds, IsLaidOut, SpellsPdu}
use Rattle.dmr_pdu.specs.Rows.{ArePacked, HasNumber}
use Rattle.dmr_pdu.proofs.LayoutLemmas.{layout-fills, laid_out_alone, spells-laid_out}
use Rattle.dmr_pdu.proofs.RowLemmas.{fills, follows, fills-le}

-- ---- octets of a number

-- eight bits that are an octet spell it
pub octet-field : (octets : List ℕ) (k : ℕ) → get_or octets k 0 < 256 → bits_of_field octets (8 * k) 8 ≡ get_or octets k 0
octet-field octets k small =
    bits_value-of_number (octet_bit octets) (8 * k) (get_or octets k 0) 8 (λ j lt.
    let at : (8 * k + j) / 8 ≡ k = omega arith in
    let bit : 7 - (8 * k + j) % 8 ≡ 8 - 1 - j = omega arith in
    rw (at, bit) refl)
    ∙ mod-eq_of_lt small

-- an octet of a number, its most significant octet first
number_octet : (n j : ℕ) → j < 8 → get_or (to_be_bytes w64 n) j 0 ≡ n / 2 ^ (8 * (7 - j)) % 2 ^ 8
number_octet n zero lt = refl
number_octet n (suc zero) lt = refl
number_octet n (suc (suc zero)) lt = refl
number_octet n (suc (suc (suc zero))) lt = refl
number_octet n (suc (suc (suc (suc zero)))) lt = refl
number_octet n (suc (suc (suc (suc (suc zero))))) lt = refl
number_octet n (suc (suc (suc (suc (suc (suc zero)))))) lt = refl
number_octet n (suc (suc (suc (suc (suc (suc (suc zero))))))) lt = let e : n / 1 ≡ n = omega arith in ap (λ m. m % 256) (sym e)
number_octet n (suc (suc (suc (suc (suc (suc (suc (suc j)))))))) lt = absurd (omega arith)

bit_of_octet : (n j k : ℕ) → k < 8 → n / 2 ^ j % 2 ^ 8 / 2 ^ k % 2 ≡ n / 2 ^ (j + k) % 2
bit_of_octet n j k lt =
    let m : ℕ = n / 2 ^ j in
    let eight : 8 ≡ 8 - k + k = omega arith in
    let fewer : 8 - k ≡ 7 - k + 1 = omega arith in
    let cut : m % 2 ^ 8 / 2 ^ k ≡ m / 2 ^ k % 2 ^ (8 - k) = ap (λ e. m % 2 ^ e / 2 ^ k) eight ∙ field_of m (8 - k) k in
    let parity : m / 2 ^ k % 2 ^ (8 - k) % 2 ≡ m / 2 ^ k % 2 =
    ap (λ e. m / 2 ^ k % 2 ^ e % 2) fewer ∙ omega (arith, mod-pow-add (m / 2 ^ k) (7 - k) 1) in
    ap (λ x. x % 2) cut ∙ parity ∙ ap (λ x. x % 2) (shr-shr n j k)

-- the bits of a number in its octets
number_bit : (n k : ℕ) → k < 64 → get_or (to_be_bytes w64 n) (k / 8) 0 / 2 ^ (7 - k % 8) % 2 ≡ n / 2 ^ (63 - k) % 2
number_bit n k lt =
    let at : 8 * (7 - k / 8) + (7 - k % 8) ≡ 63 - k = omega arith in
    ap (λ m. m / 2 ^ (7 - k % 8) % 2) (number_octet n (k / 8) (omega arith))
    ∙ bit_of_octet n (8 * (7 - k / 8)) (7 - k % 8) (omega arith)
    ∙ ap (λ s. n / 2 ^ s % 2) at

-- the number that eight octets spell is the field that they are
pub field-number : (octets : List ℕ) (begin n : ℕ) → length (drop begin octets) ≡ 8 → ((k : ℕ) → get_or (drop begin octets) k 0 < 256) →
    n < 2 ^ 64 → n ≡ from_be_bytes w64 (drop begin octets)
    → n ≡ bits_of_field octets (8 * begin) 64
field-number octets begin n len small fits is =
    sym (bits_value-of_number (octet_bit octets) (8 * begin) n 64 (λ k lt.
    let at : (8 * begin + k) / 8 ≡ begin + k / 8 = omega arith in
    let bit : 7 - (8 * begin + k) % 8 ≡ 7 - k % 8 = omega arith in
    let octet : get_or octets (begin + k / 8) 0 ≡ get_or (to_be_bytes w64 n) (k / 8) 0 =
    sym (get_or-drop begin octets (k / 8) 0) ∙ ap (λ (bytes : List ℕ). get_or bytes (k / 8) 0)
    (sym (be_bytes_8 (drop begin octets) n len small is)) in
    rw (at, bit, octet) (ap (λ m. m == 1) (number_bit n k lt)))
    ∙ mod-eq_of_lt fits)

-- ---- rows in a number

placed_above : (value width s k : ℕ) → value < 2 ^ width → width + s ≤ 64 → width + s ≤ k → bit_at (value * 2 ^ s % 2 ^ 64) k ≡ 0
placed_above value width s k fits within above =
    ap (λ n. bit_at n k) (shl_whole value width s 64 fits within) ∙ bit_at_above (value * 2 ^ s) (width + s) k
    (shl_below value width s fits) above

placed_in : (value width s k : ℕ) → value < 2 ^ width → width + s ≤ 64 → s ≤ k → bit_at (value * 2 ^ s % 2 ^ 64) k ≡ bit_at value (k - s)
placed_in value width s k fits within low =
    let plain : value * 2 ^ s ≡ value * 2 ^ s + 0 = omega arith in
    ap (λ n. bit_at n k) (shl_whole value width s 64 fits within ∙ plain) ∙ bit_at_cat_high value s 0 k (pow_pos s) low

placed_below : (value width s k : ℕ) → value < 2 ^ width → width + s ≤ 64 → k < s → bit_at (value * 2 ^ s % 2 ^ 64) k ≡ 0
placed_below value width s k fits within below =
    let plain : value * 2 ^ s ≡ value * 2 ^ s + 0 = omega arith in
    ap (λ n. bit_at n k) (shl_whole value width s 64 fits within ∙ plain) ∙ bit_at_cat_low value s 0 k below ∙ bit_at-zero k

-- rows from a bit on leave the bits before it as they are
packed-before : (first : ℕ) (rows : List Row) (number packed : ℕ) → fills first rows ≡ true → 16 ≤ first → ArePacked number rows packed →
    (k : ℕ) → 80 - first ≤ k → bit_at packed k ≡ bit_at number k
packed-before first [] number packed e low are k before = ap (λ n. bit_at n k) (sym are)
packed-before first (r ∷ rows) number packed e low are k before =
    let here = follows first r rows e in
    let end : first + r.0.width ≤ 80 = fills-le (first + r.0.width) rows here.rest in
    let shift : ℕ = 80 - r.0.first - r.0.width in
    packed-before (first + r.0.width) rows (bit_or number (r.1 * 2 ^ shift % 2 ^ 64)) packed here.rest (omega arith) are.1 k (omega arith)
    ∙ bit_at_or number (r.1 * 2 ^ shift % 2 ^ 64) k
    ∙ omega (arith, placed_above r.1 r.0.width shift k are.0 (omega (arith, here.starts)) (omega (arith, here.starts)))

-- if octets have the bits of a number into which rows were put, the rows hold
packed-hold : (octets : List ℕ) (packed : ℕ) → ((q : ℕ) → 16 ≤ q → q < 80 → octet_bit octets q ≡ (packed / 2 ^ (79 - q) % 2 == 1))
    → (first : ℕ) (rows : List Row) (number : ℕ) → fills first rows ≡ true → 16 ≤ first → ArePacked number rows packed →
    ((k : ℕ) → k < 80 - first → bit_at number k ≡ 0) → Holds octets rows
packed-hold octets packed bits first [] number e low are blank = tt
packed-hold octets packed bits first (r ∷ rows) number e low are blank =
    let here = follows first r rows e in
    let end : first + r.0.width ≤ 80 = fills-le (first + r.0.width) rows here.rest in
    let shift : ℕ = 80 - r.0.first - r.0.width in
    let placed : ℕ = r.1 * 2 ^ shift % 2 ^ 64 in
    let within : r.0.width + shift ≤ 64 = omega (arith, here.starts) in (
      bits_value-of_number (octet_bit octets) r.0.first r.1 r.0.width (λ k lt.
          let place : ℕ = 79 - (r.0.first + k) in
          let at : place - shift ≡ r.0.width - 1 - k = omega (arith, here.starts) in
          bits (r.0.first + k) (omega (arith, here.starts)) (omega (arith, here.starts))
          ∙ ap (λ n. n == 1) (
          packed-before (first + r.0.width) rows (bit_or number placed) packed here.rest (omega arith) are.1 place
          (omega (arith, here.starts))
          ∙ bit_at_or number placed place
          ∙ omega (arith, blank place (omega (arith, here.starts)))
          ∙ placed_in r.1 r.0.width shift place are.0 within (omega (arith, here.starts))
          ∙ ap (bit_at r.1) at))
          ∙ mod-eq_of_lt are.0,
      packed-hold octets packed bits (first + r.0.width) rows (bit_or number placed) here.rest (omega arith) are.1 (λ k lt.
          bit_at_or number placed k
          ∙ omega (arith, blank k (omega arith), placed_below r.1 r.0.width shift k are.0 within (omega (arith, here.starts)))),
    )

-- a PDU is laid out in octets that have its opcode, 0, and its number
has_number-laid_out : (octets : List ℕ) (opcode n : ℕ) → bits_of_field octets 0 8 ≡ opcode → bits_of_field octets 8 8 ≡ 0
    → ((q : ℕ) → 16 ≤ q → q < 80 → octet_bit octets q ≡ (n / 2 ^ (79 - q) % 2 == 1)) → (pdu : Pdu) → HasNumber pdu opcode n →
    IsLaidOut pdu octets
has_number-laid_out octets opcode n first second bits pdu is =
    let rows : List Row = layout_row 0 8 opcode ∷ layout_row 8 8 0 ∷ drop 2 (layout pdu) in
    let begins : rows ≡ layout pdu =
    ap (λ (firsts : List Row). firsts ++ drop 2 (layout pdu)) (sym is.begins) ∙ take-append-drop 2 (layout pdu) in
    let whole : fills 0 rows ≡ true = ap (fills 0) begins ∙ layout-fills pdu is.listed in
    let hold : Holds octets rows =
    (first, (second, packed-hold octets n bits 16 (drop 2 (layout pdu)) 0 whole (omega arith) is.rows (λ k lt. bit_at-zero k))) in
    record { listed = is.listed; rows = subst (Holds octets) begins hold; channel = is.channel }

-- that is, in octets of which octet 1 is 0 and the rest spells its number
pub number-laid_out : (octets : List ℕ) (n : ℕ) → get_or octets 1 0 ≡ 0 → bits_of_field octets 16 64 ≡ n → (pdu : Pdu) →
    HasNumber pdu (bits_of_field octets 0 8) n → IsLaidOut pdu octets
number-laid_out octets n zero_octet number pdu is =
    has_number-laid_out octets (bits_of_field octets 0 8) n refl (octet-field octets 1 (omega (arith, zero_octet)) ∙ zero_octet)
    (λ q low high.
    let at : 16 + (q - 16) ≡ q = omega arith in
    let shift : 64 - 1 - (q - 16) ≡ 79 - q = omega arith in
    ap (octet_bit octets) (sym at) ∙ sym (bits_value-bit (octet_bit octets) 16 64 (q - 16) (omega arith))
    ∙ ap (λ s. bits_of_field octets 16 64 / 2 ^ s % 2 == 1) shift
    ∙ ap (λ m. m / 2 ^ (79 - q) % 2 == 1) number) pdu is

-- an octet, 0, and a number
module _ (opcode n : ℕ) (small : opcode < 256) where
  octet_small : (k : ℕ) → get_or (to_be_bytes w64 n) k 0 < 256
  octet_small k =
      ⊎_elim
      (λ (lt : k < 8). omega (arith, number_octet n k lt))
      (λ (le : 8 ≤ k). let past : get_or (to_be_bytes w64 n) k 0 ≡ 0 = get_or_past (to_be_bytes w64 n) k 0 le in omega arith)
      (cases_lt k 8)

  each_small : (k : ℕ) → get_or (opcode ∷ 0 ∷ to_be_bytes w64 n) k 0 < 256
  each_small zero = small
  each_small (suc zero) = omega arith
  each_small (suc (suc k)) = octet_small k

  pub spelled-octets : IsOctets 10 (opcode ∷ 0 ∷ to_be_bytes w64 n)
  spelled-octets = record { len = refl; small = each_small }

  spelled-opcode : bits_of_field (opcode ∷ 0 ∷ to_be_bytes w64 n) 0 8 ≡ opcode
  spelled-opcode = octet-field (opcode ∷ 0 ∷ to_be_bytes w64 n) 0 small

  spelled-zero : bits_of_field (opcode ∷ 0 ∷ to_be_bytes w64 n) 8 8 ≡ 0
  spelled-zero = octet-field (opcode ∷ 0 ∷ to_be_bytes w64 n) 1 (omega arith)

  spelled-bit : (q : ℕ) → 16 ≤ q → q < 80 → octet_bit (opcode ∷ 0 ∷ to_be_bytes w64 n) q ≡ (n / 2 ^ (79 - q) % 2 == 1)
  spelled-bit q low high =
      let at : q / 8 ≡ suc (suc ((q - 16) / 8)) = omega arith in
      let bit : 7 - q % 8 ≡ 7 - (q - 16) % 8 = omega arith in
      let shift : 63 - (q - 16) ≡ 79 - q = omega arith in
      rw (at, bit) (ap (λ m. m == 1) (number_bit n (q - 16) (omega arith) ∙ ap (λ s. n / 2 ^ s % 2) shift))

  -- a PDU that has the number is laid out there
  spelled-laid_out : (pdu : Pdu) → HasNumber pdu opcode n → IsLaidOut pdu (opcode ∷ 0 ∷ to_be_bytes w64 n)
  spelled-laid_out pdu is = has_number-laid_out (opcode ∷ 0 ∷ to_be_bytes w64 n) opcode n spelled-opcode spelled-zero spelled-bit pdu is

  pub spelled-is : (octets : List ℕ) → octets ≡ opcode ∷ 0 ∷ to_be_bytes w64 n → (pdu : Pdu) → HasNumber pdu opcode n → SpellsPdu pdu octets
  spelled-is octets same pdu is =
      subst (SpellsPdu pdu) (sym same) (spells-laid_out pdu (opcode ∷ 0 ∷ to_be_bytes w64 n) (spelled-laid_out pdu is))

  spelled-number : n < 2 ^ 64 → bits_of_field (opcode ∷ 0 ∷ to_be_bytes w64 n) 16 64 ≡ n
  spelled-number fits =
      bits_value-of_number (octet_bit (opcode ∷ 0 ∷ to_be_bytes w64 n)) 16 n 64 (λ k lt.
      let shift : 79 - (16 + k) ≡ 64 - 1 - k = omega arith in
      spelled-bit (16 + k) (omega arith) (omega arith) ∙ ap (λ s. n / 2 ^ s % 2 == 1) shift)
      ∙ mod-eq_of_lt fits

  -- and it is laid out in no other octets
  pub has_number-octets : n < 2 ^ 64 → (octets : List ℕ) → IsOctets 10 octets → (pdu : Pdu) → HasNumber pdu opcode n →
      IsLaidOut pdu octets → (get_or octets 1 0 ≡ 0) × (bits_of_field octets 16 64 ≡ n)
  has_number-octets fits octets is_octets pdu has is =
      let same : octets ≡ opcode ∷ 0 ∷ to_be_bytes w64 n =
      laid_out_alone pdu octets (opcode ∷ 0 ∷ to_be_bytes w64 n) is_octets spelled-octets is (spelled-laid_out pdu has) in
      (ap (λ (o : List ℕ). get_or o 1 0) same, ap (λ (o : List ℕ). bits_of_field o 16 64) same ∙ spelled-number fits)
