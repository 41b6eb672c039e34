-- Rows that follow one another determine ten octets.
use Rattle.std.proofs.Common.{◌≡◌, ◌==◌, ℕ, ◌+◌, ◌-◌, ◌<◌, ◌≤◌, Bool, true, List, [], ◌∷◌, sym, ap, ◌∙◌, arith, ⊎_elim}
use Rattle.std.specs.Prelude.{◌&&◌, nat_le}
use Rattle.std.proofs.lemmas.Bool.{cases_lt, eqb-true, leb-true}
use Rattle.dmr_bits.specs.Bits.{octet_bit, IsOctets}
use Rattle.dmr_bits.proofs.Laws.{bits_value-injective, octets-same}
use Rattle.dmr_pdu.specs.Layout.{Row, Holds}
use Rattle.dmr_pdu.proofs.ListLaws.{left, right}

-- the places follow one another, from a bit on to bit 80
abbrev pub fills : ℕ → List Row → Bool
fills first [] = first == 80
fills first (r ∷ rows) = (r.0.first == first) && (nat_le r.0.width 32 && fills (first + r.0.width) rows)

-- the facts about the first of rows that follow one another
pub record Follows (first : ℕ) (r : Row) (rows : List Row) : Type 0 where
  pub starts : r.0.first ≡ first
  pub width : r.0.width ≤ 32
  pub rest : fills (first + r.0.width) rows ≡ true

pub follows : (first : ℕ) (r : Row) (rows : List Row) → fills first (r ∷ rows) ≡ true → Follows first r rows
follows first r rows e =
    let tail = right (r.0.first == first) (nat_le r.0.width 32 && fills (first + r.0.width) rows) e in
    record {
      starts = eqb-true r.0.first first (left (r.0.first == first) (nat_le r.0.width 32 && fills (first + r.0.width) rows) e);
      width = leb-true r.0.width 32 (left (nat_le r.0.width 32) (fills (first + r.0.width) rows) tail);
      rest = right (nat_le r.0.width 32) (fills (first + r.0.width) rows) tail;
    }

pub fills-le : (first : ℕ) (rows : List Row) → fills first rows ≡ true → first ≤ 80
fills-le first [] e = omega (arith, eqb-true first 80 e)
fills-le first (r ∷ rows) e = omega (arith, fills-le (first + r.0.width) rows (follows first r rows e).rest)

-- rows that fill the octets determine each bit
pub rows_bits : (first : ℕ) (rows : List Row) (a b : List ℕ) → fills first rows ≡ true → Holds a rows → Holds b rows → (q : ℕ) → first ≤ q →
    q < 80 → octet_bit a q ≡ octet_bit b q
rows_bits first [] a b e a_holds b_holds q low high = absurd (omega (arith, eqb-true first 80 e))
rows_bits first (r ∷ rows) a b e a_holds b_holds q low high =
    let here = follows first r rows e in
    ⊎_elim
    (λ (inside : q < first + r.0.width).
    let at : r.0.first + (q - first) ≡ q = omega (arith, here.starts) in
    let same : octet_bit a (r.0.first + (q - first)) ≡ octet_bit b (r.0.first + (q - first)) =
    bits_value-injective (octet_bit a) (octet_bit b) r.0.first r.0.width (a_holds.0 ∙ sym b_holds.0) (q - first) (omega arith) in
    ap (octet_bit a) (sym at) ∙ same ∙ ap (octet_bit b) at)
    (λ (behind : first + r.0.width ≤ q). rows_bits (first + r.0.width) rows a b here.rest a_holds.1 b_holds.1 q behind high)
    (cases_lt q (first + r.0.width))

-- rows that fill the octets hold in only one list of octets
pub rows_determine : (rows : List Row) (a b : List ℕ) → fills 0 rows ≡ true → IsOctets 10 a → IsOctets 10 b → Holds a rows → Holds b rows →
    a ≡ b
rows_determine rows a b e a_octets b_octets a_holds b_holds =
    octets-same 10 a b a_octets b_octets (λ q lt. rows_bits 0 rows a b e a_holds b_holds q (omega arith) (omega arith))
