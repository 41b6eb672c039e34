-- The functions `octets_of` and `pdu_of` return the octets that a PDU is written as, and the PDU that agrees with
-- octets.
use Rattle.std.proofs.Common.{◌≡◌, ◌==◌, ℕ, ◌+◌, ◌-◌, ◌*◌, ◌/◌, ◌%◌, ◌^◌, ◌<◌, ◌≤◌, Bool, true, false, cond, List, [], ◌∷◌, Option, Some}
use Rattle.std.proofs.Common.{None, length, get_or, map, refl, sym, ap, ◌∙◌, arith, ⊎_elim, zero-add}
use Rattle.std.specs.Prelude.{◌&&◌, nat_le, IfSome, option_map}
use Rattle.std.specs.List.{range_with_len}
use Rattle.std.proofs.lemmas.Bool.{cases_lt, cases_Bool, lt-ltb, le-ltb, leb-true, eqb-true, eq-eqb, and_from, and_parts, false≢true}
use Rattle.std.proofs.lemmas.List.{get_or_past}
use Rattle.std.proofs.lemmas.List.FromFn.{length-map-range_with_len, get_or-map-range_with_len}
use Rattle.dmr_bits.specs.Bits.{octet_bit, bits_value, field_of, IsOctets}
use Rattle.dmr_bits.proofs.Laws.{octets-same, bits_value-lt, bits_value-bit}
use Rattle.dmr_pdu.specs.Channels.{IsChannel}
use Rattle.dmr_pdu.specs.declared.pdu.Pdu.{Pdu}
use Rattle.dmr_pdu.specs.declared.pdu.Pdu.TheVariants.{Other}
use Rattle.dmr_pdu.specs.Layout.{Row, layout, Holds, HasChannel, IsListed, IsLaidOut, SpellsPdu, Agrees}
use Rattle.dmr_pdu.specs.Reading.{channel, read_as}
use Rattle.dmr_pdu.specs.Functions.{row_bit, octets_of, do_hold, pdu_or_other, pdu_of}
use Rattle.dmr_pdu.proofs.RowLemmas.{fills, follows}
use Rattle.dmr_pdu.proofs.LayoutLemmas.{layout-fills, laid_out-read, agrees-laid_out, agrees-same, agrees-other, agrees-other_same}

-- ---- the octets of a PDU

-- if rows that fill the octets hold, each bit is that of the rows
row_bit-is : (first : ℕ) (rows : List Row) (octets : List ℕ) → fills first rows ≡ true → Holds octets rows → (q : ℕ) → first ≤ q → q < 80 →
    row_bit rows q ≡ octet_bit octets q
row_bit-is first [] octets e holds q low high = absurd (omega (arith, eqb-true first 80 e))
row_bit-is first (r ∷ rows) octets e holds q low high =
    let here = follows first r rows e in
    ⊎_elim
    (λ (inside : q < r.0.first + r.0.width).
    let at : r.0.first + (q - first) ≡ q = omega (arith, here.starts) in
    let place : r.0.first + r.0.width - 1 - q ≡ r.0.width - 1 - (q - first) = omega (arith, here.starts) in
    rw (lt-ltb q (r.0.first + r.0.width) inside)
    (ap (λ k. r.1 / 2 ^ k % 2 == 1) place
    ∙ ap (λ n. n / 2 ^ (r.0.width - 1 - (q - first)) % 2 == 1) (sym holds.0)
    ∙ bits_value-bit (octet_bit octets) r.0.first r.0.width (q - first) (omega (arith, here.starts))
    ∙ ap (octet_bit octets) at))
    (λ (behind : r.0.first + r.0.width ≤ q).
    rw (le-ltb q (r.0.first + r.0.width) behind)
    (row_bit-is (first + r.0.width) rows octets here.rest holds.1 q (omega (arith, here.starts)) high))
    (cases_lt q (r.0.first + r.0.width))

written : List Row → List ℕ
written rows = map (λ k. bits_value (row_bit rows) (8 * k) 8) (range_with_len 0 10)

length-written : (rows : List Row) → length (written rows) ≡ 10
unfolding written
length-written rows = length-map-range_with_len (λ k. bits_value (row_bit rows) (8 * k) 8) 0 10

octet-written : (rows : List Row) (k : ℕ) → k < 10 → get_or (written rows) k 0 ≡ bits_value (row_bit rows) (8 * k) 8
unfolding written
octet-written rows k lt = get_or-map-range_with_len (λ k. bits_value (row_bit rows) (8 * k) 8) 0 10 k k 0 lt (zero-add k)

written-octets : (rows : List Row) → IsOctets 10 (written rows)
written-octets rows = record {
  len = length-written rows;
  small = λ k. ⊎_elim
      (λ (lt : k < 10). omega (arith, octet-written rows k lt, bits_value-lt (row_bit rows) (8 * k) 8))
      (λ (le : 10 ≤ k). omega (arith, get_or_past (written rows) k 0 (omega (arith, length-written rows))))
      (cases_lt k 10);
}

written-bit : (rows : List Row) (q : ℕ) → q < 80 → octet_bit (written rows) q ≡ row_bit rows q
written-bit rows q lt =
    let at : 8 * (q / 8) + q % 8 ≡ q = omega arith in
    rw (octet-written rows (q / 8) (omega arith))
    (bits_value-bit (row_bit rows) (8 * (q / 8)) 8 (q % 8) (omega arith) ∙ ap (row_bit rows) at)

written-is : (pdu : Pdu) (octets : List ℕ) → IsOctets 10 octets → IsLaidOut pdu octets → written (layout pdu) ≡ octets
written-is pdu octets is_octets is =
    octets-same 10 (written (layout pdu)) octets (written-octets (layout pdu)) is_octets (λ q lt.
    written-bit (layout pdu) q (omega arith) ∙ row_bit-is 0 (layout pdu) octets (layout-fills pdu is.listed) is.rows q (omega arith)
    (omega arith))

-- octets that a PDU is written as are its octets
pub octets_of-spells : (pdu : Pdu) (octets : List ℕ) → IsOctets 10 octets → SpellsPdu pdu octets → octets_of pdu ≡ octets
unfolding octets_of SpellsPdu written
octets_of-spells (Other carried) octets is_octets is = is
octets_of-spells pdu octets is_octets is = written-is pdu octets is_octets is

-- ---- the PDU of octets

do_hold-true : (octets : List ℕ) (rows : List Row) → do_hold octets rows ≡ true → Holds octets rows
do_hold-true octets [] e = tt
do_hold-true octets (r ∷ rows) e =
    let parts = and_parts (field_of octets r.0.first r.0.width == r.1) (do_hold octets rows) e in
    (eqb-true (field_of octets r.0.first r.0.width) r.1 parts.0, do_hold-true octets rows parts.1)

do_hold-holds : (octets : List ℕ) (rows : List Row) → Holds octets rows → do_hold octets rows ≡ true
do_hold-holds octets [] holds = refl
do_hold-holds octets (r ∷ rows) holds = and_from (field_of octets r.0.first r.0.width == r.1) (do_hold octets rows)
    (eq-eqb (field_of octets r.0.first r.0.width) r.1 holds.0) (do_hold-holds octets rows holds.1)

-- a PDU that was read has a layout, and a channel number from 1 to 4094 if it has any
record IsFormed (pdu : Pdu) : Type 0 where
  listed : IsListed pdu
  channel_is : HasChannel pdu

either : (b : Bool) (x y : Option Pdu) → IfSome x IsFormed → IfSome y IsFormed → IfSome (cond b x y) IsFormed
either true x y x_is y_is = x_is
either false x y x_is y_is = y_is

channel-within : (n : ℕ) (b : Bool) → (nat_le 1 n && nat_le n 4094) ≡ b → (f : ℕ → Pdu) →
    ((lpcn : ℕ) → IsChannel lpcn → IsFormed (f lpcn)) → IfSome (option_map f (cond b (Some n) None)) IsFormed
channel-within n false e f formed = tt
channel-within n true e f formed = let parts =
    and_parts (nat_le 1 n) (nat_le n 4094) e in formed n (leb-true 1 n parts.0, leb-true n 4094 parts.1)

on_channel : (n : ℕ) (f : ℕ → Pdu) → ((lpcn : ℕ) → IsChannel lpcn → IsFormed (f lpcn)) → IfSome (option_map f (channel n)) IsFormed
on_channel n f formed = channel-within n (nat_le 1 n && nat_le n 4094) refl f formed

read_as-formed : (opcode : ℕ) (o : List ℕ) → IfSome (read_as opcode o) IsFormed
unfolding read_as IsListed HasChannel
read_as-formed opcode o =
    either (opcode == 0x99) _ _ (record { listed = tt; channel_is = tt })
    (either (opcode == 0x9C) _ _ (record { listed = tt; channel_is = tt })
    (either (opcode == 0x9F) _ _ (record { listed = tt; channel_is = tt })
    (either (opcode == 0xA0) _ _ (record { listed = tt; channel_is = tt })
    (either (opcode == 0xA1) _ _ (record { listed = tt; channel_is = tt })
    (either (opcode == 0xAE) _ _ (on_channel (field_of o 16 12) _ (λ lpcn is. record { listed = tt; channel_is = is }))
    (either (opcode == 0xB0) _ _ (on_channel (field_of o 16 12) _ (λ lpcn is. record { listed = tt; channel_is = is }))
    (either (opcode == 0xB1) _ _ (on_channel (field_of o 16 12) _ (λ lpcn is. record { listed = tt; channel_is = is }))
    (either (opcode == 0xB9) _ _ (on_channel (field_of o 44 12) _ (λ lpcn is. record { listed = tt; channel_is = is }))
    tt))))))))

-- if nothing is read, or the layout does not hold, no PDU is laid out in the octets
none-unread : (octets : List ℕ) → read_as (field_of octets 0 8) octets ≡ None → (pdu : Pdu) → ¬ IsLaidOut pdu octets
none-unread octets e pdu is = let read : read_as (field_of octets 0 8) octets ≡ Some pdu =
    laid_out-read pdu octets is in let both : None ≡ Some pdu = sym e ∙ read in cc

pdu_or_other-agrees : (octets : List ℕ) (found : Option Pdu) → read_as (field_of octets 0 8) octets ≡ found → IfSome found IsFormed →
    Agrees (pdu_or_other octets found) octets
pdu_or_other-agrees octets None e formed = agrees-other octets (none-unread octets e)
pdu_or_other-agrees octets (Some pdu) e formed =
    ⊎_elim
    (λ (yes : do_hold octets (layout pdu) ≡ true).
    rw yes (agrees-laid_out pdu octets
    (record { listed = formed.listed; rows = do_hold-true octets (layout pdu) yes; channel = formed.channel_is })))
    (λ (no : do_hold octets (layout pdu) ≡ false).
    rw no (agrees-other octets (λ other is.
    let read : read_as (field_of octets 0 8) octets ≡ Some other = laid_out-read other octets is in
    let both : Some pdu ≡ Some other = sym e ∙ read in
    let same : pdu ≡ other = cc in
    let holds : do_hold octets (layout pdu) ≡ true =
    ap (λ (p : Pdu). do_hold octets (layout p)) same ∙ do_hold-holds octets (layout other) is.rows in
    false≢true (sym no ∙ holds))))
    (cases_Bool (do_hold octets (layout pdu)))

pub pdu_of-agrees : (octets : List ℕ) → Agrees (pdu_of octets) octets
unfolding pdu_of
pdu_of-agrees octets = pdu_or_other-agrees octets (read_as (field_of octets 0 8) octets) refl (read_as-formed (field_of octets 0 8) octets)

-- at most one PDU agrees with octets
pub agrees_once : (p q : Pdu) (octets : List ℕ) → Agrees p octets → Agrees q octets → p ≡ q
unfolding Agrees
agrees_once (Other carried) q octets is q_is = ap Other is.0 ∙ sym (agrees-other_same q octets is.1 q_is)
agrees_once p q octets is q_is = sym (agrees-same p q octets is q_is)

pub pdu_of-only : (pdu : Pdu) (octets : List ℕ) → Agrees pdu octets → pdu_of octets ≡ pdu
pdu_of-only pdu octets is = agrees_once (pdu_of octets) pdu octets (pdu_of-agrees octets) is
