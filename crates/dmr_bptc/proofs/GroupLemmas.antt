-- The sums of octets by a table: two groups of four bits for each octet.
use Rattle.std.proofs.Common.{◌≡◌, ◌==◌, ℕ, ◌+◌, ◌-◌, ◌*◌, ◌/◌, ◌%◌, ◌^◌, ◌<◌, List, length, get_or, refl, bit_and, bit_xor, ap, sym, ◌∙◌}
use Rattle.std.proofs.Common.{arith}
use Rattle.std.specs.Int.Bits.{xor_assoc}
use Rattle.std.proofs.lemmas.Nat.{and_mask, shr-shr}
use Rattle.dmr_bits.specs.Bits.{octet_bit, bits_value}
use Rattle.dmr_bits.proofs.Laws.{bits_value-of_number}
use Rattle.dmr_bptc.specs.Groups.{added, number_at, number_of_bit, AreSumsOfBits}
use Rattle.dmr_bptc.proofs.OddSumLemmas.{added_by, added-four}

-- the upper and the lower half of an octet
upper_half : (octets : List ℕ) (k : ℕ) → get_or octets k 0 < 256 → get_or octets k 0 / 2 ^ 4 ≡ bits_value (octet_bit octets) (4 * (2 * k)) 4
upper_half octets k small =
    let value : bits_value (octet_bit octets) (4 * (2 * k)) 4 ≡ get_or octets k 0 / 2 ^ 4 % 2 ^ 4 =
    bits_value-of_number (octet_bit octets) (4 * (2 * k)) (get_or octets k 0 / 2 ^ 4) 4 (λ j lt.
    let at : (4 * (2 * k) + j) / 8 ≡ k = omega arith in
    let bit : 7 - (4 * (2 * k) + j) % 8 ≡ 4 + (4 - 1 - j) = omega arith in
    rw (at, bit) (ap (λ n. n % 2 == 1) (sym (shr-shr (get_or octets k 0) 4 (4 - 1 - j))))) in
    omega (arith, value, small)

lower_half : (octets : List ℕ) (k : ℕ) → bit_and (get_or octets k 0) 15 ≡ bits_value (octet_bit octets) (4 * (2 * k + 1)) 4
lower_half octets k =
    and_mask (get_or octets k 0) 4
    ∙ sym (bits_value-of_number (octet_bit octets) (4 * (2 * k + 1)) (get_or octets k 0) 4 (λ j lt.
    let at : (4 * (2 * k + 1) + j) / 8 ≡ k = omega arith in
    let bit : 7 - (4 * (2 * k + 1) + j) % 8 ≡ 4 - 1 - j = omega arith in
    rw (at, bit) refl))

module _ (entries : List (List (List ℕ))) (sums : AreSumsOfBits entries) (octets : List ℕ) (part : ℕ) (part_lt : part < 4) where
  abbrev added_to : ℕ → ℕ
  added_to n = added (octet_bit octets) (number_of_bit entries part) n

  group_step : (group value sum : ℕ) → group < length entries → value < 16 → value ≡ bits_value (octet_bit octets) (4 * group) 4 →
      sum ≡ added_to (4 * group)
      → bit_xor sum (number_at entries part group value) ≡ added_to (4 * (group + 1))
  unfolding added_by
  group_step group value sum group_lt small is so_far =
      ap (λ x. bit_xor x (number_at entries part group value)) so_far
      ∙ added-four (octet_bit octets) (number_of_bit entries part) group (number_at entries part group value)
      (sums part group value part_lt group_lt small ∙ ap (added_by (number_of_bit entries part) group) is)

  -- the two halves of an octet are added at once
  pub octet_step : (k upper lower sum : ℕ) → 2 * k + 1 < length entries → get_or octets k 0 < 256 → upper ≡ get_or octets k 0 / 2 ^ 4 →
      lower ≡ bit_and (get_or octets k 0) 15
      → sum ≡ added (octet_bit octets) (number_of_bit entries part) (8 * k)
      → bit_xor sum (bit_xor (number_at entries part (2 * k) upper) (number_at entries part (2 * k + 1) lower)) ≡ added (octet_bit octets)
      (number_of_bit entries part) (8 * (k + 1))
  octet_step k upper lower sum k_lt small upper_is lower_is so_far =
      let begin : 8 * k ≡ 4 * (2 * k) = omega arith in
      let end : 4 * (2 * k + 1 + 1) ≡ 8 * (k + 1) = omega arith in
      let lower_lt : lower < 16 = omega (arith, lower_is, and_mask (get_or octets k 0) 4) in
      sym (xor_assoc sum (number_at entries part (2 * k) upper) (number_at entries part (2 * k + 1) lower))
      ∙ group_step (2 * k + 1) lower (bit_xor sum (number_at entries part (2 * k) upper)) k_lt lower_lt (lower_is ∙ lower_half octets k)
      (group_step (2 * k) upper sum (omega arith) (omega arith) (upper_is ∙ upper_half octets k small) (so_far ∙ ap added_to begin))
      ∙ ap added_to end
