-- Writing a field among bits, by whole octets.
use Rattle.std.proofs.Common.{◌≡◌, ◌==◌, ℕ, ◌+◌, ◌-◌, ◌*◌, ◌/◌, ◌%◌, ◌^◌, ◌<◌, ◌≤◌, Bool, true, false, cond, List, get_or, bit_and, refl}
use Rattle.std.proofs.Common.{sym, ap, ◌∙◌, arith, ltb, ⊎_elim}
use Rattle.std.proofs.Math.Nat.{mod-eq_of_lt}
use Rattle.std.proofs.lemmas.Bool.{lt-ltb, le-ltb, cases_lt}
use Rattle.std.proofs.lemmas.Nat.{and_mask, one_shl, shr_high, mod_low, shl_whole}
use Rattle.dmr_bits.specs.Bits.{octet_bit, bits_value}
use Rattle.dmr_bits.proofs.BitLemmas.{bits_value-of_number, bits_value-below_number, bits_value-lt, bits_value-add, bits_value-same}
use Rattle.dmr_bits.proofs.BitLemmas.{bits_value-bit, bits_value-field}

-- bits, with those of a number in a field of them
unfoldable pub field_bit : (ℕ → Bool) → ℕ → ℕ → ℕ → ℕ → Bool
field_bit bit first width value q =
    cond (ltb q first) (bit q) (cond (ltb q (first + width)) (value / 2 ^ (width - 1 - (q - first)) % 2 == 1) (bit q))

pub field_bit-before : (bit : ℕ → Bool) (first width value q : ℕ) → q < first → field_bit bit first width value q ≡ bit q
unfolding field_bit
field_bit-before bit first width value q lt = rw (lt-ltb q first lt) refl

pub field_bit-after : (bit : ℕ → Bool) (first width value q : ℕ) → first + width ≤ q → field_bit bit first width value q ≡ bit q
unfolding field_bit
field_bit-after bit first width value q le =
    let not_before : ltb q first ≡ false = le-ltb q first (omega arith) in
    let not_in : ltb q (first + width) ≡ false = le-ltb q (first + width) le in
    rw (not_before, not_in) refl

pub field_bit-in : (bit : ℕ → Bool) (first width value k : ℕ) → k < width →
    field_bit bit first width value (first + k) ≡ (value / 2 ^ (width - 1 - k) % 2 == 1)
unfolding field_bit
field_bit-in bit first width value k lt =
    let not_before : ltb (first + k) first ≡ false = le-ltb (first + k) first (omega arith) in
    let within : ltb (first + k) (first + width) ≡ true = lt-ltb (first + k) (first + width) (omega arith) in
    let at : first + k - first ≡ k = omega arith in
    rw (not_before, within, at) refl

-- the value of octets after a field in them was written: `a` bits before the field, `s` after it
module _ (bit : ℕ → Bool) (begin a w s value old : ℕ) (is : old ≡ bits_value bit begin (a + (w + s))) (fits : value < 2 ^ w) where
  new : ℕ → Bool
  new = field_bit bit (begin + a) w value

  new_spelled : bits_value (field_bit bit (begin + a) w value) begin (a + (w + s)) ≡ bits_value bit begin a * 2 ^ (w + s) +
      (value * 2 ^ s + bits_value bit (begin + a + w) s)
  new_spelled =
      let front : bits_value (field_bit bit (begin + a) w value) begin a ≡ bits_value bit begin a =
      bits_value-same (field_bit bit (begin + a) w value) bit begin a
      (λ k lt. field_bit-before bit (begin + a) w value (begin + k) (omega arith)) in
      let middle : bits_value (field_bit bit (begin + a) w value) (begin + a) w ≡ value =
      bits_value-of_number (field_bit bit (begin + a) w value) (begin + a) value w (λ k lt. field_bit-in bit (begin + a) w value k lt)
      ∙ mod-eq_of_lt fits in
      let back : bits_value (field_bit bit (begin + a) w value) (begin + a + w) s ≡ bits_value bit (begin + a + w) s =
      bits_value-same (field_bit bit (begin + a) w value) bit (begin + a + w) s
      (λ k lt. field_bit-after bit (begin + a) w value (begin + a + w + k) (omega arith)) in
      bits_value-add (field_bit bit (begin + a) w value) begin a (w + s)
      ∙ ap (λ n. bits_value (field_bit bit (begin + a) w value) begin a * 2 ^ (w + s) + n)
      (bits_value-add (field_bit bit (begin + a) w value) (begin + a) w s)
      ∙ (λ i. front i * 2 ^ (w + s) + (middle i * 2 ^ s + back i))

  old_high : old / 2 ^ (w + s) ≡ bits_value bit begin a
  old_high =
      ap (λ n. n / 2 ^ (w + s)) (is ∙ bits_value-add bit begin a (w + s))
      ∙ shr_high (bits_value bit begin a) (w + s) (bits_value bit (begin + a) (w + s)) (bits_value-lt bit (begin + a) (w + s))

  old_low : old % 2 ^ s ≡ bits_value bit (begin + a + w) s
  old_low =
      let whole : a + (w + s) ≡ a + w + s = omega arith in
      let at : begin + (a + w) ≡ begin + a + w = omega arith in
      ap (λ n. n % 2 ^ s) (is ∙ ap (bits_value bit begin) whole ∙ bits_value-add bit begin (a + w) s)
      ∙ mod_low (bits_value bit begin (a + w)) s (bits_value bit (begin + (a + w)) s) (bits_value-lt bit (begin + (a + w)) s)
      ∙ ap (λ n. bits_value bit n s) at

  written_number : a + (w + s) ≤ 64 → s < 8
      → old / 2 ^ (w + s) * 2 ^ (w + s) % 2 ^ 64 + value * 2 ^ s % 2 ^ 64 + bit_and old (1 * 2 ^ s % 2 ^ 64 - 1)
      ≡ bits_value (field_bit bit (begin + a) w value) begin (a + (w + s))
  written_number small few =
      let high : old / 2 ^ (w + s) * 2 ^ (w + s) % 2 ^ 64 ≡ bits_value bit begin a * 2 ^ (w + s) =
      ap (λ n. n * 2 ^ (w + s) % 2 ^ 64) old_high ∙ shl_whole (bits_value bit begin a) a (w + s) 64 (bits_value-lt bit begin a) small in
      let middle : value * 2 ^ s % 2 ^ 64 ≡ value * 2 ^ s = shl_whole value w s 64 fits (omega arith) in
      let low : bit_and old (1 * 2 ^ s % 2 ^ 64 - 1) ≡ bits_value bit (begin + a + w) s =
      ap (λ n. bit_and old (n - 1)) (one_shl s 64 (omega arith)) ∙ and_mask old s ∙ old_low in
      omega (arith, high, middle, low, new_spelled)

-- octets whose value is that of bits, from one of them to another, have these bits
octets_from_spelled : (octets : List ℕ) (bit : ℕ → Bool) (k : ℕ) → get_or octets (k / 8) 0 ≡ bits_value bit (8 * (k / 8)) 8 →
    octet_bit octets k ≡ bit k
octets_from_spelled octets bit k is =
    let at : 8 * (k / 8) + k % 8 ≡ k = omega arith in
    ap (λ n. n / 2 ^ (7 - k % 8) % 2 == 1) is ∙ bits_value-bit bit (8 * (k / 8)) 8 (k % 8) (omega arith) ∙ ap bit at

-- one octet of the value of several
octet_of_number : (bit : ℕ → Bool) (begin past k number : ℕ) → begin ≤ k → k < past →
    number ≡ bits_value bit (8 * begin) (8 * (past - begin))
    → bit_and (number / 2 ^ (8 * (past - 1 - k))) 255 ≡ bits_value bit (8 * k) 8
octet_of_number bit begin past k number le lt is =
    and_mask (number / 2 ^ (8 * (past - 1 - k))) 8
    ∙ ap (λ n. n / 2 ^ (8 * (past - 1 - k)) % 2 ^ 8) is
    ∙ bits_value-field bit (8 * begin) (8 * (past - begin)) (8 * k) 8 (8 * (past - 1 - k)) (omega arith) (omega arith)

-- the octet after the last one that a field touches, and the bits after the field in that last one
abbrev pub past_of : ℕ → ℕ → ℕ
past_of first width = (first + width + 7) / 8

abbrev pub bits_after : ℕ → ℕ → ℕ
bits_after first width = 8 * ((first + width + 7) / 8) - (first + width)

-- the number that is written into the octets that a field touches, from the one that they had
abbrev pub field_number : ℕ → ℕ → ℕ → ℕ → ℕ
field_number first width given old =
    old / 2 ^ (width + bits_after first width) * 2 ^ (width + bits_after first width) % 2 ^ 64
    + given * 2 ^ bits_after first width % 2 ^ 64 + bit_and old (1 * 2 ^ bits_after first width % 2 ^ 64 - 1)

written_bits : (octets new : List ℕ) (bit : ℕ → Bool) (begin past number : ℕ) → number ≡ bits_value bit (8 * begin) (8 * (past - begin))
    → ((j : ℕ) → begin ≤ j → j < past → get_or new j 0 ≡ bit_and (number / 2 ^ (8 * (past - 1 - j))) 255)
    → ((j : ℕ) → j < begin → get_or new j 0 ≡ get_or octets j 0) → ((j : ℕ) → past ≤ j → get_or new j 0 ≡ get_or octets j 0)
    → ((q : ℕ) → q < 8 * begin → bit q ≡ octet_bit octets q) → ((q : ℕ) → 8 * past ≤ q → bit q ≡ octet_bit octets q)
    → (q : ℕ) → octet_bit new q ≡ bit q
written_bits octets new bit begin past number is written before behind bit_before bit_behind q =
    ⊎_elim
    (λ (lt : q / 8 < begin). ap (λ n. n / 2 ^ (7 - q % 8) % 2 == 1) (before (q / 8) lt) ∙ sym (bit_before q (omega arith)))
    (λ (le : begin ≤ q / 8).
    ⊎_elim
    (λ (lt : q / 8 < past). octets_from_spelled new bit q (written (q / 8) le lt ∙ octet_of_number bit begin past (q / 8) number le lt is))
    (λ (past_le : past ≤ q / 8). ap (λ n. n / 2 ^ (7 - q % 8) % 2 == 1) (behind (q / 8) past_le) ∙ sym (bit_behind q (omega arith)))
    (cases_lt (q / 8) past))
    (cases_lt (q / 8) begin)

module _ (octets : List ℕ) (first width value given old : ℕ) (narrow : width ≤ 32) (fits : value < 2 ^ width) (same : given ≡ value)
    (is : old ≡ bits_value (octet_bit octets) (8 * (first / 8)) (8 * (past_of first width - first / 8))) where
  number_is : field_number first width given old
      ≡ bits_value (field_bit (octet_bit octets) first width value) (8 * (first / 8)) (8 * (past_of first width - first / 8))
  number_is =
      let parts : 8 * (past_of first width - first / 8) ≡ first - 8 * (first / 8) + (width + bits_after first width) = omega arith in
      let at : 8 * (first / 8) + (first - 8 * (first / 8)) ≡ first = omega arith in
      ap (λ n. field_number first width n old) same
      ∙ written_number (octet_bit octets) (8 * (first / 8)) (first - 8 * (first / 8)) width (bits_after first width) value old
      (is ∙ ap (bits_value (octet_bit octets) (8 * (first / 8))) parts) fits (omega arith) (omega arith)
      ∙ (λ i. bits_value (field_bit (octet_bit octets) (at i) width value) (8 * (first / 8)) (sym parts i))

  pub field_number-small : field_number first width given old < 2 ^ 64
  field_number-small = omega (
    arith,
    number_is,
    bits_value-below_number (field_bit (octet_bit octets) first width value) (8 * (first / 8))
        (8 * (past_of first width - first / 8)) (omega arith),
  )

  -- octets into which that number is written have the field's bits, and all others are unchanged
  pub field_written : (new : List ℕ) (k : ℕ) → k ≡ past_of first width
      → ((j : ℕ) → first / 8 ≤ j → j < k
      → get_or new j 0 ≡ bit_and (field_number first width given old / 2 ^ (8 * (past_of first width - 1 - j))) 255)
      → ((j : ℕ) → j < first / 8 → get_or new j 0 ≡ get_or octets j 0) → ((j : ℕ) → k ≤ j → get_or new j 0 ≡ get_or octets j 0)
      → (q : ℕ) → octet_bit new q ≡ field_bit (octet_bit octets) first width value q
  field_written new k at_end written before behind =
      written_bits octets new (field_bit (octet_bit octets) first width value) (first / 8) (past_of first width)
      (field_number first width given old) number_is (λ j le lt. written j le (omega arith)) before (λ j le. behind j (omega arith))
      (λ q lt. field_bit-before (octet_bit octets) first width value q (omega arith))
      (λ q le. field_bit-after (octet_bit octets) first width value q (omega arith))
