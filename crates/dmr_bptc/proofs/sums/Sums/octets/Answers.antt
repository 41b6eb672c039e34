use Rattle.std.proofs.Common.{◌≡◌, ◌==◌, ℕ, zero, suc, ◌+◌, ◌*◌, ◌/◌, ◌%◌, ◌-◌, ◌^◌, ◌<◌, ◌≤◌, List, [], ◌∷◌, ◌++◌, take, get_or, refl, sym}
use Rattle.std.proofs.Common.{ap, ◌∙◌, arith, subst, ⊎_elim}
use Rattle.std.specs.Int.{w64, to_be_bytes}
use Rattle.std.proofs.lemmas.Bool.{cases_lt}
use Rattle.std.proofs.lemmas.List.{get_or_past}
use Rattle.std.proofs.lemmas.Nat.{shr-shr}
use Rattle.dmr_bits.specs.Bits.{bits_value, octet_bit, IsOctets}
use Rattle.dmr_bits.specs.Packed.{packed_bit}
use Rattle.dmr_bits.proofs.Laws.{bits_value-of_number, bits_value-bit}
use borrow.Rule.Slice.PartMut.{put_mid}
use Rattle.dmr_bptc.proofs.sums.Sums.octets.Goals as goal

-- the eight octets of one word, and the first four of the other
abbrev spelled_octets : ℕ → ℕ → List ℕ
spelled_octets high low = to_be_bytes w64 high ++ take 4 (to_be_bytes w64 low)

spelled : (high low i : ℕ) → i < 12 → get_or (spelled_octets high low) i 0 ≡ get_or (high ∷ low ∷ []) (i / 8) 0 / 2 ^
    (56 - 8 * (i % 8)) % 2 ^ 8
spelled high low zero lt = refl
spelled high low (suc zero) lt = refl
spelled high low (suc (suc zero)) lt = refl
spelled high low (suc (suc (suc zero))) lt = refl
spelled high low (suc (suc (suc (suc zero)))) lt = refl
spelled high low (suc (suc (suc (suc (suc zero))))) lt = refl
spelled high low (suc (suc (suc (suc (suc (suc zero)))))) lt = refl
spelled high low (suc (suc (suc (suc (suc (suc (suc zero))))))) lt = omega arith
spelled high low (suc (suc (suc (suc (suc (suc (suc (suc zero)))))))) lt = refl
spelled high low (suc (suc (suc (suc (suc (suc (suc (suc (suc zero))))))))) lt = refl
spelled high low (suc (suc (suc (suc (suc (suc (suc (suc (suc (suc zero)))))))))) lt = refl
spelled high low (suc (suc (suc (suc (suc (suc (suc (suc (suc (suc (suc zero))))))))))) lt = refl
spelled high low (suc (suc (suc (suc (suc (suc (suc (suc (suc (suc (suc (suc i)))))))))))) lt = absurd (omega arith)

octet_small : (high low i : ℕ) → get_or (spelled_octets high low) i 0 < 256
octet_small high low i = ⊎_elim (λ (lt : i < 12). omega (arith, spelled high low i lt))
    (λ (le : 12 ≤ i). omega (arith, get_or_past (spelled_octets high low) i 0 le)) (cases_lt i 12)

bits_are : (high low k : ℕ) → k < 96 → octet_bit (spelled_octets high low) k ≡ packed_bit (high ∷ low ∷ []) k
bits_are high low k lt =
    let octet : get_or (spelled_octets high low) (k / 8) 0 ≡ bits_value (packed_bit (high ∷ low ∷ [])) (8 * (k / 8)) 8 =
    spelled high low (k / 8) (omega arith)
    ∙ sym (bits_value-of_number (packed_bit (high ∷ low ∷ [])) (8 * (k / 8))
    (get_or (high ∷ low ∷ []) (k / 8 / 8) 0 / 2 ^ (56 - 8 * (k / 8 % 8))) 8 (λ j j_lt.
    let at : (8 * (k / 8) + j) / 64 ≡ k / 8 / 8 = omega arith in
    let bit : 63 - (8 * (k / 8) + j) % 64 ≡ 56 - 8 * (k / 8 % 8) + (8 - 1 - j) = omega arith in
    rw (at, bit) (ap (λ n. n % 2 == 1) (sym (shr-shr (get_or (high ∷ low ∷ []) (k / 8 / 8) 0) (56 - 8 * (k / 8 % 8)) (8 - 1 - j)))))) in
    let at : 8 * (k / 8) + k % 8 ≡ k = omega arith in
    ap (λ n. n / 2 ^ (7 - k % 8) % 2 == 1) octet
    ∙ bits_value-bit (packed_bit (high ∷ low ∷ [])) (8 * (k / 8)) 8 (k % 8) (omega arith)
    ∙ ap (packed_bit (high ∷ low ∷ [])) at

put_octets : (high low : ℕ) (front back : List ℕ) → front ≡ to_be_bytes w64 high → back ≡ take 4 (to_be_bytes w64 low) →
    put_mid 8 4 (front ++ 0 ∷ 0 ∷ 0 ∷ 0 ∷ []) back ≡ spelled_octets high low
put_octets high low front back front_is back_is = (λ i. put_mid 8 4 (front_is i ++ 0 ∷ 0 ∷ 0 ∷ 0 ∷ []) (back_is i))

pub returns-clause-octets : goal.returns-clause-octets
returns-clause-octets c =
    let is = put_octets c.args.self.now.high c.args.self.now.low c.copy_from_slice.new.self c.copy_from_slice-2.new.self
    (c.copy_from_slice.ensures.after ∙ c.to_be_bytes.ensures) (c.copy_from_slice-2.ensures.after ∙ ap (take 4) c.to_be_bytes-2.ensures) in
    subst (IsOctets 12) (sym is) (record { len = refl; small = octet_small c.args.self.now.high c.args.self.now.low })

pub returns-clause-bits : goal.returns-clause-bits
returns-clause-bits c = λ k lt.
    ap (λ octets. octet_bit octets k)
    (put_octets c.args.self.now.high c.args.self.now.low c.copy_from_slice.new.self c.copy_from_slice-2.new.self
    (c.copy_from_slice.ensures.after ∙ c.to_be_bytes.ensures) (c.copy_from_slice-2.ensures.after ∙ ap (take 4) c.to_be_bytes-2.ensures))
    ∙ bits_are c.args.self.now.high c.args.self.now.low k lt
