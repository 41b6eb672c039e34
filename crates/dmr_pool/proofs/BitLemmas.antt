-- A bit that is set or cleared, and the lowest that is set.
use Rattle.std.proofs.Common.{arith, ◌≡◌, ◌≢◌, ℕ, ◌*◌, ◌^◌, ◌%◌, ◌<◌, Bool, true, false, ap, sym, ◌∙◌, subst, w32, bit_and, bit_or}
use Rattle.std.specs.Prelude.{◌==◌}
use Rattle.std.specs.Int.{trailing_zeros, bit_not}
use Rattle.std.proofs.lemmas.Nat.Bits.{bit_at_set_same, bit_at_set_other, bit_at_clear_same, bit_at_clear_other, bit_at-trailing_zeros}
use Rattle.dmr_pool.specs.Slots.{slot_at}
use Rattle.dmr_pool.specs.Marks.{has_bit, IsLowestBit, IsSet}
use Rattle.dmr_pdu.proofs.ListLaws.{place-slot_at}

-- the bit of a place, as a power of two
pub bit_set : (bits k at : ℕ) (is_in : Bool) → k ≡ at → k < 32 → is_in ≡ true → IsSet bits (bit_or bits (1 * 2 ^ k % 2 ^ 32)) at is_in
bit_set bits k at is_in same within set = record {
  there = subst (λ n. has_bit (bit_or bits (1 * 2 ^ k % 2 ^ 32)) n ≡ is_in) same (ap (λ n. n == 1) (bit_at_set_same w32 bits k within)
      ∙ sym set);
  others = λ n below apart. ap (λ b. b == 1) (bit_at_set_other w32 bits k within n (λ e. apart (e ∙ same)));
}

pub bit_cleared : (bits k at : ℕ) (is_in : Bool) → k ≡ at → k < 32 → is_in ≡ false
    → IsSet bits (bit_and bits (bit_not w32 (1 * 2 ^ k % 2 ^ 32))) at is_in
bit_cleared bits k at is_in same within clear = record {
  there = subst (λ n. has_bit (bit_and bits (bit_not w32 (1 * 2 ^ k % 2 ^ 32))) n ≡ is_in) same
      (ap (λ n. n == 1) (bit_at_clear_same w32 bits k within) ∙ sym clear);
  others = λ n below apart. ap (λ b. b == 1) (bit_at_clear_other w32 bits k within n below (λ e. apart (e ∙ same)));
}

-- the lowest bit that is set
pub lowest_set : (bits : ℕ) → bits < 2 ^ 32 → bits ≢ 0 → IsLowestBit bits (slot_at (trailing_zeros w32 bits))
lowest_set bits fits some =
    let at = trailing_zeros w32 bits in
    let found = bit_at-trailing_zeros w32 bits (omega arith) fits in
    record {
      within = (omega (arith, found.0), omega arith);
      set = subst (λ n. has_bit bits n ≡ true) (sym (place-slot_at at)) (ap (λ n. n == 1) found.1);
      lowest = λ below under. ap (λ n. n == 1) (found.2 below (omega (arith, place-slot_at at)));
    }
