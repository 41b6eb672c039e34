-- Sums modulo 2 over the set bits of a word, and exclusive ors of numbers over them.
use Rattle.std.proofs.Common.{◌≡◌, ◌==◌, ℕ, zero, suc, ◌+◌, ◌-◌, ◌*◌, ◌/◌, ◌%◌, ◌^◌, ◌<◌, Bool, true, false, cond, ◌&&◌, List, [], ◌∷◌}
use Rattle.std.proofs.Common.{bit_xor, refl, sym, ap, ◌∙◌, arith, ⊎_elim}
use Rattle.std.specs.Int.{bit_at}
use Rattle.std.specs.Int.Bits.{xor_assoc, xor_zero_r}
use Rattle.std.proofs.lemmas.Bool.{cases_eq, eq-eqb, ne_eqb}
use Rattle.std.proofs.lemmas.Nat.{xor_lt, pow_pos}
use Rattle.std.proofs.lemmas.Nat.Bits.{bit_at_xor, bit_at-zero}
use Rattle.dmr_bits.specs.Bits.{bits_value}
use Rattle.dmr_bits.proofs.Laws.{bits_value-bit}
use Rattle.dmr_bptc.specs.Bptc.{add_bits, parity, Satisfies}
use Rattle.dmr_bptc.specs.Groups.{added}
use Rattle.dmr_bptc.proofs.BitSumLemmas.{add_bits-false, add_bits_middle}
use Rattle.std.proofs.Math.Bool.{and-false}

-- whether an odd number of the first n places pass
unfoldable pub odd_below : (ℕ → Bool) → ℕ → Bool
odd_below passes zero = false
odd_below passes (suc n) = add_bits (passes n) (odd_below passes n)

pub odd_below-same : (p r : ℕ → Bool) (n : ℕ) → ((q : ℕ) → q < n → p q ≡ r q) → odd_below p n ≡ odd_below r n
unfolding odd_below
odd_below-same p r zero same = refl
odd_below-same p r (suc n) same = (λ i. add_bits (same n (omega arith) i) (odd_below-same p r n (λ q lt. same q (omega arith)) i))

pub odd_below-none : (p : ℕ → Bool) (n : ℕ) → ((q : ℕ) → q < n → p q ≡ false) → odd_below p n ≡ false
unfolding odd_below
odd_below-none p zero none = refl
odd_below-none p (suc n) none = rw (none n (omega arith)) (odd_below-none p n (λ q lt. none q (omega arith)))

odd_below-add : (p r : ℕ → Bool) (n : ℕ) → odd_below (λ q. add_bits (p q) (r q)) n ≡ add_bits (odd_below p n) (odd_below r n)
unfolding odd_below
odd_below-add p r zero = refl
odd_below-add p r (suc n) =
    ap (add_bits (add_bits (p n) (r n))) (odd_below-add p r n) ∙ add_bits_middle (p n) (r n) (odd_below p n) (odd_below r n)

and_true : (a : Bool) → (a && true) ≡ a
and_true true = refl
and_true false = refl

and_add : (a b c : Bool) → (a && add_bits b c) ≡ add_bits (a && b) (a && c)
and_add true b c = refl
and_add false b c = refl

-- among the places equal to this one, only this one counts
pub odd_below-one : (f : ℕ → Bool) (place n : ℕ) → place < n → odd_below (λ q. f q && (place == q)) n ≡ f place
unfolding odd_below
odd_below-one f place zero lt = absurd (omega arith)
odd_below-one f place (suc n) lt =
    ⊎_elim
    (λ (e : place ≡ n).
    let here : (place == n) ≡ true = eq-eqb place n e in
    let none : odd_below (λ q. f q && (place == q)) n ≡ false =
    odd_below-none (λ q. f q && (place == q)) n
    (λ q q_lt. let miss : (place == q) ≡ false = ne_eqb place q (λ same. absurd (omega arith)) in ap (λ b. f q && b) miss
    ∙ and-false (f q)) in
    (λ i. add_bits (f n && here i) (none i)) ∙ add_bits-false (f n && true) ∙ and_true (f n) ∙ ap f (sym e))
    (λ (ne : place ≡ n → ⊥).
    let miss : (place == n) ≡ false = ne_eqb place n ne in
    (λ i. add_bits ((ap (λ b. f n && b) miss ∙ and-false (f n)) i) (odd_below-one f place n (omega arith) i)))
    (cases_eq place n)

-- the sum over the places of bits is the sum over the bits at these places
pub odd_below-parity : (f : ℕ → Bool) (place : ℕ → ℕ) (n : ℕ) → ((k : ℕ) → place k < n) → (ks : List ℕ)
    → odd_below (λ q. f q && parity (λ k. place k == q) ks) n ≡ parity (λ k. f (place k)) ks
odd_below-parity f place n inside [] = odd_below-none (λ q. f q && false) n (λ q lt. and-false (f q))
odd_below-parity f place n inside (k ∷ ks) =
    odd_below-same (λ q. f q && add_bits (place k == q) (parity (λ k. place k == q) ks))
    (λ q. add_bits (f q && (place k == q)) (f q && parity (λ k. place k == q) ks)) n
    (λ q lt. and_add (f q) (place k == q) (parity (λ k. place k == q) ks))
    ∙ odd_below-add (λ q. f q && (place k == q)) (λ q. f q && parity (λ k. place k == q) ks) n
    ∙ (λ i. add_bits (odd_below-one f (place k) n (inside k) i) (odd_below-parity f place n inside ks i))

-- the order of a sum of sums of lines may be exchanged
odd_below-swap : (bit : ℕ → Bool) (f : ℕ → ℕ → Bool) (n : ℕ) (js : List ℕ) →
    odd_below (λ k. bit k && parity (f k) js) n ≡ parity (λ j. odd_below (λ k. bit k && f k j) n) js
odd_below-swap bit f n [] = odd_below-none (λ k. bit k && false) n (λ k lt. and-false (bit k))
odd_below-swap bit f n (j ∷ js) =
    odd_below-same (λ k. bit k && add_bits (f k j) (parity (f k) js)) (λ k. add_bits (bit k && f k j) (bit k && parity (f k) js)) n
    (λ k lt. and_add (bit k) (f k j) (parity (f k) js))
    ∙ odd_below-add (λ k. bit k && f k j) (λ k. bit k && parity (f k) js) n
    ∙ ap (add_bits (odd_below (λ k. bit k && f k j) n)) (odd_below-swap bit f n js)

-- a sum of lines that satisfy equations satisfies them
pub satisfies-odd_below : (es : List (ℕ × List ℕ)) (bit : ℕ → Bool) (f : ℕ → ℕ → Bool) (n : ℕ) → ((k : ℕ) → k < n → Satisfies es (f k)) →
    Satisfies es (λ j. odd_below (λ k. bit k && f k j) n)
satisfies-odd_below [] bit f n each = tt
satisfies-odd_below (e ∷ es) bit f n each = (
  odd_below-same (λ k. bit k && f k e.0) (λ k. bit k && parity (f k) e.1) n (λ k lt. ap (λ b. bit k && b) (each k lt).0)
      ∙ odd_below-swap bit f n e.1,
  satisfies-odd_below es bit f n (λ k lt. (each k lt).1),
)

-- ---- exclusive ors of numbers

pub odd_pair : (x y : ℕ) → x < 2 → y < 2 → ((x + y) % 2 == 1) ≡ add_bits (y == 1) (x == 1)
odd_pair zero zero x_lt y_lt = refl
odd_pair zero (suc zero) x_lt y_lt = refl
odd_pair (suc zero) zero x_lt y_lt = refl
odd_pair (suc zero) (suc zero) x_lt y_lt = refl
odd_pair (suc (suc x)) y x_lt y_lt = absurd (omega arith)
odd_pair zero (suc (suc y)) x_lt y_lt = absurd (omega arith)
odd_pair (suc zero) (suc (suc y)) x_lt y_lt = absurd (omega arith)

cond_bit : (b : Bool) (m j : ℕ) → (bit_at (cond b m 0) j == 1) ≡ (b && (bit_at m j == 1))
cond_bit true m j = refl
cond_bit false m j = ap (λ n. n == 1) (bit_at-zero j)

cond-lt : (b : Bool) (m n : ℕ) → m < 2 ^ n → cond b m 0 < 2 ^ n
cond-lt true m n lt = lt
cond-lt false m n lt = pow_pos n

pub added-bit : (bit : ℕ → Bool) (number : ℕ → ℕ) (j n : ℕ) → (bit_at (added bit number n) j == 1) ≡ odd_below
    (λ k. bit k && (bit_at (number k) j == 1)) n
unfolding added odd_below
added-bit bit number j zero = ap (λ n. n == 1) (bit_at-zero j)
added-bit bit number j (suc n) =
    ap (λ m. m == 1) (bit_at_xor (added bit number n) (cond (bit n) (number n) 0) j)
    ∙ odd_pair (bit_at (added bit number n) j) (bit_at (cond (bit n) (number n) 0) j) (omega arith) (omega arith)
    ∙ (λ i. add_bits (cond_bit (bit n) (number n) j i) (added-bit bit number j n i))

pub added-lt : (bit : ℕ → Bool) (number : ℕ → ℕ) (m n : ℕ) → ((k : ℕ) → k < n → number k < 2 ^ m) → added bit number n < 2 ^ m
unfolding added
added-lt bit number m zero small = pow_pos m
added-lt bit number m (suc n) small =
    xor_lt m (added bit number n) (cond (bit n) (number n) 0) (added-lt bit number m n (λ k lt. small k (omega arith)))
    (cond-lt (bit n) (number n) m (small n (omega arith)))

added-split : (bit : ℕ → Bool) (number : ℕ → ℕ) (a n : ℕ) → added bit number (a + n) ≡ bit_xor (added bit number a)
    (added (λ j. bit (a + j)) (λ j. number (a + j)) n)
unfolding added
added-split bit number a zero = let e : a + 0 ≡ a = omega arith in ap (added bit number) e ∙ sym (xor_zero_r (added bit number a))
added-split bit number a (suc n) =
    let e : a + suc n ≡ suc (a + n) = omega arith in
    ap (added bit number) e
    ∙ ap (λ x. bit_xor x (cond (bit (a + n)) (number (a + n)) 0)) (added-split bit number a n)
    ∙ xor_assoc (added bit number a) (added (λ j. bit (a + j)) (λ j. number (a + j)) n) (cond (bit (a + n)) (number (a + n)) 0)

added-same : (p r : ℕ → Bool) (number : ℕ → ℕ) (n : ℕ) → ((k : ℕ) → k < n → p k ≡ r k) → added p number n ≡ added r number n
unfolding added
added-same p r number zero same = refl
added-same p r number (suc n) same =
    (λ i. bit_xor (added-same p r number n (λ k lt. same k (omega arith)) i) (cond (same n (omega arith) i) (number n) 0))

-- the number that four bits add, by their value
unfoldable pub added_by : (ℕ → ℕ) → ℕ → ℕ → ℕ
added_by number k value = added (λ j. value / 2 ^ (3 - j) % 2 == 1) (λ j. number (4 * k + j)) 4

-- four bits are added at once
pub added-four : (bit : ℕ → Bool) (number : ℕ → ℕ) (k entry : ℕ) → entry ≡ added_by number k (bits_value bit (4 * k) 4) →
    bit_xor (added bit number (4 * k)) entry ≡ added bit number (4 * (k + 1))
unfolding added_by
added-four bit number k entry is =
    let e : 4 * k + 4 ≡ 4 * (k + 1) = omega arith in
    ap (bit_xor (added bit number (4 * k))) (is
    ∙ added-same (λ j. bits_value bit (4 * k) 4 / 2 ^ (3 - j) % 2 == 1) (λ j. bit (4 * k + j)) (λ j. number (4 * k + j)) 4
    (λ j lt. bits_value-bit bit (4 * k) 4 j lt))
    ∙ sym (added-split bit number (4 * k) 4)
    ∙ ap (added bit number) e
