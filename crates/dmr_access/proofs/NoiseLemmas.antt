-- The noise numbers after a Noise and after a Poll, and their sum.
use Rattle.std.proofs.Common.{◌≡◌, ℕ, ◌+◌, ◌-◌, ◌≤◌, min, List, [], ◌∷◌, Some, None, length, take, sum, get_or, refl, sym}
use Rattle.std.proofs.Common.{ap, ◌∙◌, arith, inr}
use Rattle.std.specs.Prelude.{slice_get}
use Rattle.std.specs.List.{All}
use Rattle.std.proofs.lemmas.List.{length-take-le, take_all}
use Rattle.std.proofs.lemmas.List.Elements.{All-cons, All-tail, All-take}
use Rattle.std.proofs.lemmas.List.Sums.{sum_by-cons, sum_by_more, sum_by-le}
use Rattle.std.proofs.lemmas.Option.{get_or_from_slice_get, slice_get-get_or}
use Rattle.dmr_access.specs.Noise.{AreNoiseNumbers, with_noise, with_poll}

-- one more Noise
pub sum-with_noise : (noise : List ℕ) (before : ℕ) → slice_get noise 0 ≡ Some before → before ≤ 15
    → sum (with_noise noise) ≡ sum noise + (min 15 (before + 1) - before)
sum-with_noise [] before is small = cc
sum-with_noise (n ∷ ns) before is small =
    let same : n ≡ before = cc in
    omega (arith, same, small, sum_by-cons (λ (x : ℕ). x) (min 15 (n + 1)) ns, sum_by-cons (λ (x : ℕ). x) n ns)

-- the numbers that a Poll leaves
pub with_poll-is : (noise : List ℕ) → length noise ≡ 32 → take 32 (0 ∷ noise) ≡ with_poll noise
with_poll-is [] all = absurd (omega (arith, all))
with_poll-is (n ∷ ns) all = refl

-- without the oldest number
pub sum-with_poll : (noise : List ℕ) (oldest : ℕ) → length noise ≡ 32 → slice_get (0 ∷ noise) 32 ≡ Some oldest
    → sum (with_poll noise) + oldest ≡ sum noise
sum-with_poll noise oldest all is =
    let at : get_or noise 31 0 ≡ oldest = get_or_from_slice_get noise 31 oldest 0 is in
    let more : sum (take (31 + 1) noise) ≡ sum (take 31 noise) + get_or noise 31 0 =
    sum_by_more (λ (x : ℕ). x) noise 31 0 (omega (arith, all)) in
    let whole : take (31 + 1) noise ≡ noise = take_all 32 noise (omega (arith, all)) in
    let polled : sum (with_poll noise) ≡ 0 + sum (take 31 noise) = ap (λ (xs : List ℕ). sum xs) (sym (with_poll-is noise all))
    ∙ sum_by-cons (λ (x : ℕ). x) 0 (take 31 noise) in
    omega (arith, polled, more, at, ap (λ (xs : List ℕ). sum xs) whole)

-- there is an oldest number
pub oldest_is : (noise : List ℕ) → length noise ≡ 32 → slice_get (0 ∷ noise) 32 ≡ None → ⊥
oldest_is noise all none = let some : slice_get noise 31 ≡ Some (get_or noise 31 0) = slice_get-get_or noise 31 0 (omega (arith, all)) in cc

-- the sum of 32 numbers of at most 15
pub sum-few : (noise : List ℕ) → length noise ≤ 32 → All (λ n. n ≤ 15) noise → sum noise ≤ 480
sum-few noise few small = omega (arith, few, sum_by-le (λ (x : ℕ). x) 15 noise small)

-- a Noise, and a Poll, leave noise numbers
pub with_noise-are : (noise : List ℕ) → AreNoiseNumbers noise → AreNoiseNumbers (with_noise noise)
with_noise-are [] are = are
with_noise-are (n ∷ ns) are = (are.0, All-cons (λ m. m ≤ 15) (min 15 (n + 1)) ns (omega arith) (All-tail (λ m. m ≤ 15) n ns are.1))

pub with_poll-are : (noise : List ℕ) → length noise ≡ 32 → AreNoiseNumbers noise → AreNoiseNumbers (with_poll noise)
with_poll-are [] all are = are
with_poll-are (n ∷ ns) all are = (
  inr (omega (arith, length-take-le 31 (n ∷ ns) (omega (arith, all)))),
  All-cons (λ m. m ≤ 15) 0 (take 31 (n ∷ ns)) (omega arith) (All-take (λ m. m ≤ 15) 31 (n ∷ ns) are.1),
)
