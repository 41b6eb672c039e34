-- The blanks after the entries of a list of bounded length.
use Rattle.std.proofs.Common.{◌≡◌, ℕ, ◌+◌, ◌-◌, ◌<◌, ◌≤◌, List, ◌∷◌, length, drop, replicate, slice_set, arith, refl, zero, suc, sym, ◌∙◌}
use Rattle.std.proofs.Common.{ap}
use Rattle.std.proofs.lemmas.List.{drop-set, drop_more}

drop_one-replicate : {X : Type 0} (n : ℕ) (blank : X) → drop 1 (replicate n blank) ≡ replicate (n - 1) blank
drop_one-replicate zero blank = refl
drop_one-replicate (suc n) blank = let e : n ≡ suc n - 1 = omega arith in ap (λ k. replicate k blank) e

-- the cells after the first blank are blank
pub drop-more_blank : {X : Type 0} (n : ℕ) (cells : List X) (count : ℕ) (blank : X) → count < length cells →
    drop count cells ≡ replicate (n - count) blank → drop (count + 1) cells ≡ replicate (n - (count + 1)) blank
drop-more_blank n cells count blank inside rest =
    let behind : drop (count + 1) cells ≡ drop 1 (replicate (n - count) blank) =
    ap (drop 1) (sym (drop_more cells count blank inside) ∙ rest) in
    let fewer : n - count - 1 ≡ n - (count + 1) = omega arith in
    behind ∙ drop_one-replicate (n - count) blank ∙ ap (λ k. replicate k blank) fewer

-- with a blank in the place of the last entry, there is one blank more
pub drop-last_blanked : {X : Type 0} (n : ℕ) (cells : List X) (count : ℕ) (blank : X) → 0 < count → count ≤ length cells → count ≤ n →
    drop count cells ≡ replicate (n - count) blank →
    drop (count - 1) (slice_set cells (count - 1) blank) ≡ replicate (n - (count - 1)) blank
drop-last_blanked {X = X} n cells count blank some inside within rest =
    let last : count - 1 < length cells = omega arith in
    let next : count - 1 + 1 ≡ count = omega arith in
    let more : suc (n - count) ≡ n - (count - 1) = omega arith in
    drop-set cells (count - 1) blank last
    ∙ ap (λ (k : ℕ). blank ∷ drop k cells) next
    ∙ ap (λ (xs : List X). blank ∷ xs) rest
    ∙ ap (λ (k : ℕ). replicate k blank) more
