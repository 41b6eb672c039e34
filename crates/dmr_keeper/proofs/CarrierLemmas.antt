-- The counts of carriers, one carrier after another.
use Rattle.std.proofs.Common.{◌≡◌, ◌+◌, ℕ, List, [], ◌∷◌, ◌++◌, ap, arith, refl, sym, ◌∙◌}
use Rattle.std.specs.Prelude.{Option, Some, None, filter_map}
use Rattle.std.specs.List.{cons_option, range_with_len}
use Rattle.std.specs.Option.{option_to_list}
use Rattle.std.proofs.lemmas.List.{map-id}
use Rattle.std.proofs.lemmas.List.Elements.{filter_map-append}
use Rattle.std.proofs.lemmas.List.FromFn.{map-range_with_len_more}

-- numbers from 0 on, and one more
range_more : (n : ℕ) → range_with_len 0 (n + 1) ≡ range_with_len 0 n ++ n ∷ []
range_more n =
    sym (map-id (range_with_len 0 (n + 1)))
    ∙ map-range_with_len_more (λ (x : ℕ). x) 0 n n (omega arith)
    ∙ ap (λ (xs : List ℕ). xs ++ n ∷ []) (map-id (range_with_len 0 n))

-- what a single number gives
alone : {Y : Type 0} (o : Option Y) → cons_option o [] ≡ option_to_list o
alone None = refl
alone (Some y) = refl

-- what numbers give, and one more
pub given_more : {Y : Type 0} (h : ℕ → Option Y) (n : ℕ) → filter_map h (range_with_len 0 (n + 1)) ≡ filter_map h
    (range_with_len 0 n) ++ option_to_list (h n)
given_more {Y} h n =
    ap (filter_map h) (range_more n)
    ∙ filter_map-append h (range_with_len 0 n) (n ∷ [])
    ∙ ap (λ (ys : List Y). filter_map h (range_with_len 0 n) ++ ys) (alone (h n))
