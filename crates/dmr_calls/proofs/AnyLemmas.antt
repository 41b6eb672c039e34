-- Whether any element passes a test.
use Rattle.std.proofs.Common.{◌≡◌, List, [], ◌∷◌, Bool, false, refl, arith}
use Rattle.std.specs.Prelude.{◌&&◌}
use Rattle.std.specs.List.{list_any}

-- if none passes one test, none passes that test and another
pub none_passes_both : {X : Type 0} (p q : X → Bool) (xs : List X) → list_any p xs ≡ false → list_any (λ x. p x && q x) xs ≡ false
none_passes_both p q [] none = refl
none_passes_both p q (x ∷ xs) none = let more = none_passes_both p q xs in grind arith
