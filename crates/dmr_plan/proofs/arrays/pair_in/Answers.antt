use Rattle.std.proofs.Common.{◌≡◌, ◌≢◌, None, List, [], ◌∷◌, length, refl}
use Rattle.toml.specs.declared.value.Value.{Value}
use Rattle.toml.specs.View.{items_view}
use Rattle.dmr_plan.specs.Arrays.{two_of}
use Rattle.dmr_plan.proofs.arrays.pair_in.Goals as goal

other : (vs : List Value) → length vs ≢ 2 → None ≡ two_of (items_view vs)
other [] h = refl
other (v ∷ []) h = refl
other (v ∷ w ∷ []) h = absurd (h refl)
other (v ∷ w ∷ x ∷ vs) h = refl

pub returns-then-values-ne2 : goal.returns-then-values-ne2
returns-then-values-ne2 c = other c.args.values.now c.if-values-ne2.true
