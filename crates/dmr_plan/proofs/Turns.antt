-- Items read in order, by their index.
use Rattle.std.proofs.Common.{◌≡◌, ℕ, ◌+◌, ◌<◌, Bool, ◌&&◌, List, [], ◌∷◌, ◌++◌, length, drop, get_or, Result, Ok, refl, ap, sym, suc, ◌∙◌}
use Rattle.toml.specs.Data.{Data}
use Rattle.toml.specs.View.{view, items_view}
use Rattle.toml.specs.declared.value.Value.{Value}
use Rattle.toml.proofs.Views.{items_view-drop}
use Rattle.dmr_plan.specs.declared.fault.PlanFault.{PlanFault}
use Rattle.dmr_plan.specs.Steps.{◌>>=◌}
use Rattle.dmr_plan.specs.Arrays.{all_items, in_turn, count_of}

-- a test of each item from an index on
pub all_items-drop : (p : Data → Bool) (vs : List Value) (i : ℕ) (d : Value) → i < length vs
    → all_items p (items_view (drop i vs)) ≡ (p (view (get_or vs i d)) && all_items p (items_view (drop (i + 1) vs)))
all_items-drop p vs i d h = rw (items_view-drop vs i d h)

-- items read in order, from an index on
pub in_turn-drop : {A : Type 0} (f : List A → Data → Result A PlanFault) (xs : List A) (vs : List Value) (i : ℕ) (d : Value) → i < length vs
    → in_turn f xs (items_view (drop i vs)) ≡ (f xs (view (get_or vs i d)) >>= λ x. in_turn f (xs ++ x ∷ []) (items_view (drop (i + 1) vs)))
in_turn-drop f xs vs i d h = rw (items_view-drop vs i d h)

-- the items of a slice and its values have the same number
pub count_of-view : (vs : List Value) → count_of (items_view vs) ≡ length vs
count_of-view [] = refl
count_of-view (v ∷ vs) = ap suc (count_of-view vs)

-- one more item in a loop over a slice
pub in_turn-step : {A : Type 0} (f : List A → Data → Result A PlanFault) (xs seen grown : List A) (x : A) (vs : List Value) (i : ℕ)
    (v : Value) (whole : Result (List A) PlanFault)
    → seen ≡ xs → grown ≡ xs ++ x ∷ [] → i < length vs → v ≡ get_or vs i v → Ok x ≡ f seen (view v)
    → in_turn f xs (items_view (drop i vs)) ≡ whole → in_turn f grown (items_view (drop (i + 1) vs)) ≡ whole
in_turn-step f xs seen grown x vs i v whole same more h is gives before =
    let here : f xs (view (get_or vs i v)) ≡ Ok x = ap (λ w. f xs (view w)) (sym is) ∙ ap (λ ys. f ys (view v)) (sym same) ∙ sym gives in
    let next : in_turn f xs (items_view (drop i vs)) ≡ in_turn f (xs ++ x ∷ []) (items_view (drop (i + 1) vs)) =
    in_turn-drop f xs vs i v h ∙ ap (λ r. r >>= λ y. in_turn f (xs ++ y ∷ []) (items_view (drop (i + 1) vs))) here in
    rw more (sym next ∙ before)
