-- Every accepted plan is one that the proofs know.
use Rattle.std.proofs.Common.{◌≡◌, ℕ, List, [], ◌∷◌, true, false, refl, sym, ◌∙◌, ap, map, arith}
use Rattle.std.specs.Prelude.{Some, find, ◌==◌}
use Rattle.std.specs.List.{list_any}
use Rattle.std.proofs.lemmas.Bool.Decides.{nat_tests}
use Rattle.std.proofs.lemmas.Bool.{eqb-true, or_parts}
use Rattle.dmr_plan.specs.declared.settings.Settings.{Settings}
use Rattle.dmr_plan.specs.declared.carriers.CarrierRow.{CarrierRow}
use Rattle.dmr_plan.specs.Lists.{has_repeat}
use Rattle.dmr_plan.specs.IsPlan.{IsPlan}
use Rattle.dmr_core.specs.Facts.{has_carrier}
use Rattle.dmr_core.specs.Words.{lpcn_of}
use Rattle.dmr_core.proofs.PlanLemmas.{KnowsPlan}
use Rattle.dmr_core.proofs.NumberLemmas.{row_below}
use Rattle.dmr_core.proofs.ListLemmas.{any-map, any_found, find_any, find_passes}

-- no two rows have the same channel
abbrev pub HasOwnChannels : List CarrierRow → Type 0
HasOwnChannels [] = Unit {0}
HasOwnChannels (r ∷ rows) = (list_any (λ w. w.lpcn == r.lpcn) rows ≡ false) × HasOwnChannels rows

pub own_channels : (rows : List CarrierRow) → has_repeat (map (λ (w : CarrierRow). w.lpcn) rows) ≡ false → HasOwnChannels rows
own_channels [] h = tt
own_channels (r ∷ rows) h =
    let both = or_parts (list_any (λ x. x == r.lpcn) (map (λ (w : CarrierRow). w.lpcn) rows))
    (has_repeat (map (λ (w : CarrierRow). w.lpcn) rows)) h in
    (sym (any-map (λ x. x == r.lpcn) _ (λ (w : CarrierRow). w.lpcn) (λ w. refl) rows) ∙ both.0, own_channels rows both.1)

-- if two carriers have the same channel, their rows are the same
one_row : (rows : List CarrierRow) (a b : ℕ) (x y : CarrierRow) → HasOwnChannels rows → find (λ r. r.number == a) rows ≡ Some x
    → find (λ r. r.number == b) rows ≡ Some y → x.lpcn ≡ y.lpcn → x ≡ y
one_row [] a b x y own h k same = cc
one_row (r ∷ rows) a b x y own h k same =
    let more = one_row rows a b x y own.1 in
    let here = find_any (λ w. w.number == a) (λ w. w.lpcn == r.lpcn) rows x in
    let there = find_any (λ w. w.number == b) (λ w. w.lpcn == r.lpcn) rows y in
    let none = own.0 in
    grind (arith, nat_tests)

pub lpcn_is : (plan : Settings) (a : ℕ) (x : CarrierRow) → find (λ r. r.number == a) plan.lists.carriers ≡ Some x → lpcn_of plan a ≡ x.lpcn
lpcn_is plan a x h = rw h refl

channels_apart : (plan : Settings) → HasOwnChannels plan.lists.carriers → (a b : ℕ) → has_carrier plan a ≡ true →
    has_carrier plan b ≡ true →
    lpcn_of plan a ≡ lpcn_of plan b → a ≡ b
channels_apart plan own a b h k same =
    let x = any_found (λ r. r.number == a) plan.lists.carriers h in
    let y = any_found (λ r. r.number == b) plan.lists.carriers k in
    let one : x.0 ≡ y.0 =
    one_row plan.lists.carriers a b x.0 y.0 own x.1 y.1 (sym (lpcn_is plan a x.0 x.1) ∙ same ∙ lpcn_is plan b y.0 y.1) in
    sym (eqb-true x.0.number a (find_passes (λ r. r.number == a) plan.lists.carriers x.0 x.1)) ∙ ap (λ (r : CarrierRow). r.number) one
    ∙ eqb-true y.0.number b (find_passes (λ r. r.number == b) plan.lists.carriers y.0 y.1)

pub plan_known : (plan : Settings) → IsPlan plan → KnowsPlan plan
plan_known plan p = record {
  control = p.lists.control;
  numbers = λ c h. row_below plan.lists.carriers c p.lists.carriers.each h;
  channels = channels_apart plan (own_channels plan.lists.carriers p.lists.carriers.apart.lpcns);
  few_grants = p.calls.grant_copies.1;
  few_clears = p.calls.clear_copies.1;
}
