-- Whether two sites have the same plan and facts, as a test.
use Rattle.std.specs.Prelude.{◌≡◌, ◌&&◌, ℕ, Bool, true, false, nat_eq, Option, Some, None}
use Rattle.std.specs.Bool.{Decides, beq}
use Rattle.std.specs.Cmp.{decided, IsEquivalence}
use Rattle.std.specs.Cmp.Lexicographic.{pointwise, pointwise_decides, bytes_decides}
use Rattle.std.proofs.Common.{ap, refl, eqb-true, rules}
use Rattle.std.proofs.lemmas.Bool.{eq-eqb}
use Rattle.std.proofs.lemmas.Bool.Decides.{Decides-and, Decides-eqb}
use Rattle.dmr_plan.specs.Same.{are_same as are_same_plans}
use Rattle.dmr_plan.specs.Same.{are_same-Decides as are_same_plans-Decides}
use Rattle.dmr_calls.specs.Same.{are_same as are_same_lists}
use Rattle.dmr_calls.specs.Same.{are_same-Decides as are_same_lists-Decides}
use Rattle.dmr_pool.specs.Same.{beq-Decides, are_same_pdus, are_same_pdus-Decides}
use Rattle.dmr_core.specs.declared.named.NamedSlot.{NamedSlot}
use Rattle.dmr_core.specs.State.{SiteState}
use Rattle.dmr_core.specs.Words.{active_lists}

-- two numbers, each of which may be missing, are the same
abbrev pub is_same_option : Option ℕ → Option ℕ → Bool
is_same_option None None = true
is_same_option (Some a) (Some b) = nat_eq a b
is_same_option a b = false

-- two named slots, each of which may be missing, are the same
abbrev pub is_same_named : Option NamedSlot → Option NamedSlot → Bool
is_same_named None None = true
is_same_named (Some a) (Some b) = nat_eq a.channel b.channel && nat_eq a.slot b.slot
is_same_named a b = false

-- two sites have the same plan and the same facts
abbrev pub are_same : SiteState → SiteState → Bool
are_same a b =
    are_same_plans a.plan b.plan && pointwise beq a.facts.up b.facts.up
    && pointwise nat_eq a.facts.registered b.facts.registered
    && are_same_lists (active_lists a.facts) (active_lists b.facts)
    && pointwise are_same_pdus a.facts.outboxes b.facts.outboxes
    && (pointwise nat_eq a.facts.noise b.facts.noise && nat_eq a.facts.fills b.facts.fills)
    && is_same_option a.facts.moving b.facts.moving && is_same_named a.facts.late b.facts.late

-- the number, 0 if it is missing
abbrev number_if_there : Option ℕ → ℕ
number_if_there None = 0
number_if_there (Some a) = a

-- the test decides whether they are the same
is_same_option-Decides : (a b : Option ℕ) → Decides (is_same_option a b) (a ≡ b)
is_same_option-Decides None None = (λ h. refl, λ e. refl)
is_same_option-Decides (Some a) (Some b) =
    (λ h. ap (λ (n : ℕ). Some n) (eqb-true a b h), λ e. eq-eqb a b (ap number_if_there e))
is_same_option-Decides None (Some b) = (λ h. cc, λ e. cc)
is_same_option-Decides (Some a) None = (λ h. cc, λ e. cc)

-- the test decides whether they are the same
is_same_named-Decides : (a b : Option NamedSlot) → Decides (is_same_named a b) (a ≡ b)
is_same_named-Decides None None = (λ h. refl, λ e. refl)
is_same_named-Decides (Some a) (Some b) = search rules
is_same_named-Decides None (Some b) = (λ h. cc, λ e. cc)
is_same_named-Decides (Some a) None = (λ h. cc, λ e. cc)

-- two sites are the same if their parts are
same_parts : (a b : SiteState) → a.plan ≡ b.plan → a.facts.up ≡ b.facts.up
    → a.facts.registered ≡ b.facts.registered → active_lists a.facts ≡ active_lists b.facts
    → a.facts.outboxes ≡ b.facts.outboxes → a.facts.noise ≡ b.facts.noise
    → a.facts.fills ≡ b.facts.fills → a.facts.moving ≡ b.facts.moving → a.facts.late ≡ b.facts.late
    → a ≡ b
same_parts a b plan up registered lists outboxes noise fills moving late = λ i. record {
  plan = plan i;
  facts = record {
    up = up i;
    registered = registered i;
    asks = (lists i).asks;
    lines = (lists i).lines;
    calls = (lists i).calls;
    outboxes = outboxes i;
    noise = noise i;
    moving = moving i;
    fills = fills i;
    late = late i;
  };
}

-- the test decides whether they are the same
pub are_same-Decides : (a b : SiteState) → Decides (are_same a b) (a ≡ b)
are_same-Decides a b =
    let plan = are_same_plans-Decides a.plan b.plan in
    let up = pointwise_decides beq-Decides a.facts.up b.facts.up in
    let registered = bytes_decides a.facts.registered b.facts.registered in
    let lists = are_same_lists-Decides (active_lists a.facts) (active_lists b.facts) in
    let outboxes = pointwise_decides are_same_pdus-Decides a.facts.outboxes b.facts.outboxes in
    let noise = bytes_decides a.facts.noise b.facts.noise in
    let moving = is_same_option-Decides a.facts.moving b.facts.moving in
    let access = Decides-and _ _ noise (Decides-eqb a.facts.fills b.facts.fills) in
    let late = is_same_named-Decides a.facts.late b.facts.late in
    let d = Decides-and _ _ (Decides-and _ _ (Decides-and _ _ (Decides-and _ _ (Decides-and _ _
    (Decides-and _ _ (Decides-and _ _ plan up) registered) lists) outboxes) access) moving)
    late in (
      λ h. let e = d.0 h in
          same_parts a b e.0.0.0.0.0.0.0 e.0.0.0.0.0.0.1 e.0.0.0.0.0.1 e.0.0.0.0.1 e.0.0.0.1
          e.0.0.1.0 e.0.0.1.1 e.0.1 e.1,
      λ e. d.1 (
        (
          (
            (
              (
                (
                  (ap (λ (s : SiteState). s.plan) e, ap (λ (s : SiteState). s.facts.up) e),
                  ap (λ (s : SiteState). s.facts.registered) e,
                ),
                ap (λ (s : SiteState). active_lists s.facts) e,
              ),
              ap (λ (s : SiteState). s.facts.outboxes) e,
            ),
            (ap (λ (s : SiteState). s.facts.noise) e, ap (λ (s : SiteState). s.facts.fills) e),
          ),
          ap (λ (s : SiteState). s.facts.moving) e,
        ),
        ap (λ (s : SiteState). s.facts.late) e,
      ),
    )

-- the test is an equivalence
pub are_same-equivalence : IsEquivalence are_same
are_same-equivalence = decided are_same are_same-Decides
