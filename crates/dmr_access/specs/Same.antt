-- The test whether two values have the same sections, noise numbers and count of Fills. Only their equality uses it.
use Rattle.std.specs.Prelude.{◌≡◌, ◌&&◌, Bool, nat_eq}
use Rattle.std.specs.Bool.{Decides}
use Rattle.std.specs.Cmp.{decided, IsEquivalence}
use Rattle.std.specs.Cmp.Lexicographic.{pointwise, bytes_decides}
use Rattle.std.proofs.Common.{ap}
use Rattle.std.proofs.lemmas.Bool.Decides.{Decides-and, Decides-eqb}
use Rattle.dmr_plan.specs.contracts.sections.SystemSectionPartialEq.TheImpl as system_eq
use Rattle.dmr_plan.specs.contracts.sections.AlohaSectionPartialEq.TheImpl as aloha_eq
use Rattle.dmr_plan.specs.contracts.sections.CallSectionPartialEq.TheImpl as calls_eq
use Rattle.dmr_plan.specs.EqualityLemmas.{system_eq-Decides, aloha_eq-Decides, calls_eq-Decides}
use Rattle.dmr_access.specs.Fill.{Window}

-- the noise numbers and the counts of Fills are the same
abbrev pub are_alike : Window → Window → Bool
are_alike a b = pointwise nat_eq a.noise b.noise && nat_eq a.fills b.fills

-- the sections are the same, and so are the noise numbers and the counts of Fills
abbrev pub are_same : Window → Window → Bool
are_same a b =
    (system_eq.ghosts).eq a.system b.system && (aloha_eq.ghosts).eq a.aloha b.aloha
    && (calls_eq.ghosts).eq a.calls b.calls && are_alike a b

-- two values are the same if their fields are
same_parts : (a b : Window) → a.system ≡ b.system → a.aloha ≡ b.aloha → a.calls ≡ b.calls
    → a.noise ≡ b.noise → a.fills ≡ b.fills → a ≡ b
same_parts a b system aloha calls noise fills = λ i. record {
  system = system i;
  aloha = aloha i;
  calls = calls i;
  noise = noise i;
  fills = fills i;
}

-- the test decides equality
pub are_same-Decides : (a b : Window) → Decides (are_same a b) (a ≡ b)
are_same-Decides a b =
    let system = system_eq-Decides a.system b.system in
    let aloha = aloha_eq-Decides a.aloha b.aloha in
    let calls = calls_eq-Decides a.calls b.calls in
    let alike = Decides-and _ _ (bytes_decides a.noise b.noise) (Decides-eqb a.fills b.fills) in
    let d = Decides-and _ _ (Decides-and _ _ (Decides-and _ _ system aloha) calls) alike in (
      λ h. let e = d.0 h in same_parts a b e.0.0.0 e.0.0.1 e.0.1 e.1.0 e.1.1,
      λ e. d.1 (
        (
          (ap (λ (w : Window). w.system) e, ap (λ (w : Window). w.aloha) e),
          ap (λ (w : Window). w.calls) e,
        ),
        (ap (λ (w : Window). w.noise) e, ap (λ (w : Window). w.fills) e),
      ),
    )

-- the test is an equivalence
pub are_same-equivalence : IsEquivalence are_same
are_same-equivalence = decided are_same are_same-Decides
