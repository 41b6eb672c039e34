-- The test whether the slots of two sites are the same.
use Rattle.std.specs.Prelude.{◌≡◌, ◌&&◌, Bool, List}
use Rattle.std.specs.Bool.{Decides, beq}
use Rattle.std.specs.Cmp.{decided, IsEquivalence}
use Rattle.std.specs.Cmp.Lexicographic.{pointwise, pointwise_decides}
use Rattle.std.proofs.Common.{ap, refl, true, false}
use Rattle.std.proofs.lemmas.Bool.Decides.{Decides-and}
use Rattle.dmr_pdu.specs.declared.pdu.Pdu.{Pdu}
use Rattle.dmr_pdu.specs.contracts.pdu.PduPartialEq.TheImpl as pdu_eq
use Rattle.dmr_pdu.proofs.Laws.{pdu_eq-Decides}
use Rattle.dmr_plan.specs.contracts.sections.ListSectionPartialEq.TheImpl as lists_eq
use Rattle.dmr_plan.specs.EqualityLemmas.{lists_eq-Decides}
use Rattle.dmr_pool.specs.Slots.{Slots}

-- the PDUs are the same, one by one
abbrev pub are_same_pdus : List Pdu → List Pdu → Bool
are_same_pdus a b = pointwise (pdu_eq.ghosts).eq a b

-- the test decides equality
pub are_same_pdus-Decides : (a b : List Pdu) → Decides (are_same_pdus a b) (a ≡ b)
are_same_pdus-Decides a b = pointwise_decides pdu_eq-Decides a b

-- the test is an equivalence
pub are_same_pdus-equivalence : IsEquivalence are_same_pdus
are_same_pdus-equivalence = decided are_same_pdus are_same_pdus-Decides

-- equality of truth values is decided
pub beq-Decides : (a b : Bool) → Decides (beq a b) (a ≡ b)
beq-Decides true true = (λ e. refl, λ e. refl)
beq-Decides false false = (λ e. refl, λ e. refl)
beq-Decides true false = (λ e. cc, λ e. cc)
beq-Decides false true = (λ e. cc, λ e. cc)

-- the same carriers are up, and the same PDUs wait
abbrev pub are_alike : Slots → Slots → Bool
are_alike a b = pointwise beq a.up b.up && pointwise are_same_pdus a.outboxes b.outboxes

-- the same lists of a plan, carriers up, held slots and waiting PDUs
abbrev pub are_same : Slots → Slots → Bool
are_same a b =
    (lists_eq.ghosts).eq a.lists b.lists && pointwise beq a.up b.up && pointwise beq a.held b.held
    && pointwise are_same_pdus a.outboxes b.outboxes

-- two values are the same if their fields are
same_parts : (a b : Slots) → a.lists ≡ b.lists → a.up ≡ b.up → a.held ≡ b.held
    → a.outboxes ≡ b.outboxes → a ≡ b
same_parts a b lists up held outboxes =
    λ i. record { lists = lists i; up = up i; held = held i; outboxes = outboxes i }

-- the test decides equality
pub are_same-Decides : (a b : Slots) → Decides (are_same a b) (a ≡ b)
are_same-Decides a b =
    let lists = lists_eq-Decides a.lists b.lists in
    let up = pointwise_decides beq-Decides a.up b.up in
    let held = pointwise_decides beq-Decides a.held b.held in
    let outboxes = pointwise_decides are_same_pdus-Decides a.outboxes b.outboxes in
    let d = Decides-and _ _ (Decides-and _ _ (Decides-and _ _ lists up) held) outboxes in (
      λ h. let e = d.0 h in same_parts a b e.0.0.0 e.0.0.1 e.0.1 e.1,
      λ e. d.1 (
        ((ap (λ (s : Slots). s.lists) e, ap (λ (s : Slots). s.up) e), ap (λ (s : Slots). s.held) e),
        ap (λ (s : Slots). s.outboxes) e,
      ),
    )

-- the test is an equivalence
pub are_same-equivalence : IsEquivalence are_same
are_same-equivalence = decided are_same are_same-Decides
