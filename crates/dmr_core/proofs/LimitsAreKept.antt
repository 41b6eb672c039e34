-- Asks and lines, after each act.
use Rattle.std.proofs.Common.{◌≡◌, ◌<◌, ◌≤◌, ℕ, List, [], ◌∷◌, ◌++◌, Bool, true, false, refl, sym, ◌∙◌, arith, filter, length}
use Rattle.std.specs.Prelude.{◌&&◌, not, ◌==◌, ◌||◌}
use Rattle.std.proofs.lemmas.List.{length-append}
use Rattle.std.proofs.lemmas.List.Elements.{All-filter, All-push}
use Rattle.std.proofs.lemmas.Bool.{eqb-true}
use Rattle.dmr_plan.specs.declared.settings.Settings.{Settings}
use Rattle.dmr_plan.specs.Plan.{lists_group}
use Rattle.dmr_calls.specs.declared.ask.Ask.{Ask}
use Rattle.dmr_calls.specs.declared.ask.ActiveAsk.{ActiveAsk}
use Rattle.dmr_calls.specs.declared.line.Line.{Line}
use Rattle.dmr_calls.specs.declared.call.ActiveCall.{ActiveCall}
use Rattle.dmr_calls.specs.Asks.{new_active_ask, others_than}
use Rattle.dmr_calls.specs.Lines.{has_group_line, without_line}
use Rattle.dmr_core.specs.Sound.{AreAsksSound, AreLinesSound}
use Rattle.dmr_core.proofs.ListLemmas.{any_before, any-push, length-filter_le, true_false}

pub listed_or : (plan : Settings) (g target : ℕ) (group : Bool) (old : Bool) → (old ≡ true → lists_group plan g ≡ true)
    → (group ≡ true → lists_group plan target ≡ true) → (old || (group && (target == g))) ≡ true → lists_group plan g ≡ true
listed_or plan g target group true h k e = h refl
listed_or plan g target true false h k e = rw (← eqb-true target g e) (k refl)
listed_or plan g target false false h k e = cc

none_left : {X : Type 0} (q : X → Bool) (xs : List X) → xs ≡ [] → filter q xs ≡ []
none_left q xs h = rw h refl

-- ticks are counted up to a limit
abbrev pub IsCounted : ActiveCall → Type 0
IsCounted s = (s.age ≤ 65535) × (s.quiet ≤ 65535)

abbrev pub IsWaitCounted : ActiveAsk → Type 0
IsWaitCounted a = a.waited ≤ 65535

module _ (up : Bool) (asks : List ActiveAsk) (h : AreAsksSound up asks) where
  pub asks-fewer : (source : ℕ) → AreAsksSound up (others_than source asks)
  asks-fewer source = record {
    none = λ k. none_left _ asks (h.none k);
    few = omega (arith, h.few, length-filter_le (λ a. not (a.ask.source == source)) asks);
    waits = All-filter (λ a. not (a.ask.source == source)) IsWaitCounted asks h.waits;
  }

  pub asks-more : (ask : Ask) → up ≡ true → length asks < 32 → AreAsksSound up (asks ++ new_active_ask ask ∷ [])
  asks-more ask is_up few = record {
    none = λ k. true_false _ is_up k;
    few = omega (arith, length-append asks (new_active_ask ask ∷ []));
    waits = All-push IsWaitCounted asks (new_active_ask ask) h.waits (omega arith);
  }

module _ (plan : Settings) (up : Bool) (lines : List Line) (h : AreLinesSound plan up lines) where
  pub lines-fewer : (source : ℕ) → AreLinesSound plan up (without_line source lines)
  lines-fewer source = record {
    none = λ k. none_left _ lines (h.none k);
    listed = λ g k. h.listed g (any_before (λ x. x.group && (x.target == g)) (λ x. not (x.source == source)) lines k);
    few = omega (arith, h.few, length-filter_le (λ l. not (l.source == source)) lines);
  }

  pub lines-more : (l : Line) → up ≡ true → length lines < 32 → (l.group ≡ true → lists_group plan l.target ≡ true)
      → AreLinesSound plan up (lines ++ l ∷ [])
  lines-more l is_up few listed = record {
    none = λ k. true_false _ is_up k;
    listed = λ g k. listed_or plan g l.target l.group (has_group_line lines g) (h.listed g) listed
        (sym (any-push (λ x. x.group && (x.target == g)) lines l) ∙ k);
    few = omega (arith, length-append lines (l ∷ []));
  }
