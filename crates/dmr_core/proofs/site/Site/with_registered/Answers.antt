use Rattle.std.proofs.Common.{◌≡◌, ℕ, List, true, sym, subst, ap, ◌∙◌}
use Rattle.std.specs.List.{All}
use Rattle.dmr_plan.specs.Plan.{lists_radio}
use Rattle.dmr_core.specs.State.{SiteState, IsSite}
use Rattle.dmr_core.proofs.RestoredLemmas.{restored_is_sound, restored-listed, restored-all}
use Rattle.dmr_core.proofs.site.Site.with_registered.Goals as goal

pub invariant_of-result : goal.invariant_of-result
invariant_of-result c =
    subst (λ (s : SiteState). IsSite s) (sym c.in_ok-with_registry.ensures)
    (record {
      plan = c.use_invariant.ensures;
      sound = restored_is_sound c.args.plan _ c.as_slice-registered.ensures.distinct c.as_slice-registered.ensures.few;
    })

pub returns-clause-listed : goal.returns-clause-listed
returns-clause-listed c =
    let AreListed : List ℕ → Type 0 = λ radios. All (λ radio. lists_radio c.args.plan radio ≡ true) radios in
    let same = ap (λ (s : SiteState). s.facts.registered) c.in_ok-with_registry.ensures ∙ c.in_ok-registry.ensures in
    subst AreListed (sym same) (restored-listed c.args.plan c.args.radios.now)

pub returns-clause-order : goal.returns-clause-order
returns-clause-order c distinct few =
    ap (λ (s : SiteState). s.facts.registered) c.in_ok-with_registry.ensures
    ∙ c.in_ok-registry.ensures
    ∙ restored-all c.args.plan c.args.radios.now distinct few
