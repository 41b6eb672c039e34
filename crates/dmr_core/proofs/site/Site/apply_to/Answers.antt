use Rattle.std.proofs.Common.{[], ◌∷◌, sym, subst}
use Rattle.dmr_core.specs.Journal.{unattributed_entry}
use Rattle.dmr_core.specs.State.{SiteState, IsSite}
use Rattle.dmr_core.proofs.ActsAreSafe.{sound_after}
use Rattle.dmr_core.proofs.PlansAreKnown.{plan_known}
use Rattle.dmr_core.proofs.AnswersMayBeDone.{acts_may}
use Rattle.dmr_core.proofs.site.Site.apply_to.Goals as goal

pub invariant_of-self : goal.invariant_of-self
invariant_of-self c =
    let P : SiteState → Type 0 = λ s. IsSite s in
    subst P (sym c.apply_to.ensures.facts)
    (record {
      plan = c.self.invariant.plan;
      sound = sound_after c.self.inside.machine.plan c.self.inside.machine.facts
          (unattributed_entry c.args.event.now c.apply_to.new.acts ∷ [])
          (plan_known c.self.inside.machine.plan c.self.invariant.plan) c.self.invariant.sound (c.apply_to.ensures.acts, tt);
    })

pub apply_to-requires : goal.apply_to-requires
apply_to-requires c = acts_may c.self.inside.machine.plan c.self.inside.machine.facts c.args.event.now
    (plan_known c.self.inside.machine.plan c.self.invariant.plan) c.self.invariant.sound
