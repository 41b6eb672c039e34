use Rattle.std.proofs.Common.{subst, sym}
use Rattle.dmr_core.specs.State.{SiteState, IsSite}
use Rattle.dmr_core.proofs.NothingIsSound.{nothing_is_sound}
use Rattle.dmr_core.proofs.site.Site.new.Goals as goal

pub invariant_of-result : goal.invariant_of-result
invariant_of-result c = subst (λ (s : SiteState). IsSite s) (sym c.in_ok-new.ensures)
    (record { plan = c.use_invariant.ensures; sound = nothing_is_sound c.args.plan })
