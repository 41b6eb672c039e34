-- A site: its plan and its facts.
use Rattle.dmr_plan.specs.declared.settings.Settings.{Settings}
use Rattle.dmr_plan.specs.IsPlan.{IsPlan}
use Rattle.dmr_core.specs.Facts.{Facts}
use Rattle.dmr_core.specs.Sound.{IsSound}

-- the plan of a site, and its facts
pub record SiteState : Type 0 where
  pub plan : Settings
  pub facts : Facts

-- the plan is an accepted one, and the facts are sound
pub record IsSite (site : SiteState) : Type 0 where
  pub plan : IsPlan site.plan
  pub sound : IsSound site.plan site.facts
