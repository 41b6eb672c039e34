-- The value of the desk of a judged site.
use Rattle.std.specs.Prelude.{List}
use Rattle.dmr_core.specs.State.{SiteState}
use Rattle.dmr_link.specs.declared.desk.Deposit.{Deposit}

-- the site, and the events that the desk took since it last forgot them, with the site's answers, oldest first
pub record JudgedSite : Type 0 where
  pub site : SiteState
  pub taken : List Deposit
