-- The facts about this crate's definitions that proofs of other crates may cite. They may cite nothing else in proofs/.
use Rattle.std.proofs.Common.{◌≡◌, ℕ, List, true}
use Rattle.dmr_plan.specs.declared.settings.Settings.{Settings}
use Rattle.dmr_plan.specs.IsPlan.{IsPlan}
use Rattle.dmr_core.specs.declared.entry.Entry.{Entry}
use Rattle.dmr_core.specs.Facts.{Facts, has_carrier}
use Rattle.dmr_core.specs.Journal.{IsLegal}
use Rattle.dmr_core.specs.Laws.{Throughout, BeginsOnFree, GrantsKnown, QuietAfterReset, SendsOwn}
use Rattle.dmr_core.specs.Sound.{IsSound}
use Rattle.dmr_core.proofs.ActsAreSafe.{throughout, begins_on_free, grants_known, sends_own, quiet_after_reset}
use Rattle.dmr_core.proofs.PlansAreKnown.{plan_known}
-- a Poll is answered by at most two acts
pub use Rattle.dmr_core.proofs.PollSizes.{two_at_a_poll}
-- the journal of some events is legal
pub use Rattle.dmr_core.proofs.OneLegalJournal.{journal_is_legal}

-- a legal journal from sound facts, with a plan that is accepted
module _ (plan : Settings) (facts : Facts) (journal : List Entry) (accepted : IsPlan plan) (sound : IsSound plan facts)
    (legal : IsLegal plan facts journal) where
  pub each_begins_on_free : Throughout plan facts BeginsOnFree journal
  each_begins_on_free = throughout plan facts BeginsOnFree (begins_on_free plan) journal (plan_known plan accepted) sound legal

  pub each_grant_known : Throughout plan facts (GrantsKnown plan) journal
  each_grant_known = throughout plan facts (GrantsKnown plan) (grants_known plan) journal (plan_known plan accepted) sound legal

  pub each_quiet_after_reset : (carrier : ℕ) → has_carrier plan carrier ≡ true → QuietAfterReset plan facts carrier journal
  each_quiet_after_reset carrier there = quiet_after_reset plan facts carrier journal (plan_known plan accepted) there sound legal

  pub each_sends_own : Throughout plan facts (SendsOwn plan) journal
  each_sends_own =
      throughout plan facts (SendsOwn plan) (sends_own plan (plan_known plan accepted)) journal (plan_known plan accepted) sound legal
