-- The facts of an accepted plan that the proofs use.
use Rattle.std.proofs.Common.{◌≡◌, ◌<◌, ◌≤◌, ℕ, true}
use Rattle.dmr_plan.specs.declared.settings.Settings.{Settings}
use Rattle.dmr_core.specs.Facts.{has_carrier}
use Rattle.dmr_core.specs.Words.{lpcn_of}

pub record KnowsPlan (plan : Settings) : Type 0 where
  pub control : has_carrier plan plan.lists.control ≡ true
  pub numbers : (c : ℕ) → has_carrier plan c ≡ true → c < 16
  pub channels : (a b : ℕ) → has_carrier plan a ≡ true → has_carrier plan b ≡ true → lpcn_of plan a ≡ lpcn_of plan b → a ≡ b
  pub few_grants : plan.calls.grant_copies ≤ 4
  pub few_clears : plan.calls.clear_copies ≤ 4
