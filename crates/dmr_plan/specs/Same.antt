-- The test whether two plans are equal.
use Rattle.std.specs.Prelude.{Bool}
use Rattle.std.specs.Cmp.{IsEquivalence, decided}
use Rattle.std.specs.Bool.{Decides}
use Rattle.std.specs.Prelude.{◌≡◌}
use Rattle.dmr_plan.specs.declared.settings.Settings.{Settings}
use Rattle.dmr_plan.specs.contracts.settings.SettingsPartialEq.TheImpl as settings_eq
use Rattle.dmr_plan.specs.EqualityLemmas.{settings_eq-Decides}

-- whether two plans have the same value at each key
abbrev pub are_same : Settings → Settings → Bool
are_same = (settings_eq.ghosts).eq

-- the test decides whether two plans are equal
pub are_same-Decides : (a b : Settings) → Decides (are_same a b) (a ≡ b)
are_same-Decides = settings_eq-Decides

-- the test is an equivalence
pub are_same-equivalence : IsEquivalence are_same
are_same-equivalence = decided are_same are_same-Decides
