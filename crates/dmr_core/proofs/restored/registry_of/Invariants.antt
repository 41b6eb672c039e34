use Rattle.std.proofs.Common.{◌≡◌, drop}
use Rattle.std.specs.Prelude.{fold, filter}
use Rattle.dmr_plan.specs.Plan.{lists_radio}
use Rattle.dmr_registry.specs.Radios.{radios_after_join}
use Rattle.dmr_core.specs.Restored.{restored}
use Rattle.dmr_core.proofs.restored.registry_of.Given as goal

abbrev pub invariant-loop-radio : goal.invariant-loop-radio
invariant-loop-radio l =
    fold radios_after_join l.registry (filter (lists_radio l.plan) (drop l.radio-index l.radios)) ≡ restored l.plan l.radios
