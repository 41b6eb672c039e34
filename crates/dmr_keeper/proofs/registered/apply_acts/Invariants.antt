use Rattle.std.proofs.Common.{◌≡◌, drop}
use Rattle.std.specs.Prelude.{fold}
use Rattle.dmr_core.specs.Facts.{registered_by_act}
use Rattle.dmr_keeper.proofs.registered.apply_acts.Given as goal

abbrev pub invariant-loop-act : goal.invariant-loop-act
invariant-loop-act l =
    fold registered_by_act l.radios.items (drop l.act-index l.acts) ≡ fold registered_by_act l.initial.radios.items l.acts
