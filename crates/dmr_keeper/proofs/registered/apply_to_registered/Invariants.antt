use Rattle.std.proofs.Common.{◌≡◌, drop}
use Rattle.dmr_keeper.specs.Registered.{registered_after}
use Rattle.dmr_keeper.proofs.registered.apply_to_registered.Given as goal

abbrev pub invariant-loop-entry : goal.invariant-loop-entry
invariant-loop-entry l = registered_after l.radios.items (drop l.entry-index l.journal) ≡ registered_after l.initial.radios.items l.journal
