use Rattle.std.proofs.Common.{◌≡◌, ◌≤◌, length}
use Rattle.dmr_core.proofs.ConsoleLemmas.{shown_to}
use Rattle.dmr_core.proofs.machine.Machine.slot_states.Given as goal

abbrev pub invariant-loop-place : goal.invariant-loop-place
invariant-loop-place l = record {
  slots : l.slots ≡ shown_to l.self.plan l.self.facts l.place;
  few : length l.slots ≤ l.place;
}
