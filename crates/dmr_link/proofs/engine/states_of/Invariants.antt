use Rattle.std.proofs.Common.{◌≤◌, vec_capacity}
use Rattle.dmr_link.proofs.EngineSessionLemmas.{AreBegun}
use Rattle.dmr_link.proofs.engine.states_of.Given as goal

abbrev pub invariant-loop-number : goal.invariant-loop-number
invariant-loop-number l = record {
  begun : AreBegun l.plan l.states.items l.number;
  few : l.number ≤ 16;
  room : 16 ≤ vec_capacity l.states;
}
