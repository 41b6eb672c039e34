use Rattle.std.specs.VecDeque.{deque_len}
use Rattle.dmr_wire.specs.Sorting.{HasRoom}
use Rattle.dmr_wire.proofs.ScriptLemmas.{IsSorting}
use Rattle.dmr_wire.proofs.script.Script.add_all.Given as goal

-- there is room for the remaining steps, and the sorted steps with the remaining ones are all of them
abbrev pub invariant-loop-step : goal.invariant-loop-step
invariant-loop-step l = record {
  room : HasRoom l.self (deque_len l.step-iterator.rest);
  sorting : IsSorting l.fn.self l.self l.fn.steps.items l.step-iterator.rest.items;
}
