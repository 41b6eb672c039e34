-- The records of a gate and a pacer in memory.
use Rattle.std.specs.Prelude.{List, Option, Some, None, map, if◌then◌else◌}
use Rattle.dmr_link.specs.Passages.{Passage, Entered, Left}
use Rattle.test_witness.specs.declared.recorders.Pass.{Pass}
use Rattle.test_witness.specs.declared.recorders.Pass.TheVariants as pass
use Rattle.test_witness.specs.declared.recorders.RecordingGate.{RecordingGate}

-- the passage that is kept as this
abbrev pub passage_of : Pass → Passage
passage_of pass.Entered = Entered
passage_of pass.Left = Left

-- the record of a gate, until its room is used up
abbrev pub passages_of_gate : RecordingGate → Option (List Passage)
passages_of_gate gate = if gate.is_over then None else Some (map passage_of gate.passes.items)
