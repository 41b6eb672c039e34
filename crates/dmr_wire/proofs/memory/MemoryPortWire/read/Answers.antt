use Rattle.std.proofs.Common.{List, length, sym, subst}
use Rattle.dmr_wire.specs.declared.script.Reading.{Reading}
use Rattle.dmr_wire.specs.Memory.{AreReadings}
use Rattle.dmr_wire.proofs.ScriptLemmas.{left_are_readings}
use Rattle.dmr_wire.proofs.memory.MemoryPortWire.read.Goals as goal

pub invariant_of-self : goal.invariant_of-self
invariant_of-self c =
    subst (λ (rs : List Reading). AreReadings rs)
    (sym c.read_next-got.ensures.left)
    (left_are_readings c.self.inside.script.reads.items (length c.args.octets.now) c.self.invariant)
