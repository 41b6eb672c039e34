use Rattle.std.proofs.Common.{List, ◌++◌, sym, ◌∙◌, ap, subst}
use Rattle.std.specs.List.{filter_map}
use Rattle.dmr_wire.specs.declared.script.Reading.{Reading}
use Rattle.dmr_wire.specs.Memory.{AreReadings}
use Rattle.dmr_wire.specs.Script.{reading_of}
use Rattle.dmr_wire.proofs.ScriptLemmas.{sorted_are_readings}
use Rattle.dmr_wire.proofs.memory.MemoryPort.new.Goals as goal

pub invariant_of-result : goal.invariant_of-result
invariant_of-result c =
    let steps = c.args.steps.items in
    subst (λ (rs : List Reading). AreReadings rs)
    (sym (c.add_all.ensures.reads ∙ ap (λ (rs : List Reading). rs ++ filter_map reading_of steps) c.in-Ok.ensures.none.reads))
    (sorted_are_readings steps)
