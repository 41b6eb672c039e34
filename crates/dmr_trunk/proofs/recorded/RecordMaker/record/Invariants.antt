use Rattle.std.specs.Prelude.{◌≡◌}
use Rattle.dmr_trunk.proofs.recorded.RecordMaker.record.Given as goal

-- no records were made yet
abbrev pub invariant-loop : goal.invariant-loop
invariant-loop g l =
    (goal.iterator-loop g).can_next l.iterator' × (goal.iterator-loop g).is_finite l.iterator'
    × (l.self.recorder ≡ l.initial.self.recorder)
