use Rattle.std.specs.Prelude.{◌≡◌}
use Rattle.dmr_trunk.proofs.row.run_next.Given as goal

-- the service is as it was at first
abbrev pub invariant-loop : goal.invariant-loop
invariant-loop g l =
    (goal.iterator-loop g).can_next l.iterator' × (goal.iterator-loop g).is_finite l.iterator'
    × (l.service ≡ l.initial.service)
