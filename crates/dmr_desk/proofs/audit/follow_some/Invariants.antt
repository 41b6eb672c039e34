use Rattle.std.specs.Prelude.{◌≤◌, ◌-◌, length}
use Rattle.dmr_desk.specs.Audited.{AllFollow}
use Rattle.dmr_desk.proofs.audit.follow_some.Given as goal

abbrev pub invariant-loop-start : goal.invariant-loop-start
invariant-loop-start l = (l.start ≤ length l.journal) × AllFollow l.from l.to l.views.items l.journal l.start l.turns

abbrev pub decreases-loop-start : goal.decreases-loop-start
decreases-loop-start l = length l.journal - l.start
