use Rattle.dmr_desk.specs.Audited.{AllFollow}
use Rattle.dmr_desk.proofs.audit.follow_block.Given as goal

abbrev pub invariant-loop-place : goal.invariant-loop-place
invariant-loop-place l = AllFollow l.from l.to l.views.items l.journal l.place l.turns
