use Rattle.dmr_desk.specs.Audited.{SameBetween}
use Rattle.dmr_desk.proofs.audit.first_differing.Given as goal

abbrev pub invariant-loop-place : goal.invariant-loop-place
invariant-loop-place l = SameBetween l.from l.place l.views.items l.journal
