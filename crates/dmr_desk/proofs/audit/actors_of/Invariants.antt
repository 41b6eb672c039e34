use Rattle.std.specs.Prelude.{◌≡◌, length}
use Rattle.dmr_desk.specs.Audited.{HasActors}
use Rattle.dmr_desk.proofs.audit.actors_of.Given as goal

abbrev pub invariant-loop-place : goal.invariant-loop-place
invariant-loop-place l = (length l.actors ≡ 256) × HasActors l.start l.place l.journal l.actors
