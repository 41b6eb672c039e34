use Rattle.std.proofs.Common.{refl, sym, ◌∙◌, subst}
use Rattle.dmr_desk.specs.Term.{IsTerm}
use Rattle.dmr_desk.specs.Terms.{Fits}
use Rattle.dmr_desk.specs.Service.{end_at, start_at}
use Rattle.dmr_trunk.proofs.ServingLemmas.{fault_from, left_is_given}
use Rattle.dmr_trunk.proofs.row.run_next.Goals as goal

pub loop-init : goal.loop-init
loop-init g c = (tt, tt, refl)

pub loop-preserved : goal.loop-preserved
loop-preserved g c = (
  tt,
  tt,
  left_is_given c.in-Err.refused.fault c.loop.service c.in-Ok-service_to_retry.left
      (sym c.in-Err.ensures.left ∙ c.in-Ok-service_to_retry.ensures.left) ∙ c.loop.invariant.2,
)

pub returns-in-Ok-clause-term : goal.returns-in-Ok-clause-term
returns-in-Ok-clause-term g c = subst
    (λ s. IsTerm (start_at g.P.Wire.reported g.G.Gate.passed g.T.Pacer.paced g.C.Wire.reported c.args.limit s)
    (end_at g.P.Wire.reported g.G.Gate.passed g.T.Pacer.paced g.C.Wire.reported c.in-Ok.term))
    c.loop.invariant.2 c.in-Ok.ensures.term

pub returns-in-Ok-clause-fits : goal.returns-in-Ok-clause-fits
returns-in-Ok-clause-fits g c = subst
    (λ s. Fits (start_at g.P.Wire.reported g.G.Gate.passed g.T.Pacer.paced g.C.Wire.reported c.args.limit s)) c.loop.invariant.2
    c.in-Ok.ensures.fits

pub returns-in-Err-service_to_retry-clause-fault : goal.returns-in-Err-service_to_retry-clause-fault
returns-in-Err-service_to_retry-clause-fault g c = fault_from c.loop.service c.args.service
    (start_at g.P.Wire.reported g.G.Gate.passed g.T.Pacer.paced g.C.Wire.reported c.args.limit) _ _ c.loop.invariant.2
    c.in-Err-service_to_retry.ensures.fault c.in-Err.ensures.fault
