use Rattle.std.proofs.Common.{subst}
use Rattle.dmr_trunk.specs.Restart.{at_first, again}
use Rattle.dmr_trunk.proofs.RestartLemmas.{found, not_found}
use Rattle.dmr_trunk.proofs.restart.registered_in.Goals as goal

pub loop-init : goal.loop-init
loop-init g c = at_first _

pub loop-preserved : goal.loop-preserved
loop-preserved g c = again _ _ _ c.loop.invariant
    (subst (λ fault. g.K.Store.cannot_read c.loop.store fault c.registered.new.self) c.in-Err-InUse.field-0-is
    c.in-Err-InUse.ensures.cannot_read)

pub returns-in_default-clause-not_found : goal.returns-in_default-clause-not_found
returns-in_default-clause-not_found g c = record
    { asked = c.loop.store; was_in_use = c.loop.invariant; cannot = c.in_default.ensures.cannot_read }

pub returns-in_default-2-clause-found : goal.returns-in_default-2-clause-found
returns-in_default-2-clause-found g c = found g.K.Store.reads g.K.Store.cannot_read _ _ _
    (λ radios. radios.items) c.registered.result c.loop.invariant c.registered.ensures.reads

pub returns-clause-found : goal.returns-clause-found
returns-clause-found g c = found g.K.Store.reads g.K.Store.cannot_read _ _ _
    (λ radios. radios.items) c.registered-2.result c.loop.invariant c.registered-2.ensures.reads

pub returns-clause-not_found : goal.returns-clause-not_found
returns-clause-not_found g c =
    not_found g.K.Store.cannot_read _ _ _ c.registered-2.result c.loop.invariant c.registered-2.ensures.cannot_read
