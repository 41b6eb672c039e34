use Rattle.dmr_trunk.specs.Restart.{WasInUse}
use Rattle.dmr_trunk.proofs.restart.registered_in.Given as goal

-- so far another program had the store's file open
abbrev pub invariant-loop : goal.invariant-loop
invariant-loop g l = WasInUse g.K.Store.cannot_read l.initial.store l.store
