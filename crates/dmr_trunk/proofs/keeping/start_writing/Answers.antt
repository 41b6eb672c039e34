use Rattle.std.proofs.Common.{IfSome, subst}
use Rattle.dmr_keeper.specs.Handing.{AreHandedOver, IsRefused}
use Rattle.dmr_trunk.proofs.StoredLemmas.{at_end, goes_handed_alone}
use Rattle.dmr_trunk.proofs.keeping.start_writing.Goals as goal

-- no thread could be started, and the closure was called here
pub returns-in-Err-clause-goes_on : goal.returns-in-Err-clause-goes_on
returns-in-Err-clause-goes_on g c =
    let kept = g.K.Keeper.kept in
    let back = c.spawn_with-in-Err.result in
    let over = subst (λ captured. AreHandedOver (kept captured.0.keeper) captured.0.queue back.queue (kept back.keeper))
    c.in-Err.ensures.err c.spawn_with-in-Err.ensures.0 in
    goes_handed_alone (kept c.args.keeping.keeper) (kept back.keeper) c.args.keeping.queue back.queue over

pub returns-in-Err-clause-idle : goal.returns-in-Err-clause-idle
returns-in-Err-clause-idle g c idle before all passed =
    let kept = g.K.Keeper.kept in
    let refuses = g.K.Keeper.refuses in
    let back = c.spawn_with-in-Err.result in
    let refused = subst (λ captured. IfSome back.fault (IsRefused kept refuses captured.0.keeper captured.0.queue back.queue))
    c.in-Err.ensures.err c.spawn_with-in-Err.ensures.2 in
    at_end kept refuses before all c.args.keeping.keeper c.args.keeping.queue back.queue back.fault passed c.spawn_with-in-Err.ensures.1
    refused
