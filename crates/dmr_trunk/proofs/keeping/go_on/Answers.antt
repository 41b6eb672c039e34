use Rattle.std.proofs.Common.{◌≡◌, ◌++◌, List, true, Err, ap, rules, subst, ◌∙◌}
use Rattle.dmr_keeper.specs.declared.time.TimedRecords.{TimedRecords}
use Rattle.dmr_keeper.specs.Handing.{newest}
use Rattle.dmr_trunk.specs.Stored.{held, is_idle}
use Rattle.dmr_trunk.proofs.StoredLemmas.{err_is_not_ok, goes_handed, goes_moved, goes_on, goes_to_all}
use Rattle.dmr_trunk.proofs.keeping.go_on.Goals as goal

pub returns-in-Ok-clause-goes_on : goal.returns-in-Ok-clause-goes_on
returns-in-Ok-clause-goes_on g c =
    let kept = g.K.Keeper.kept in
    let old = held c.args.writer in
    let back = c.in-Ok.keeping in
    let waits = c.args.waiting.now.queue in
    let then = held c.start_writing.result in
    let moved : c.move_to.new.queue ≡ newest (back.queue ++ waits) =
    c.move_to.ensures.moved ∙ ap (λ (terms : List TimedRecords). newest (back.queue ++ terms)) c.note.ensures in
    goes_to_all (kept old.keeper) (kept then.keeper) (old.queue ++ waits) then.queue c.move_to.new.self.queue c.move_to.ensures.none
    (goes_on (kept old.keeper) (kept back.keeper) (kept then.keeper) (old.queue ++ waits) (back.queue ++ waits) then.queue
    (goes_handed (kept old.keeper) (kept back.keeper) old.queue back.queue waits c.in-Ok.ensures.back)
    (goes_on (kept back.keeper) (kept back.keeper) (kept then.keeper) (back.queue ++ waits) c.move_to.new.queue then.queue
    (goes_moved (kept back.keeper) back.queue waits c.move_to.new.queue moved) c.start_writing.ensures.goes_on))

-- the thread still writes, so the writer is not idle
pub returns-in-Err-clause-idle : goal.returns-in-Err-clause-idle
returns-in-Err-clause-idle g c idle before all passed =
    let err : c.take_back.result ≡ Err c.in-Err.busy = search rules in
    absurd (err_is_not_ok c.take_back.result c.in-Err.busy err
    (c.take_back.ensures.idle (subst (λ w. is_idle w ≡ true) c.in-Err.ensures.busy idle)))

pub returns-in-Ok-clause-idle : goal.returns-in-Ok-clause-idle
returns-in-Ok-clause-idle g c idle before all passed =
    let kept = g.K.Keeper.kept in
    let old = held c.args.writer in
    let back = c.in-Ok.keeping in
    let waits = c.args.waiting.now.queue in
    let moved : c.move_to.new.queue ≡ newest (back.queue ++ waits) =
    c.move_to.ensures.moved ∙ ap (λ (terms : List TimedRecords). newest (back.queue ++ terms)) c.note.ensures in
    c.start_writing.ensures.idle idle before all
    (goes_on (kept old.keeper) (kept back.keeper) (kept back.keeper) (old.queue ++ waits) (back.queue ++ waits) c.move_to.new.queue
    (goes_handed (kept old.keeper) (kept back.keeper) old.queue back.queue waits c.in-Ok.ensures.back)
    (goes_moved (kept back.keeper) back.queue waits c.move_to.new.queue moved) before all passed)
