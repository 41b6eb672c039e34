use Rattle.std.proofs.Common.{◌++◌}
use Rattle.dmr_trunk.specs.Stored.{held}
use Rattle.dmr_trunk.proofs.StoredLemmas.{at_end, goes_handed, goes_handed_alone, goes_moved, goes_on}
use Rattle.dmr_trunk.proofs.keeping.hand_over_rest.Goals as goal

pub returns-clause-goes_on : goal.returns-clause-goes_on
returns-clause-goes_on g c =
    let kept = g.K.Keeper.kept in
    let old = held c.args.writer in
    let back = c.wait_for-keeping.result in
    let waits = c.args.waiting.queue in
    let last = c.hand_over-keeping.result in
    goes_on (kept old.keeper) (kept back.keeper) (kept last.keeper) (old.queue ++ waits) (back.queue ++ waits) last.queue
    (goes_handed (kept old.keeper) (kept back.keeper) old.queue back.queue waits c.wait_for-keeping.ensures)
    (goes_on (kept back.keeper) (kept back.keeper) (kept last.keeper) (back.queue ++ waits) c.move_to.new.queue last.queue
    (goes_moved (kept back.keeper) back.queue waits c.move_to.new.queue c.move_to.ensures.moved)
    (goes_handed_alone (kept back.keeper) (kept last.keeper) c.move_to.new.queue last.queue c.hand_over-keeping.ensures.handed))

pub returns-clause-end : goal.returns-clause-end
returns-clause-end g c before all passed =
    let kept = g.K.Keeper.kept in
    let old = held c.args.writer in
    let back = c.wait_for-keeping.result in
    let waits = c.args.waiting.queue in
    let last = c.hand_over-keeping.result in
    at_end kept g.K.Keeper.refuses before all back.keeper c.move_to.new.queue last.queue last.fault
    (goes_on (kept old.keeper) (kept back.keeper) (kept back.keeper) (old.queue ++ waits) (back.queue ++ waits) c.move_to.new.queue
    (goes_handed (kept old.keeper) (kept back.keeper) old.queue back.queue waits c.wait_for-keeping.ensures)
    (goes_moved (kept back.keeper) back.queue waits c.move_to.new.queue c.move_to.ensures.moved) before all passed)
    c.hand_over-keeping.ensures.all c.hand_over-keeping.ensures.refused
