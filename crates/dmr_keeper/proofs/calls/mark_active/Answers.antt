use Rattle.std.proofs.Common.{arith, get_or}
use Rattle.std.proofs.lemmas.List.{get_or_default}
use Rattle.std.proofs.lemmas.List.Edits.{map_over_more}
use Rattle.dmr_keeper.specs.declared.calls.OpenCall.{OpenCall}
use Rattle.dmr_keeper.specs.Calls.{with_activity_on}
use Rattle.dmr_keeper.proofs.calls.mark_active.Goals as goal

pub loop-call-preserved : goal.loop-call-preserved
loop-call-preserved c =
    let read : OpenCall = get_or c.loop-call.calls c.loop-call.call-index c.call-item.result in
    let same = get_or_default c.loop-call.calls c.loop-call.call-index c.call-item.result read (omega arith) in
    rw c.marked.ensures (map_over_more (with_activity_on c.args.slot.now) c.args.calls.now c.loop-call.calls c.loop-call.call-index read
    (omega arith) c.loop-call.invariant same)
