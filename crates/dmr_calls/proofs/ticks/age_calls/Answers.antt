use Rattle.std.proofs.Common.{arith}
use Rattle.std.proofs.lemmas.List.Edits.{map_over_more}
use Rattle.dmr_calls.specs.Calls.{one_tick_older}
use Rattle.dmr_calls.proofs.ticks.age_calls.Goals as goal

pub loop-place-preserved : goal.loop-place-preserved
loop-place-preserved c =
    let more = map_over_more one_tick_older c.args.calls.now c.loop-place.calls c.loop-place.place c.index-as_slice-place.result
    (omega arith) c.loop-place.invariant (rw c.as_slice.ensures.value at c.index-as_slice-place.is) in
    rw (c.replace.ensures, c.call_after_tick.ensures) more
