use Rattle.std.proofs.Common.{arith}
use Rattle.std.proofs.lemmas.List.Edits.{map_over_more}
use Rattle.dmr_calls.specs.Asks.{ask_after_tick}
use Rattle.dmr_calls.proofs.ticks.age_asks.Goals as goal

pub loop-place-preserved : goal.loop-place-preserved
loop-place-preserved c =
    let more = map_over_more ask_after_tick c.args.asks.now c.loop-place.asks c.loop-place.place c.index-as_slice-place.result
    (omega arith) c.loop-place.invariant (rw c.as_slice.ensures.value at c.index-as_slice-place.is) in
    rw (c.replace.ensures, c.ask_after_tick.ensures) more
