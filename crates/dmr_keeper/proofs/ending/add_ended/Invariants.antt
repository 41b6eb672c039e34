use Rattle.std.proofs.Common.{◌≡◌, ◌++◌, drop, map, filter}
use Rattle.dmr_keeper.specs.Calls.{ended_at}
use Rattle.dmr_keeper.specs.Ending.{is_covered}
use Rattle.dmr_keeper.proofs.ending.add_ended.Given as goal

abbrev pub invariant-loop-call : goal.invariant-loop-call
invariant-loop-call l =
    l.ended.items ++ map (ended_at l.hang l.event l.tick) (filter (is_covered l.ending) (drop l.call-index l.calls))
    ≡ l.initial.ended.items ++ map (ended_at l.hang l.event l.tick) (filter (is_covered l.ending) l.calls)
