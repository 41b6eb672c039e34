use Rattle.std.proofs.Common.{◌≡◌, ◌≤◌, ◌++◌, length}
use Rattle.dmr_keeper.specs.Handing.{newest}
use Rattle.dmr_keeper.proofs.record_queue.RecordQueue.append.Given as goal

abbrev pub invariant-loop-term : goal.invariant-loop-term
invariant-loop-term l = record {
  moved : newest (l.self ++ l.later) ≡ newest (l.initial.self ++ l.initial.later);
  few : length l.self ≤ 1000;
}

abbrev pub decreases-loop-term : goal.decreases-loop-term
decreases-loop-term l = length l.later
