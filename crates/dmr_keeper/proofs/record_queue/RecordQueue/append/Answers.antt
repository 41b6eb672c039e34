use Rattle.std.proofs.Common.{◌≤◌, ◌∷◌, [], ◌++◌, length, sym, subst}
use Rattle.dmr_keeper.proofs.NewestLemmas.{few_newest, moved_one}
use Rattle.dmr_keeper.proofs.record_queue.RecordQueue.append.Goals as goal

pub loop-term-preserved : goal.loop-term-preserved
loop-term-preserved c = record {
  moved = moved_one _ c.loop-term.self _ c.loop-term.later _ c.in-Some.term c.loop-term.invariant.moved
      (sym c.in-Some.ensures.all) c.add.ensures.added;
  few = subst (λ terms. length terms ≤ 1000) (sym c.add.ensures.added) (few_newest (c.loop-term.self ++ c.in-Some.term ∷ []));
}
