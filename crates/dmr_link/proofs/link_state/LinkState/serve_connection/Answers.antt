use Rattle.std.proofs.Common.{arith, ◌+◌}
use Rattle.dmr_link.proofs.StepLemmas.{keeps_on, keeps_same}
use Rattle.dmr_link.proofs.StepsFollow.{moves_none, moves_on, moves_more}
use Rattle.dmr_link.proofs.LinkSteps.{ends_by}
use Rattle.dmr_link.proofs.link_state.LinkState.serve_connection.Goals as goal

pub loop-init : goal.loop-init
loop-init g c = record {
  moves = moves_none _;
  quiet = c.in_default.ensures.stops;
  unread = c.in_default.ensures.all;
  few = omega arith;
  keeps = keeps_same;
}

pub returns-in-Err-read_and_process-clause-works : goal.returns-in-Err-read_and_process-clause-works
returns-in-Err-read_and_process-clause-works g c = record {
  row = 0;
  reads = c.loop.counter + 1;
  moves = moves_on _ _ _ _ c.in_default.ensures.step.moves
      (moves_more _ _ _ _ _ c.loop.invariant.moves c.in-Err-read_and_process.ensures.moves);
  few = omega arith;
  ends = ends_by c.in-Err-read_and_process.stop _ _ c.in-Err-read_and_process.ensures.stops;
}

pub loop-preserved : goal.loop-preserved
loop-preserved g c = record {
  moves = moves_more _ _ _ _ _ c.loop.invariant.moves c.in-Ok.ensures.moves;
  quiet = c.in-Ok.ensures.stops.0;
  unread = c.in-Ok.ensures.stops.1;
  few = c.in-Ok.ensures.stops.2;
  keeps = keeps_on c.loop.invariant.keeps c.in-Ok.ensures.keeps;
}

pub returns-clause-works : goal.returns-clause-works
returns-clause-works g c = record {
  row = c.loop.row;
  reads = c.loop.counter;
  moves = moves_on _ _ _ _ c.in_default.ensures.step.moves c.loop.invariant.moves;
  few = omega arith;
  ends = (c.loop.invariant.quiet, c.loop.invariant.unread, omega arith);
}

pub returns-in-Err-read_and_process-clause-keeps : goal.returns-in-Err-read_and_process-clause-keeps
returns-in-Err-read_and_process-clause-keeps g c =
    keeps_on c.in_default.ensures.step.keeps (keeps_on c.loop.invariant.keeps c.in-Err-read_and_process.ensures.keeps)

pub returns-clause-keeps : goal.returns-clause-keeps
returns-clause-keeps g c = keeps_on c.in_default.ensures.step.keeps c.loop.invariant.keeps
