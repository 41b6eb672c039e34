use Rattle.dmr_link.proofs.StepLemmas.{steps_none, steps_on, steps_passed_on, steps_taken}
use Rattle.dmr_link.proofs.link_state.LinkState.process_unread.Goals as goal

pub loop-self-init : goal.loop-self-init
loop-self-init g c = record { so_far = steps_none; quiet = c.in_ok-deposit_pending.ensures.stops }

pub loop-self-preserved : goal.loop-self-preserved
loop-self-preserved g c = record {
  so_far = steps_on c.loop-self.invariant.so_far
      (steps_on (steps_taken (c.take_unread.ensures.moves _ _)) c.in_ok-deposit_pending-2.ensures.step);
  quiet = c.in_ok-deposit_pending-2.ensures.stops;
}

pub returns-in_err-deposit_pending-2-clause-step : goal.returns-in_err-deposit_pending-2-clause-step
returns-in_err-deposit_pending-2-clause-step g c =
    steps_passed_on _ _ c.from_residual-in_err-deposit_pending-2.ensures
    (steps_on c.in_ok-deposit_pending.ensures.step
    (steps_on c.loop-self.invariant.so_far
    (steps_on (steps_taken (c.take_unread.ensures.moves _ _)) c.in_err-deposit_pending-2.ensures.step)))

pub returns-clause-step : goal.returns-clause-step
returns-clause-step g c = steps_on c.in_ok-deposit_pending.ensures.step c.loop-self.invariant.so_far
