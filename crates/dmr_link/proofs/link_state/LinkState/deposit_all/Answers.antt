use Rattle.std.proofs.Common.{refl, ◌∙◌}
use Rattle.dmr_link.proofs.StepLemmas.{held_settles, steps_none, steps_on, steps_passed_on}
use Rattle.dmr_link.proofs.link_state.LinkState.deposit_all.Goals as goal

pub loop-notice-init : goal.loop-notice-init
loop-notice-init g c = record { so_far = steps_none; unread = refl }

pub loop-notice-preserved : goal.loop-notice-preserved
loop-notice-preserved g c = record {
  so_far = steps_on c.loop-notice.invariant.so_far c.in_ok-deposit_first.ensures.step;
  unread = c.in_ok-deposit_first.ensures.unread ∙ c.loop-notice.invariant.unread;
}

pub returns-in_err-deposit_first : goal.returns-in_err-deposit_first
returns-in_err-deposit_first g c = record {
  step =
      steps_passed_on _ _ c.from_residual.ensures
      (steps_on c.loop-notice.invariant.so_far c.in_err-deposit_first.ensures.step);
  stops = held_settles _ _ _ _ c.from_residual.ensures c.in_err-deposit_first.ensures.stops;
  unread = c.in_err-deposit_first.ensures.unread ∙ c.loop-notice.invariant.unread;
}
