use Rattle.std.proofs.Common.{refl}
use Rattle.dmr_link.proofs.StepLemmas.{steps_none}
use Rattle.dmr_link.proofs.link_state.LinkState.deposit_pending.Goals as goal

pub returns-then-is_quiet : goal.returns-then-is_quiet
returns-then-is_quiet g c = record { step = steps_none; stops = c.is_quiet.ensures c.if-is_quiet.true; unread = refl }
