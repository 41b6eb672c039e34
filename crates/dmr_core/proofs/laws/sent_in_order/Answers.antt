use Rattle.dmr_core.proofs.PlansAreKnown.{plan_known}
use Rattle.dmr_core.proofs.WaitingLemmas.{sent_then_waits}
use Rattle.dmr_core.proofs.laws.sent_in_order.Goals as goal

pub returns : goal.returns
returns c = λ plan facts slot journal near p h legal. sent_then_waits plan facts slot journal near (plan_known plan p) h legal
