use Rattle.std.proofs.Common.{arith}
use Rattle.dmr_core.proofs.LastLemmas.{registered_by_last, up_by_last}
use Rattle.dmr_core.proofs.LastOpenerLemmas.{ask_by_last, call_by_last, late_by_last, line_by_last, move_by_last}
use Rattle.dmr_core.proofs.PlansAreKnown.{plan_known}
use Rattle.dmr_core.proofs.laws.decided_by_the_last.Goals as goal

pub returns-clause-registered : goal.returns-clause-registered
returns-clause-registered c = registered_by_last

pub returns-clause-up : goal.returns-clause-up
returns-clause-up c = λ plan facts journal carrier p h.
    up_by_last plan facts journal carrier (λ there. omega (arith, (plan_known plan p).numbers carrier there, h.pool.carriers))

pub returns-clause-up_within : goal.returns-clause-up_within
returns-clause-up_within c = up_by_last

pub returns-clause-moving : goal.returns-clause-moving
returns-clause-moving c = move_by_last

pub returns-clause-ask : goal.returns-clause-ask
returns-clause-ask c = ask_by_last

pub returns-clause-line : goal.returns-clause-line
returns-clause-line c = λ plan facts journal radio p h legal. line_by_last plan facts journal (plan_known plan p) h legal radio

pub returns-clause-call : goal.returns-clause-call
returns-clause-call c = λ plan facts journal slot p h legal. call_by_last plan facts journal (plan_known plan p) h legal slot

pub returns-clause-late : goal.returns-clause-late
returns-clause-late c = late_by_last
