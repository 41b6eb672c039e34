use Rattle.dmr_core.proofs.OrderLemmas.{asks_in_order, calls_in_order, lines_in_order, registered_in_order}
use Rattle.dmr_core.proofs.PlansAreKnown.{plan_known}
use Rattle.dmr_core.proofs.laws.lists_are_in_order.Goals as goal

pub returns-clause-registered : goal.returns-clause-registered
returns-clause-registered c = λ plan facts journal p h legal. registered_in_order plan facts journal h (plan_known plan p) legal

pub returns-clause-asks : goal.returns-clause-asks
returns-clause-asks c = λ plan facts journal h. asks_in_order plan facts journal h

pub returns-clause-lines : goal.returns-clause-lines
returns-clause-lines c = λ plan facts journal p h legal. lines_in_order plan facts journal h (plan_known plan p) legal

pub returns-clause-calls : goal.returns-clause-calls
returns-clause-calls c = λ plan facts journal p h legal. calls_in_order plan facts journal h (plan_known plan p) legal
