use Rattle.dmr_core.proofs.CoreLaws.{each_begins_on_free, each_grant_known, each_quiet_after_reset, each_sends_own}
use Rattle.dmr_core.proofs.laws.each_act_is_safe.Goals as goal

pub returns-clause-free : goal.returns-clause-free
returns-clause-free c = each_begins_on_free

pub returns-clause-known : goal.returns-clause-known
returns-clause-known c = each_grant_known

pub returns-clause-quiet : goal.returns-clause-quiet
returns-clause-quiet c = λ plan facts carrier journal p there h legal. each_quiet_after_reset plan facts journal p h legal carrier there

pub returns-clause-own : goal.returns-clause-own
returns-clause-own c = each_sends_own
