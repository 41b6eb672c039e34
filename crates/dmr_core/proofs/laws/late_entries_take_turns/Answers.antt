use Rattle.dmr_core.specs.Turns.{FillsInTurn, NamesActiveCall}
use Rattle.dmr_core.proofs.PlansAreKnown.{plan_known}
use Rattle.dmr_core.proofs.ActsAreSafe.{throughout}
use Rattle.dmr_core.proofs.TurnLemmas.{fills_count, fills_turn, named_within, names_active_call}
use Rattle.dmr_core.proofs.laws.late_entries_take_turns.Goals as goal

pub returns-clause-due : goal.returns-clause-due
returns-clause-due c = λ plan facts journal p h legal. throughout plan facts (FillsInTurn plan) (fills_turn plan) journal
    (plan_known plan p) h legal

pub returns-clause-stands : goal.returns-clause-stands
returns-clause-stands c = λ plan facts journal p h legal. throughout plan facts (NamesActiveCall plan) (names_active_call plan) journal
    (plan_known plan p) h legal

pub returns-clause-counted : goal.returns-clause-counted
returns-clause-counted c = fills_count

pub returns-clause-named : goal.returns-clause-named
returns-clause-named c = named_within c.talkgroup_calls_take_turns.ensures
