-- Late entries name the talkgroup calls in turn.
use Rattle.std.specs.Prelude.{◌≡◌, ℕ, ◌+◌, List, [], ◌∷◌, Bool, true, false, ◌&&◌, ◌==◌, ◌⊎◌}
use Rattle.std.specs.Prelude.{if◌then◌else◌, length, filter, Some}
use Rattle.std.specs.List.{list_all}
use Rattle.dmr_pdu.specs.declared.pdu.Pdu.{Pdu}
use Rattle.dmr_plan.specs.declared.settings.Settings.{Settings}
use Rattle.dmr_calls.specs.declared.call.Call.{Call}
use Rattle.dmr_calls.specs.declared.call.ActiveCall.{ActiveCall}
use Rattle.dmr_calls.specs.Calls.{call_on}
use Rattle.dmr_core.specs.declared.event.Event.{Event}
use Rattle.dmr_core.specs.declared.event.Event.TheVariants.{Up, Lost, Say}
use Rattle.dmr_core.specs.declared.command.Command.TheVariants.{Move}
use Rattle.dmr_core.specs.declared.act.Act.{Act}
use Rattle.dmr_core.specs.declared.act.Act.TheVariants.{Fill, Began, Ended}
use Rattle.dmr_core.specs.declared.entry.Entry.{Entry}
use Rattle.dmr_core.specs.Facts.{Facts}
use Rattle.dmr_core.specs.Rules.{grant_pdu, late_entry}
use Rattle.dmr_core.specs.Sound.{is_grant, total}
use Rattle.dmr_core.specs.May.{late_entry_of_fill}

-- a Fill is the late entry that is due, if there is one, and else not a grant
abbrev pub FillsInTurn : Settings → Facts → Act → Type 0
FillsInTurn plan now (Fill slot pdu) = late_entry_of_fill pdu ≡ late_entry plan now
FillsInTurn plan now _ = Unit {0}

-- the PDU is the late grant of an active talkgroup call
pub record IsLateOf (plan : Settings) (calls : List ActiveCall) (pdu : Pdu) : Type 0 where
  pub call : Call
  pub stands : call_on calls call.slot ≡ Some call
  pub group : call.group ≡ true
  pub is : pdu ≡ grant_pdu plan call true

-- a Fill that is a grant is the late grant of an active talkgroup call
abbrev pub NamesActiveCall : Settings → Facts → Act → Type 0
NamesActiveCall plan now (Fill slot pdu) = is_grant pdu ≡ true → IsLateOf plan now.calls pdu
NamesActiveCall plan now _ = Unit {0}

-- 1 for a Fill, else 0
abbrev pub fill_in : Act → ℕ
fill_in (Fill slot pdu) = 1
fill_in _ = 0

-- the number of Fills in a journal
abbrev pub fills_in : List Entry → ℕ
fills_in [] = 0
fills_in (entry ∷ earlier) = fills_in earlier + total fill_in entry.acts.list

-- the event is the Up or Lost of the control carrier
abbrev pub is_turn : Settings → Event → Bool
is_turn plan (Up c) = c == plan.lists.control
is_turn plan (Lost c) = c == plan.lists.control
is_turn plan _ = false

-- the Fills since the control carrier last came up or was lost; if it never did, all Fills and the count before the
-- journal
abbrev pub fills_since : Settings → ℕ → List Entry → ℕ
fills_since plan before [] = before
fills_since plan before (entry ∷ earlier) =
    (if is_turn plan entry.event then 0 else fills_since plan before earlier)
    + total fill_in entry.acts.list

-- the event is neither Up nor Lost of a carrier, nor an operator's `move`
abbrev pub is_steady_event : Event → Bool
is_steady_event (Up c) = false
is_steady_event (Lost c) = false
is_steady_event (Say (Move lpcn)) = false
is_steady_event _ = true

-- the act neither begins nor ends a call
abbrev pub is_steady_act : Act → Bool
is_steady_act (Began call) = false
is_steady_act (Ended slot) = false
is_steady_act _ = true

-- no carrier comes up or is lost in the journal, no call begins or ends, and there is no `move`
abbrev pub is_steady : List Entry → Bool
is_steady journal =
    list_all (λ (entry : Entry). is_steady_event entry.event
    && list_all is_steady_act entry.acts.list) journal

-- the number of active talkgroup calls
abbrev pub talkgroup_calls : List ActiveCall → ℕ
talkgroup_calls calls = length (filter (λ (s : ActiveCall). s.call.group) calls)

-- the act sends the PDU as a Fill
abbrev pub IsFillOf : Pdu → Act → Type 0
IsFillOf pdu (Fill slot other) = other ≡ pdu
IsFillOf pdu _ = ⊥

-- one of the acts sends the PDU as a Fill
abbrev pub HasFillOf : Pdu → List Act → Type 0
HasFillOf pdu [] = ⊥
HasFillOf pdu (act ∷ acts) = IsFillOf pdu act ⊎ HasFillOf pdu acts

-- one of the entries sends the PDU as a Fill
abbrev pub IsFilledWith : Pdu → List Entry → Type 0
IsFilledWith pdu [] = ⊥
IsFilledWith pdu (entry ∷ earlier) = HasFillOf pdu entry.acts.list ⊎ IsFilledWith pdu earlier
