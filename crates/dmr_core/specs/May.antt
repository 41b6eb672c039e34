-- The conditions of each act: statements about the facts before it.
use Rattle.std.specs.Prelude.{◌≡◌, ◌≤◌, ◌<◌, ℕ, ◌+◌, length, List, [], ◌∷◌, Bool, true, false}
use Rattle.std.specs.Prelude.{Option, Some, None, slice_get, if◌then◌else◌}
use Rattle.dmr_pdu.specs.declared.slots.Slot.{Slot}
use Rattle.dmr_pdu.specs.declared.pdu.Pdu.{Pdu}
use Rattle.dmr_plan.specs.declared.settings.Settings.{Settings}
use Rattle.dmr_plan.specs.Plan.{lists_group}
use Rattle.dmr_calls.specs.declared.ask.ActiveAsk.{ActiveAsk}
use Rattle.dmr_calls.specs.declared.call.Call.{Call}
use Rattle.dmr_calls.specs.declared.call.ActiveCall.{ActiveCall}
use Rattle.dmr_calls.specs.Asks.{others_than}
use Rattle.dmr_calls.specs.Calls.{call_on}
use Rattle.dmr_registry.specs.Limits.{most_radios}
use Rattle.dmr_calls.specs.Limits.{most_asks, most_calls, most_lines}
use Rattle.dmr_pool.specs.Limits.{most_pdus_of_a_slot}
use Rattle.dmr_pool.specs.Free.{control_slot}
use Rattle.dmr_core.specs.declared.act.Act.{Act}
use Rattle.dmr_core.specs.declared.act.Act.TheVariants.{Asked, Began, Fill, Joined, Left, Lined}
use Rattle.dmr_core.specs.declared.act.Act.TheVariants.{Queue, Send}
use Rattle.dmr_core.specs.Facts.{Facts, facts_after_act}
use Rattle.dmr_core.specs.Words.{is_free, is_registered, is_up, outbox, has_call_on}
use Rattle.dmr_core.specs.Rules.{grant_pdu, late_entry}
use Rattle.dmr_core.specs.Sound.{engagements, is_grant, party}

-- the PDU is the grant of an active call
pub record IsGrantOf (plan : Settings) (calls : List ActiveCall) (pdu : Pdu) : Type 0 where
  pub call : Call
  pub late : Bool
  pub stands : call_on calls call.slot ≡ Some call
  pub is : pdu ≡ grant_pdu plan call late

-- the PDU, if it is a grant, is on the control slot and is that of an active call
abbrev pub MayName : Settings → List ActiveCall → Slot → Pdu → Bool → Type 0
MayName plan calls slot pdu true = (slot ≡ control_slot plan.lists) × IsGrantOf plan calls pdu
MayName plan calls slot pdu false = Unit {0}

-- the late entry that a Fill is, if it is one
abbrev pub late_entry_of_fill : Pdu → Option Pdu
late_entry_of_fill pdu = if is_grant pdu then Some pdu else None

-- a PDU may be sent as a Fill: the control carrier is up, and the PDU is the late entry if there is one and else not a
-- grant. A grant is on the control slot, and that of an active call.
pub record MayFill (plan : Settings) (now : Facts) (slot : Slot) (pdu : Pdu) : Type 0 where
  pub up : is_up now plan.lists.control ≡ true
  pub names : MayName plan now.calls slot pdu (is_grant pdu)
  pub late : late_entry_of_fill pdu ≡ late_entry plan now

-- a PDU may be queued: its carrier is up, the slot has no call, the outbox has a place, and a grant is that of an
-- active call
pub record MayQueue (plan : Settings) (now : Facts) (slot : Slot) (pdu : Pdu) : Type 0 where
  pub up : is_up now slot.carrier ≡ true
  pub small : slot.slot < 2
  pub none : has_call_on now.calls slot ≡ false
  pub room : length (outbox now slot) < most_pdus_of_a_slot
  pub names : MayName plan now.calls slot pdu (is_grant pdu)

-- a new call, line or ask may engage its parties: they are registered and not engaged, and its group is listed
pub record MayEngage (plan : Settings) (now : Facts) (asks : List ActiveAsk) (group : Bool)
    (source target : ℕ) : Type 0 where
  pub parties : (r : ℕ) → 0 < party r group source target → is_registered now r ≡ true
  pub once : (r : ℕ) → engagements now.calls asks now.lines r + party r group source target ≤ 1
  pub listed : group ≡ true → lists_group plan target ≡ true

-- a call may begin: its slot is free, fewer than 31 calls are active, and its parties may be engaged
pub record MayBegin (plan : Settings) (now : Facts) (call : Call) : Type 0 where
  pub free : is_free plan now call.slot ≡ true
  pub small : call.slot.slot < 2
  pub few : length now.calls < most_calls
  pub engage : MayEngage plan now now.asks call.group call.source call.target

-- the condition of each act
abbrev pub MayDo : Settings → Facts → Act → Type 0
MayDo plan now (Queue slot pdu) = MayQueue plan now slot pdu
MayDo plan now (Send slot pdu) =
    (is_up now slot.carrier ≡ true) × (slot.slot < 2) × (slice_get (outbox now slot) 0 ≡ Some pdu)
MayDo plan now (Fill slot pdu) = MayFill plan now slot pdu
MayDo plan now (Joined r) = (is_registered now r ≡ false) × (length now.registered < most_radios)
MayDo plan now (Left r) = engagements now.calls now.asks now.lines r ≡ 0
MayDo plan now (Asked ask) =
    (is_up now plan.lists.control ≡ true) × (length (others_than ask.source now.asks) < most_asks)
    × MayEngage plan now (others_than ask.source now.asks) false ask.source ask.target
MayDo plan now (Lined l) =
    (is_up now plan.lists.control ≡ true) × (length now.lines < most_lines)
    × MayEngage plan now now.asks l.group l.source l.target
MayDo plan now (Began call) = MayBegin plan now call
MayDo plan now _ = Unit {0}

-- each act of a list may be done on the facts that the acts before it leave
abbrev pub AllMayDo : Settings → Facts → List Act → Type 0
AllMayDo plan now [] = Unit {0}
AllMayDo plan now (act ∷ acts) = MayDo plan now act × AllMayDo plan (facts_after_act now act) acts
