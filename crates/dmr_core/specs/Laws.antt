-- The safety laws: statements about each act and the facts just before it.
use Rattle.std.specs.Prelude.{◌≡◌, ℕ, List, [], ◌∷◌, Bool, true, false, not, ◌==◌, ◌&&◌, ◌||◌, Some}
use Rattle.std.specs.List.{list_any}
use Rattle.dmr_pdu.specs.declared.slots.Slot.{Slot}
use Rattle.dmr_pdu.specs.declared.pdu.Pdu.{Pdu}
use Rattle.dmr_pdu.specs.declared.pdu.Pdu.TheVariants.{PvGrant, TvGrant}
use Rattle.dmr_plan.specs.declared.settings.Settings.{Settings}
use Rattle.dmr_plan.specs.Plan.{lists_group}
use Rattle.dmr_calls.specs.declared.call.Call.{Call}
use Rattle.dmr_calls.specs.declared.call.ActiveCall.{ActiveCall}
use Rattle.dmr_calls.specs.Calls.{call_on}
use Rattle.dmr_pool.specs.Free.{names}
use Rattle.dmr_core.specs.declared.event.Event.{Event}
use Rattle.dmr_core.specs.declared.event.Event.TheVariants.{Lost, Up}
use Rattle.dmr_core.specs.declared.act.Act.{Act}
use Rattle.dmr_core.specs.declared.act.Act.TheVariants.{Began, Fill, Queue, Send}
use Rattle.dmr_core.specs.declared.entry.Entry.{Entry}
use Rattle.dmr_core.specs.Facts.{Facts, facts_after_act, facts_after, facts_after_event, since}
use Rattle.dmr_core.specs.Words.{is_registered, is_up, lpcn_of, has_call_on}
use Rattle.dmr_core.specs.Sound.{is_grant, is_own}

-- P holds for each act and the facts just before it
abbrev pub EachAct : (Facts → Act → Type 0) → Facts → List Act → Type 0
EachAct P now [] = Unit {0}
EachAct P now (act ∷ acts) = P now act × EachAct P (facts_after_act now act) acts

-- P holds for each act of each entry and the facts just before it
abbrev pub Throughout : Settings → Facts → (Facts → Act → Type 0) → List Entry → Type 0
Throughout plan facts P [] = Unit {0}
Throughout plan facts P (entry ∷ earlier) =
    EachAct P (facts_after_event plan (facts_after plan facts earlier) entry.event) entry.acts.list
    × Throughout plan facts P earlier

-- a call begins on a slot without a call, of a carrier that is up
abbrev pub BeginsOnFree : Facts → Act → Type 0
BeginsOnFree now (Began call) =
    (has_call_on now.calls call.slot ≡ false) × (is_up now call.slot.carrier ≡ true)
BeginsOnFree now _ = Unit {0}

-- the parties of a grant are registered, and its group is listed
abbrev pub NamesKnown : Settings → Facts → Pdu → Type 0
NamesKnown plan now (PvGrant l s target source) =
    (is_registered now source ≡ true) × (is_registered now target ≡ true)
NamesKnown plan now (TvGrant l s late target source) =
    (is_registered now source ≡ true) × (lists_group plan target ≡ true)
NamesKnown plan now _ = Unit {0}

-- each grant that is queued, or sent as a Fill, names only registered radios and listed groups
abbrev pub GrantsKnown : Settings → Facts → Act → Type 0
GrantsKnown plan now (Queue slot pdu) = NamesKnown plan now pdu
GrantsKnown plan now (Fill slot pdu) = NamesKnown plan now pdu
GrantsKnown plan now _ = Unit {0}

-- a grant is that of the call on the slot that it names, if a call is active there
abbrev pub IsOwn : Settings → Facts → Pdu → Type 0
IsOwn plan now pdu =
    (slot : Slot) (call : Call) → call_on now.calls slot ≡ Some call → is_own plan call pdu ≡ true

-- each grant that is sent is that of the call on the slot that it names, if a call is active there; for a Fill, one is
abbrev pub SendsOwn : Settings → Facts → Act → Type 0
SendsOwn plan now (Send slot pdu) = IsOwn plan now pdu
SendsOwn plan now (Fill slot pdu) =
    IsOwn plan now pdu
    × (is_grant pdu ≡ true
    → (call : Call) × (call_on now.calls call.slot ≡ Some call) × (is_own plan call pdu ≡ true)
    × (names (lpcn_of plan call.slot.carrier) call.slot.slot pdu ≡ true))
SendsOwn plan now _ = Unit {0}

-- whether the carrier came up or was lost, and no call has begun on it since, after an event; `b` says it of the time
-- before
abbrev pub reset_by_event : ℕ → Bool → Event → Bool
reset_by_event c b (Up d) = b || (d == c)
reset_by_event c b (Lost d) = b || (d == c)
reset_by_event c b _ = b

-- the same after an act: false once a call begins on the carrier
abbrev pub reset_by_act : ℕ → Bool → Act → Bool
reset_by_act c b (Began call) = b && not (call.slot.carrier == c)
reset_by_act c b _ = b

-- the PDU is a grant that names a slot of the carrier
abbrev pub names_carrier : Settings → ℕ → Pdu → Bool
names_carrier plan c (PvGrant l s target source) = l == lpcn_of plan c
names_carrier plan c (TvGrant l s late target source) = l == lpcn_of plan c
names_carrier plan c _ = false

-- the act queues a grant that names a slot of the carrier, or sends one as a Fill
abbrev pub grants_on : Settings → ℕ → Act → Bool
grants_on plan c (Queue slot pdu) = names_carrier plan c pdu
grants_on plan c (Fill slot pdu) = names_carrier plan c pdu
grants_on plan c _ = false

-- a call is active on a slot of the carrier
abbrev pub has_call : List ActiveCall → ℕ → Bool
has_call calls c = list_any (λ s. s.call.slot.carrier == c) calls

-- while b is true, no call is active on the carrier, and no act queues a grant that names a slot of it, or sends one as
-- a Fill. A grant that was queued before may still be sent
abbrev pub QuietActs : Settings → ℕ → Bool → Facts → List Act → Type 0
QuietActs plan c b now [] = b ≡ true → has_call now.calls c ≡ false
QuietActs plan c b now (act ∷ acts) =
    (b ≡ true → (has_call now.calls c ≡ false) × (grants_on plan c act ≡ false))
    × QuietActs plan c (reset_by_act c b act) (facts_after_act now act) acts

-- whether the carrier came up or was lost in the journal, and no call has begun on it since
abbrev pub is_reset : ℕ → List Entry → Bool
is_reset c journal = since (reset_by_event c) (reset_by_act c) false journal

-- `QuietActs` holds at each entry, with b true from the carrier's Up or Lost in the journal until a call begins on it
abbrev pub QuietAfterReset : Settings → Facts → ℕ → List Entry → Type 0
QuietAfterReset plan facts c [] = Unit {0}
QuietAfterReset plan facts c (entry ∷ earlier) =
    QuietActs plan c (reset_by_event c (is_reset c earlier) entry.event)
    (facts_after_event plan (facts_after plan facts earlier) entry.event) entry.acts.list
    × QuietAfterReset plan facts c earlier
