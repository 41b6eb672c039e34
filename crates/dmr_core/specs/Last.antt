-- A fact by the last event or act that opened or closed it.
use Rattle.std.specs.Prelude.{ℕ, List, [], ◌∷◌, Bool, true, false, Option, Some, None, unwrap_or}
use Rattle.std.specs.Prelude.{if◌then◌else◌, ◌==◌, ◌&&◌}
use Rattle.dmr_pdu.specs.declared.slots.Slot.{Slot}
use Rattle.dmr_pdu.specs.declared.pdu.Pdu.TheVariants.{TvGrant}
use Rattle.dmr_plan.specs.declared.settings.Settings.{Settings}
use Rattle.dmr_calls.specs.declared.ask.Ask.{Ask}
use Rattle.dmr_calls.specs.declared.line.Line.{Line}
use Rattle.dmr_calls.specs.declared.call.Call.{Call}
use Rattle.dmr_calls.specs.Calls.{is_slot}
use Rattle.dmr_core.specs.declared.event.Event.{Event}
use Rattle.dmr_core.specs.declared.event.Event.TheVariants.{Up, Lost, Say}
use Rattle.dmr_core.specs.declared.command.Command.TheVariants.{Move, Stay}
use Rattle.dmr_core.specs.declared.act.Act.{Act}
use Rattle.dmr_core.specs.declared.act.Act.TheVariants.{Fill, Joined, Left, Asked, AskOver, Lined}
use Rattle.dmr_core.specs.declared.act.Act.TheVariants.{Unlined, Began, Ended}
use Rattle.dmr_core.specs.declared.entry.Entry.{Entry}
use Rattle.dmr_core.specs.declared.named.NamedSlot.{NamedSlot}
use Rattle.dmr_core.specs.Facts.{has_carrier}

-- the later value, if there is one, else the earlier
abbrev pub or_earlier : {X : Type 0} → Option X → Option X → Option X
or_earlier (Some x) earlier = Some x
or_earlier None earlier = earlier

-- the value that the last act gave, of those that gave one
abbrev pub last_given : {X : Type 0} → (Act → Option X) → List Act → Option X
last_given says [] = None
last_given says (act ∷ acts) = or_earlier (last_given says acts) (says act)

-- the value that the last opener or closer gave; if there is none, the value before the journal
abbrev pub value_after : {X : Type 0} → (Event → Option X) → (Act → Option X) → X → List Entry → X
value_after by_event by_act before [] = before
value_after by_event by_act before (entry ∷ earlier) =
    unwrap_or (or_earlier (last_given by_act entry.acts.list) (by_event entry.event))
    (value_after by_event by_act before earlier)

-- no event opens or closes it
abbrev pub no_event : {X : Type 0} → Event → Option X
no_event event = None

-- no act opens or closes it
abbrev pub no_act : {X : Type 0} → Act → Option X
no_act act = None

-- Joined opens a registration, Left closes it
abbrev pub of_registration : ℕ → Act → Option Bool
of_registration r (Joined q) = if q == r then Some true else None
of_registration r (Left q) = if q == r then Some false else None
of_registration r _ = None

-- Up makes a carrier of the plan up, Lost ends that
abbrev pub of_carrier : Settings → ℕ → Event → Option Bool
of_carrier plan c (Up d) = if (d == c) && has_carrier plan d then Some true else None
of_carrier plan c (Lost d) = if d == c then Some false else None
of_carrier plan c _ = None

-- an operator's `move` opens the move of the control channel, `stay` closes it
abbrev pub of_move : Event → Option (Option ℕ)
of_move (Say (Move lpcn)) = Some (Some lpcn)
of_move (Say Stay) = Some None
of_move _ = None

-- a Fill that is a grant to a talkgroup opens the slot of the last late entry
abbrev pub of_late : Act → Option (Option NamedSlot)
of_late (Fill slot (TvGrant channel number bit target source)) =
    Some (Some (record { channel = channel; slot = number }))
of_late _ = None

-- a carrier's Up and Lost close the fact
abbrev pub closed_with : {X : Type 0} → ℕ → Event → Option (Option X)
closed_with c (Up d) = if d == c then Some None else None
closed_with c (Lost d) = if d == c then Some None else None
closed_with c _ = None

-- Asked opens the ask of a radio, AskOver closes it
abbrev pub of_ask : ℕ → Act → Option (Option Ask)
of_ask r (Asked ask) = if ask.source == r then Some (Some ask) else None
of_ask r (AskOver q) = if q == r then Some None else None
of_ask r _ = None

-- Lined opens the line of a radio, Unlined closes it
abbrev pub of_line : ℕ → Act → Option (Option Line)
of_line r (Lined line) = if line.source == r then Some (Some line) else None
of_line r (Unlined q) = if q == r then Some None else None
of_line r _ = None

-- Began opens the call on a slot, Ended closes it
abbrev pub of_call : Slot → Act → Option (Option Call)
of_call slot (Began call) = if is_slot call.slot slot then Some (Some call) else None
of_call slot (Ended other) = if is_slot other slot then Some None else None
of_call slot _ = None
