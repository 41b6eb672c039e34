-- The facts after a journal. Each is a fold over the entries, the newest first, with the fact before them at its end.
use Rattle.std.specs.Prelude.{ℕ, List, [], ◌∷◌, ◌++◌, Bool, true, false, if◌then◌else◌, ◌==◌, fold}
use Rattle.std.specs.Prelude.{map, slice_set, replicate, Option, Some, None}
use Rattle.dmr_pdu.specs.declared.pdu.Pdu.{Pdu}
use Rattle.dmr_pdu.specs.declared.pdu.Pdu.TheVariants.{TvGrant}
use Rattle.dmr_plan.specs.declared.settings.Settings.{Settings}
use Rattle.dmr_plan.specs.Carriers.{has_number_in}
use Rattle.dmr_registry.specs.Radios.{without}
use Rattle.dmr_access.specs.Noise.{noise_at_up, with_noise, with_poll}
use Rattle.dmr_access.specs.Fill.{next_fill_count}
use Rattle.dmr_calls.specs.declared.ask.ActiveAsk.{ActiveAsk}
use Rattle.dmr_calls.specs.declared.line.Line.{Line}
use Rattle.dmr_calls.specs.declared.call.ActiveCall.{ActiveCall}
use Rattle.dmr_calls.specs.Asks.{new_active_ask, ask_after_tick, others_than}
use Rattle.dmr_calls.specs.Lines.{without_line}
use Rattle.dmr_calls.specs.Calls.{just_begun, one_tick_older, with_activity, on_other_slots}
use Rattle.dmr_calls.specs.Calls.{on_other_carriers}
use Rattle.dmr_pdu.specs.Slots.{carriers_of_site, slots_of_site}
use Rattle.dmr_pool.specs.Slots.{outboxes_without_carrier, outboxes_with_pdu, outboxes_after_send}
use Rattle.dmr_pool.specs.Free.{is_control}
use Rattle.dmr_core.specs.declared.event.Event.{Event}
use Rattle.dmr_core.specs.declared.event.Event.TheVariants.{Up, Lost, Noise, Active, Poll, Tick}
use Rattle.dmr_core.specs.declared.event.Event.TheVariants.{Say}
use Rattle.dmr_core.specs.declared.command.Command.TheVariants.{Move, Stay}
use Rattle.dmr_core.specs.declared.act.Act.{Act}
use Rattle.dmr_core.specs.declared.act.Act.TheVariants.{Queue, Send, Fill, Joined, Left, Asked}
use Rattle.dmr_core.specs.declared.act.Act.TheVariants.{AskOver, Lined, Unlined, Began, Ended}
use Rattle.dmr_core.specs.declared.entry.Entry.{Entry}
use Rattle.dmr_core.specs.declared.named.NamedSlot.{NamedSlot}

-- the facts of a site, field by field
pub record Facts : Type 0 where
  pub up : List Bool  -- for each carrier number, 0 to 15, whether the carrier is up
  pub registered : List ℕ  -- the registered radios, in the order of Joined
  pub asks : List ActiveAsk  -- the asks, in the order of their last C_AHOY, oldest first
  pub lines : List Line  -- the lines, in the order of Lined
  pub calls : List ActiveCall  -- the calls, in the order of Began
  pub outboxes : List (List Pdu)  -- for each slot, at its place, the PDUs that wait for it, oldest first
  pub noise : List ℕ  -- the Noises on the control slot since the last Poll, between that and the one before, and so on
  pub moving : Option ℕ  -- the channel to which the control channel is to be moved, if it is
  pub fills : ℕ  -- the Fills since the control carrier last came up, modulo 4
  pub late : Option NamedSlot  -- the slot that the last late entry since then named, if there was one

-- a fact after the entries: the fact before them, as changed by each event and each act
abbrev pub since : {X : Type 0} → (X → Event → X) → (X → Act → X) → X → List Entry → X
since by_event by_act x [] = x
since by_event by_act x (entry ∷ earlier) =
    fold by_act (by_event (since by_event by_act x earlier) entry.event) entry.acts.list

-- no event, or no act, changes the fact
abbrev pub same_as_before : {X Y : Type 0} → X → Y → X
same_as_before x y = x

-- the plan has a carrier of this number
abbrev pub has_carrier : Settings → ℕ → Bool
has_carrier plan c = has_number_in plan.lists.carriers c

-- carriers up: Up opens if the plan has the carrier, Lost closes
abbrev pub up_by_event : Settings → List Bool → Event → List Bool
up_by_event plan up (Up c) = if has_carrier plan c then slice_set up c true else up
up_by_event plan up (Lost c) = slice_set up c false
up_by_event plan up _ = up

-- registrations: Joined opens, Left closes
abbrev pub registered_by_act : List ℕ → Act → List ℕ
registered_by_act radios (Joined r) = radios ++ r ∷ []
registered_by_act radios (Left r) = without radios r
registered_by_act radios _ = radios

-- asks by event: the control carrier's Up and Lost close all; a Tick adds one to each waiting time, up to 65,535
abbrev pub asks_by_event : Settings → List ActiveAsk → Event → List ActiveAsk
asks_by_event plan asks (Up c) = if c == plan.lists.control then [] else asks
asks_by_event plan asks (Lost c) = if c == plan.lists.control then [] else asks
asks_by_event plan asks Tick = map ask_after_tick asks
asks_by_event plan asks _ = asks

-- asks by act: Asked opens, in place of the ask that its source had; AskOver closes
abbrev pub asks_by_act : List ActiveAsk → Act → List ActiveAsk
asks_by_act asks (Asked ask) = others_than ask.source asks ++ new_active_ask ask ∷ []
asks_by_act asks (AskOver r) = others_than r asks
asks_by_act asks _ = asks

-- lines by event: the control carrier's Up and Lost close all
abbrev pub lines_by_event : Settings → List Line → Event → List Line
lines_by_event plan lines (Up c) = if c == plan.lists.control then [] else lines
lines_by_event plan lines (Lost c) = if c == plan.lists.control then [] else lines
lines_by_event plan lines _ = lines

-- lines by act: Lined opens, Unlined closes
abbrev pub lines_by_act : List Line → Act → List Line
lines_by_act lines (Lined line) = lines ++ line ∷ []
lines_by_act lines (Unlined r) = without_line r lines
lines_by_act lines _ = lines

-- calls by event: their carrier's Up and Lost close. Active begins the quiet time of the call on its slot again. A Tick
-- adds one to ages and quiet times, up to 65,535
abbrev pub calls_by_event : List ActiveCall → Event → List ActiveCall
calls_by_event calls (Up c) = on_other_carriers c calls
calls_by_event calls (Lost c) = on_other_carriers c calls
calls_by_event calls (Active slot) = map (with_activity slot) calls
calls_by_event calls Tick = map one_tick_older calls
calls_by_event calls _ = calls

-- calls by act: Began opens, Ended closes
abbrev pub calls_by_act : List ActiveCall → Act → List ActiveCall
calls_by_act calls (Began call) = calls ++ just_begun call ∷ []
calls_by_act calls (Ended slot) = on_other_slots slot calls
calls_by_act calls _ = calls

-- outboxes by event: Up and Lost of a carrier empty its two outboxes
abbrev pub outboxes_by_event : List (List Pdu) → Event → List (List Pdu)
outboxes_by_event boxes (Up c) = outboxes_without_carrier boxes c
outboxes_by_event boxes (Lost c) = outboxes_without_carrier boxes c
outboxes_by_event boxes _ = boxes

-- outboxes by act: Queue adds a PDU after the last, Send removes the first
abbrev pub outboxes_by_act : List (List Pdu) → Act → List (List Pdu)
outboxes_by_act boxes (Queue slot pdu) = outboxes_with_pdu boxes slot pdu
outboxes_by_act boxes (Send slot pdu) = outboxes_after_send boxes slot
outboxes_by_act boxes _ = boxes

-- noise numbers: 32 zeros at the control carrier's Up, none at its Lost. Each of its Polls begins a new one, and a
-- Noise on the control slot adds one to the newest, up to 15
abbrev pub noise_by_event : Settings → List ℕ → Event → List ℕ
noise_by_event plan noise (Up c) = if c == plan.lists.control then noise_at_up else noise
noise_by_event plan noise (Lost c) = if c == plan.lists.control then [] else noise
noise_by_event plan noise (Noise slot) =
    if is_control plan.lists slot then with_noise noise else noise
noise_by_event plan noise (Poll c) = if c == plan.lists.control then with_poll noise else noise
noise_by_event plan noise _ = noise

-- the move of the control channel: an operator's `move` opens it, `stay` closes it
abbrev pub moving_by_event : Option ℕ → Event → Option ℕ
moving_by_event moving (Say (Move lpcn)) = Some lpcn
moving_by_event moving (Say Stay) = None
moving_by_event moving _ = moving

-- Fills by event: 0 at Up and Lost of the control carrier
abbrev pub fills_by_event : Settings → ℕ → Event → ℕ
fills_by_event plan fills (Up c) = if c == plan.lists.control then 0 else fills
fills_by_event plan fills (Lost c) = if c == plan.lists.control then 0 else fills
fills_by_event plan fills _ = fills

-- Fills by act: each Fill adds one, modulo 4
abbrev pub fills_by_act : ℕ → Act → ℕ
fills_by_act fills (Fill slot pdu) = next_fill_count fills
fills_by_act fills _ = fills

-- the slot of the last late entry, by event: Up and Lost of the control carrier close it
abbrev pub late_by_event : Settings → Option NamedSlot → Event → Option NamedSlot
late_by_event plan late (Up c) = if c == plan.lists.control then None else late
late_by_event plan late (Lost c) = if c == plan.lists.control then None else late
late_by_event plan late _ = late

-- the slot of the last late entry, by act: a Fill that is a grant to a talkgroup opens it
abbrev pub late_by_act : Option NamedSlot → Act → Option NamedSlot
late_by_act late (Fill slot (TvGrant channel number bit target source)) =
    Some (record { channel = channel; slot = number })
late_by_act late _ = late

-- the facts after the entries, the newest first
abbrev pub facts_after : Settings → Facts → List Entry → Facts
facts_after plan facts journal = record {
  up = since (up_by_event plan) same_as_before facts.up journal;
  registered = since same_as_before registered_by_act facts.registered journal;
  asks = since (asks_by_event plan) asks_by_act facts.asks journal;
  lines = since (lines_by_event plan) lines_by_act facts.lines journal;
  calls = since calls_by_event calls_by_act facts.calls journal;
  outboxes = since outboxes_by_event outboxes_by_act facts.outboxes journal;
  noise = since (noise_by_event plan) same_as_before facts.noise journal;
  moving = since moving_by_event same_as_before facts.moving journal;
  fills = since (fills_by_event plan) fills_by_act facts.fills journal;
  late = since (late_by_event plan) late_by_act facts.late journal;
}

-- the facts after an event
abbrev pub facts_after_event : Settings → Facts → Event → Facts
facts_after_event plan facts event = record {
  up = up_by_event plan facts.up event;
  registered = facts.registered;
  asks = asks_by_event plan facts.asks event;
  lines = lines_by_event plan facts.lines event;
  calls = calls_by_event facts.calls event;
  outboxes = outboxes_by_event facts.outboxes event;
  noise = noise_by_event plan facts.noise event;
  moving = moving_by_event facts.moving event;
  fills = fills_by_event plan facts.fills event;
  late = late_by_event plan facts.late event;
}

-- the facts after an act
abbrev pub facts_after_act : Facts → Act → Facts
facts_after_act facts act = record {
  up = facts.up;
  registered = registered_by_act facts.registered act;
  asks = asks_by_act facts.asks act;
  lines = lines_by_act facts.lines act;
  calls = calls_by_act facts.calls act;
  outboxes = outboxes_by_act facts.outboxes act;
  noise = facts.noise;
  moving = facts.moving;
  fills = fills_by_act facts.fills act;
  late = late_by_act facts.late act;
}

-- the facts of a site on which nothing has happened
abbrev pub no_facts : Facts
no_facts = record {
  up = replicate carriers_of_site false;
  registered = [];
  asks = [];
  lines = [];
  calls = [];
  outboxes = replicate slots_of_site [];
  noise = [];
  moving = None;
  fills = 0;
  late = None;
}
