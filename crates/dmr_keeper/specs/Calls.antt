-- Calls that are open, and calls that ended, by the entries of a journal, oldest first.
use Rattle.std.specs.Prelude.{ℕ, List, [], ◌∷◌, ◌++◌, Bool, not, ◌==◌, filter, fold, flat_map}
use Rattle.std.specs.Prelude.{map}
use Rattle.dmr_pdu.specs.declared.slots.Slot.{Slot}
use Rattle.dmr_plan.specs.declared.settings.Settings.{Settings}
use Rattle.dmr_calls.specs.declared.call.Call.{Call}
use Rattle.dmr_calls.specs.Calls.{is_slot, just_begun, one_tick_older, with_activity}
use Rattle.dmr_core.specs.declared.event.Event.{Event}
use Rattle.dmr_core.specs.declared.event.Event.TheVariants.{Up, Lost, Active, Tick}
use Rattle.dmr_core.specs.declared.act.Act.{Act}
use Rattle.dmr_core.specs.declared.act.Act.TheVariants.{Began, Ended}
use Rattle.dmr_core.specs.declared.entry.Entry.{Entry}
use Rattle.dmr_core.specs.Orders.{begun_by}
use Rattle.dmr_keeper.specs.declared.calls.OpenCall.{OpenCall}
use Rattle.dmr_keeper.specs.declared.calls.EndedCall.{EndedCall}
use Rattle.dmr_keeper.specs.declared.lines.OpenLine.{OpenLine}
use Rattle.dmr_keeper.specs.Causes.{cause_of}
use Rattle.dmr_keeper.specs.Lines.{lines_after_entry, waited_at}
use Rattle.dmr_keeper.specs.Ticks.{tick_at}

-- a call that begins at this tick, in an entry before which these lines waited
abbrev pub begun_at : ℕ → List OpenLine → Call → OpenCall
begun_at tick lines call = record {
  active = just_begun call;
  began = tick;
  waited = waited_at tick lines call.source;
}

-- an open call after one more tick
abbrev pub one_tick_on : OpenCall → OpenCall
one_tick_on o = record o { active = one_tick_older o.active }

-- an open call after activity on a slot
abbrev pub with_activity_on : Slot → OpenCall → OpenCall
with_activity_on slot o = record o { active = with_activity slot o.active }

-- the call is on the slot
abbrev pub is_on : Slot → OpenCall → Bool
is_on slot o = is_slot o.active.call.slot slot

-- the call is on a slot of the carrier
abbrev pub is_of : ℕ → OpenCall → Bool
is_of carrier o = o.active.call.slot.carrier == carrier

-- the record of a call that ends at this tick, in an entry with this event
abbrev pub ended_at : ℕ → Event → ℕ → OpenCall → EndedCall
ended_at hang event tick o = record {
  call = o.active.call;
  began = o.began;
  ended = tick;
  waited = o.waited;
  cause = cause_of hang event o.active;
}

-- open calls after an event: a carrier's Up and Lost close its calls; Active marks the calls on its slot; a Tick is
-- counted
abbrev pub open_by_event : List OpenCall → Event → List OpenCall
open_by_event calls (Up carrier) = filter (λ o. not (is_of carrier o)) calls
open_by_event calls (Lost carrier) = filter (λ o. not (is_of carrier o)) calls
open_by_event calls (Active slot) = map (with_activity_on slot) calls
open_by_event calls Tick = map one_tick_on calls
open_by_event calls _ = calls

-- the records of the calls that an event closes
abbrev pub ended_by_event : ℕ → Event → ℕ → List OpenCall → List EndedCall
ended_by_event hang (Up carrier) tick calls =
    map (ended_at hang (Up carrier) tick) (filter (is_of carrier) calls)
ended_by_event hang (Lost carrier) tick calls =
    map (ended_at hang (Lost carrier) tick) (filter (is_of carrier) calls)
ended_by_event hang _ tick calls = []

-- open calls after an act: Began opens, Ended closes those on its slot
abbrev pub open_by_act : ℕ → List OpenLine → List OpenCall → Act → List OpenCall
open_by_act tick lines calls (Began call) = calls ++ begun_at tick lines call ∷ []
open_by_act tick lines calls (Ended slot) = filter (λ o. not (is_on slot o)) calls
open_by_act tick lines calls _ = calls

-- the records of the calls that an act closes
abbrev pub ended_by_act : ℕ → Event → ℕ → List OpenCall → Act → List EndedCall
ended_by_act hang event tick calls (Ended slot) =
    map (ended_at hang event tick) (filter (is_on slot) calls)
ended_by_act hang event tick calls _ = []

-- the records of the calls that acts close, each with the calls that are open before it
abbrev pub ended_by_acts : ℕ → Event → ℕ → List OpenLine → List OpenCall → List Act → List EndedCall
ended_by_acts hang event tick lines calls [] = []
ended_by_acts hang event tick lines calls (act ∷ acts) =
    ended_by_act hang event tick calls act
    ++ ended_by_acts hang event tick lines (open_by_act tick lines calls act) acts

-- the open calls after an entry, whose event is that of this tick or comes after it. These lines waited before the
-- entry
abbrev pub open_after_entry : ℕ → List OpenLine → List OpenCall → Entry → List OpenCall
open_after_entry tick lines calls entry =
    fold (open_by_act tick lines) (open_by_event calls entry.event) entry.acts.list

-- the records of the calls that an entry closes: those of its event, then those of its acts
abbrev pub ended_in_entry : ℕ → ℕ → List OpenLine → List OpenCall → Entry → List EndedCall
ended_in_entry hang tick lines calls entry =
    ended_by_event hang entry.event tick calls
    ++ ended_by_acts hang entry.event tick lines (open_by_event calls entry.event) entry.acts.list

-- the calls that are open after a journal, from the ticks, the lines and the open calls before it
abbrev pub open_after : Settings → ℕ → List OpenLine → List OpenCall → List Entry → List OpenCall
open_after plan ticks lines calls [] = calls
open_after plan ticks lines calls (entry ∷ later) =
    open_after plan (tick_at ticks entry.event)
    (lines_after_entry plan (tick_at ticks entry.event) lines entry)
    (open_after_entry (tick_at ticks entry.event) lines calls entry) later

-- the records of the calls that ended in a journal
abbrev pub ended_in : Settings → ℕ → List OpenLine → List OpenCall → List Entry → List EndedCall
ended_in plan ticks lines calls [] = []
ended_in plan ticks lines calls (entry ∷ later) =
    ended_in_entry plan.calls.hang (tick_at ticks entry.event) lines calls entry
    ++ ended_in plan (tick_at ticks entry.event)
    (lines_after_entry plan (tick_at ticks entry.event) lines entry)
    (open_after_entry (tick_at ticks entry.event) lines calls entry) later

-- the calls that began in a journal, by their slots
abbrev pub begun_in : List Entry → List Slot
begun_in journal = flat_map (λ (entry : Entry). flat_map begun_by entry.acts.list) journal
