-- Ages, quiet times and waiting times, defined by the ticks of a journal.
use Rattle.std.specs.Prelude.{ℕ, ◌+◌, List, [], ◌∷◌, Bool, false, ◌==◌, ◌||◌, if◌then◌else◌, find}
use Rattle.std.specs.List.{list_any}
use Rattle.std.specs.Option.{option_map_or}
use Rattle.dmr_pdu.specs.declared.slots.Slot.{Slot}
use Rattle.dmr_calls.specs.declared.ask.ActiveAsk.{ActiveAsk}
use Rattle.dmr_calls.specs.declared.call.ActiveCall.{ActiveCall}
use Rattle.dmr_calls.specs.Calls.{is_slot}
use Rattle.dmr_core.specs.declared.event.Event.{Event}
use Rattle.dmr_core.specs.declared.event.Event.TheVariants.{Active, Tick}
use Rattle.dmr_core.specs.declared.act.Act.{Act}
use Rattle.dmr_core.specs.declared.act.Act.TheVariants.{Asked, Began}
use Rattle.dmr_core.specs.declared.entry.Entry.{Entry}

-- 1 for a Tick, else 0
abbrev pub ticks_in : Event → ℕ
ticks_in Tick = 1
ticks_in _ = 0

-- the ticks after the last entry that `opens` accepts; if it accepts none, all ticks and the count before the journal
abbrev pub ticks_since : (Entry → Bool) → ℕ → List Entry → ℕ
ticks_since opens before [] = before
ticks_since opens before (entry ∷ earlier) =
    if opens entry then 0 else ticks_in entry.event + ticks_since opens before earlier

-- the act begins a call on the slot
abbrev pub is_begin : Slot → Act → Bool
is_begin slot (Began call) = is_slot call.slot slot
is_begin slot _ = false

-- the act is an ask of the radio
abbrev pub is_asked : ℕ → Act → Bool
is_asked radio (Asked ask) = ask.source == radio
is_asked radio _ = false

-- the event is activity on the slot
abbrev pub is_active : Slot → Event → Bool
is_active slot (Active there) = is_slot there slot
is_active slot _ = false

-- a call began on the slot in this entry
abbrev pub begins_on : Slot → Entry → Bool
begins_on slot entry = list_any (is_begin slot) entry.acts.list

-- there was activity on the slot in this entry, or a call began on it
abbrev pub is_active_on : Slot → Entry → Bool
is_active_on slot entry = is_active slot entry.event || begins_on slot entry

-- the radio's request was asked in this entry
abbrev pub asked_in : ℕ → Entry → Bool
asked_in radio entry = list_any (is_asked radio) entry.acts.list

-- the age of the call on a slot; 0 if there is none
abbrev pub age_on : List ActiveCall → Slot → ℕ
age_on calls slot =
    option_map_or (λ (s : ActiveCall). s.age) (find (λ s. is_slot s.call.slot slot) calls) 0

-- the quiet time of the call on a slot; 0 if there is none
abbrev pub quiet_on : List ActiveCall → Slot → ℕ
quiet_on calls slot =
    option_map_or (λ (s : ActiveCall). s.quiet) (find (λ s. is_slot s.call.slot slot) calls) 0

-- the waiting time of a radio's ask; 0 if it has none
abbrev pub waited_of : List ActiveAsk → ℕ → ℕ
waited_of asks radio =
    option_map_or (λ (a : ActiveAsk). a.waited) (find (λ a. a.ask.source == radio) asks) 0
