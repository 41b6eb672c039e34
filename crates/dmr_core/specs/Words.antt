-- Names for single facts: up, waiting, room, free, registered, engaged.
use Rattle.std.specs.Prelude.{ℕ, List, Bool, nat_le, length, if◌then◌else◌, Option, None}
use Rattle.std.specs.List.{list_any}
use Rattle.std.specs.Option.{option_map_or}
use Rattle.dmr_pdu.specs.declared.slots.Slot.{Slot}
use Rattle.dmr_pdu.specs.declared.pdu.Pdu.{Pdu}
use Rattle.dmr_plan.specs.declared.settings.Settings.{Settings}
use Rattle.dmr_plan.specs.declared.carriers.CarrierRow.{CarrierRow}
use Rattle.dmr_plan.specs.Carriers.{row_with}
use Rattle.dmr_registry.specs.Radios.{is_registered_in}
use Rattle.dmr_calls.specs.declared.call.ActiveCall.{ActiveCall}
use Rattle.dmr_calls.specs.Calls.{is_slot}
use Rattle.dmr_calls.specs.ActiveLists.{ActiveLists}
use Rattle.dmr_calls.specs.Engaged.{is_engaged as is_engaged_in}
use Rattle.dmr_pool.specs.Slots.{box, is_up as is_up_in}
use Rattle.dmr_pool.specs.Free.{control_slot, is_empty, is_free_by, lowest_free_by}
use Rattle.dmr_core.specs.Limits.{most_with_room}
use Rattle.dmr_core.specs.Facts.{Facts}

-- the carrier is up
abbrev pub is_up : Facts → ℕ → Bool
is_up now c = is_up_in now.up c

-- the PDUs that wait for a slot, oldest first
abbrev pub outbox : Facts → Slot → List Pdu
outbox now slot = box now.outboxes slot

-- at most 56 PDUs wait for the control slot
abbrev pub has_room : Settings → Facts → Bool
has_room plan now = nat_le (length (outbox now (control_slot plan.lists))) most_with_room

-- the channel of a carrier; 1 if the plan does not have it
abbrev pub lpcn_of : Settings → ℕ → ℕ
lpcn_of plan c = option_map_or (λ (row : CarrierRow). row.lpcn) (row_with plan.lists.carriers c) 1

-- a call is active on the slot
abbrev pub has_call_on : List ActiveCall → Slot → Bool
has_call_on calls slot = list_any (λ s. is_slot s.call.slot slot) calls

-- the slot is free for a call; calls hold the slots on which they are active
abbrev pub is_free : Settings → Facts → Slot → Bool
is_free plan now slot = is_free_by plan.lists now.up now.outboxes (has_call_on now.calls) slot

-- the lowest free slot, by carrier, then slot
abbrev pub lowest_free : Settings → Facts → Option Slot
lowest_free plan now = lowest_free_by plan.lists now.up now.outboxes (has_call_on now.calls)

-- a slot for a new call: the lowest free one, but none while a line waits
abbrev pub slot_for_new_call : Settings → Facts → Option Slot
slot_for_new_call plan now = if is_empty now.lines then lowest_free plan now else None

-- the radio is registered
abbrev pub is_registered : Facts → ℕ → Bool
is_registered now r = is_registered_in now.registered r

-- the asks, lines and calls of the facts, which engage radios
abbrev pub active_lists : Facts → ActiveLists
active_lists now = record { asks = now.asks; lines = now.lines; calls = now.calls }

-- the radio is engaged
abbrev pub is_engaged : Facts → ℕ → Bool
is_engaged now r = is_engaged_in (active_lists now) r
