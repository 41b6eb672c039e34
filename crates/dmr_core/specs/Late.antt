-- The call that the next late entry names: talkgroup calls are named in turn.
use Rattle.std.specs.Prelude.{ℕ, Option, option_map, find, ◌==◌}
use Rattle.std.specs.Option.{option_and_then}
use Rattle.dmr_pdu.specs.declared.slots.Slot.{Slot}
use Rattle.dmr_plan.specs.declared.settings.Settings.{Settings}
use Rattle.dmr_plan.specs.declared.carriers.CarrierRow.{CarrierRow}
use Rattle.dmr_calls.specs.declared.call.Call.{Call}
use Rattle.dmr_calls.specs.After.{group_after}
use Rattle.dmr_core.specs.declared.named.NamedSlot.{NamedSlot}
use Rattle.dmr_core.specs.Facts.{Facts}

-- the number of the carrier that has a channel, if one has it
abbrev pub carrier_on : Settings → ℕ → Option ℕ
carrier_on plan channel =
    option_map (λ (row : CarrierRow). row.number)
    (find (λ (row : CarrierRow). row.lpcn == channel) plan.lists.carriers)

-- the slot that a grant names, if the plan has its carrier
abbrev pub slot_named : Settings → NamedSlot → Option Slot
slot_named plan named =
    option_map (λ (c : ℕ). record { carrier = c; slot = named.slot })
    (carrier_on plan named.channel)

-- the slot of the last late entry, if there was one
abbrev pub last_slot : Settings → Facts → Option Slot
last_slot plan now = option_and_then (slot_named plan) now.late

-- the talkgroup call on the least slot above that of the last late entry; if there is none above, or there was no late
-- entry, on the least of all
abbrev pub next_call : Settings → Facts → Option Call
next_call plan now = group_after now.calls (last_slot plan now)
