-- The PDUs queued and sent on a slot, defined by the acts.
use Rattle.std.specs.Prelude.{ℕ, List, [], ◌∷◌, ◌++◌, Bool, false, ◌==◌, if◌then◌else◌, flat_map}
use Rattle.dmr_pdu.specs.declared.slots.Slot.{Slot}
use Rattle.dmr_pdu.specs.declared.pdu.Pdu.{Pdu}
use Rattle.dmr_calls.specs.Calls.{is_slot}
use Rattle.dmr_core.specs.declared.event.Event.{Event}
use Rattle.dmr_core.specs.declared.event.Event.TheVariants.{Up, Lost}
use Rattle.dmr_core.specs.declared.act.Act.{Act}
use Rattle.dmr_core.specs.declared.act.Act.TheVariants.{Queue, Send}
use Rattle.dmr_core.specs.declared.entry.Entry.{Entry}

-- the PDU that an act queues on the slot, as a list
abbrev pub queued_by : Slot → Act → List Pdu
queued_by slot (Queue other pdu) = if is_slot other slot then pdu ∷ [] else []
queued_by slot _ = []

-- the PDU that an act sends on the slot from its outbox, as a list
abbrev pub sent_by : Slot → Act → List Pdu
sent_by slot (Send other pdu) = if is_slot other slot then pdu ∷ [] else []
sent_by slot _ = []

-- the event is the Up or Lost of the carrier
abbrev pub is_turn_of_carrier : ℕ → Event → Bool
is_turn_of_carrier c (Up d) = d == c
is_turn_of_carrier c (Lost d) = d == c
is_turn_of_carrier c _ = false

-- the PDUs that acts named since the carrier last came up or was lost, oldest first; if it never did, `before` and then
-- all
abbrev pub since_turn : ℕ → (Act → List Pdu) → List Pdu → List Entry → List Pdu
since_turn c named before [] = before
since_turn c named before (entry ∷ earlier) =
    (if is_turn_of_carrier c entry.event then [] else since_turn c named before earlier)
    ++ flat_map named entry.acts.list
