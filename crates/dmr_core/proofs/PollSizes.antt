-- The answer to a poll is short.
use Rattle.std.proofs.Common.{◌≤◌, ℕ, List, [], ◌∷◌, ◌++◌, length, arith}
use Rattle.std.proofs.lemmas.List.{length-append}
use Rattle.dmr_pdu.specs.declared.slots.Slot.{Slot}
use Rattle.dmr_pdu.specs.declared.pdu.Pdu.{Pdu}
use Rattle.dmr_plan.specs.declared.settings.Settings.{Settings}
use Rattle.dmr_core.specs.declared.event.Event.TheVariants.{Poll}
use Rattle.dmr_core.specs.Facts.{Facts}
use Rattle.dmr_core.specs.Words.{outbox}
use Rattle.dmr_core.specs.Rules.{acts_of, acts_for_slot, acts_for_outbox}

-- at most one PDU is sent on a slot
sent_once : (plan : Settings) (facts : Facts) (slot : Slot) (pdus : List Pdu) → length (acts_for_outbox plan facts slot pdus) ≤ 1
sent_once plan facts slot [] = grind arith
sent_once plan facts slot (pdu ∷ pdus) = omega arith

poll_once : (plan : Settings) (facts : Facts) (slot : Slot) → length (acts_for_slot plan facts slot) ≤ 1
unfolding acts_for_slot
poll_once plan facts slot = sent_once plan facts slot (outbox facts slot)

pub two_at_a_poll : (plan : Settings) (facts : Facts) (carrier : ℕ) → length (acts_of plan facts (Poll carrier)) ≤ 2
two_at_a_poll plan facts c =
    let one : Slot = record { carrier = c; slot = 0 } in
    let other : Slot = record { carrier = c; slot = 1 } in
    let whole = length-append (acts_for_slot plan facts one) (acts_for_slot plan facts other) in
    let few : length (acts_for_slot plan facts one ++ acts_for_slot plan facts other) ≤ 2 =
    omega (arith, whole, poll_once plan facts one, poll_once plan facts other) in
    grind (arith, few)
