-- The lists in replies.
use Rattle.std.proofs.Common.{◌≡◌, ℕ, ◌+◌, List, [], ◌∷◌, ◌++◌, refl, ap, ◌∙◌, arith, map}
use Rattle.std.specs.Prelude.{flat_map, is_some}
use Rattle.std.specs.List.{range_with_len}
use Rattle.std.proofs.lemmas.Grind.{flat_map-append}
use Rattle.std.proofs.lemmas.List.{append-nil}
use Rattle.std.proofs.lemmas.List.FromFn.{map-range_with_len_more}
use Rattle.dmr_pdu.specs.declared.slots.Slot.{Slot}
use Rattle.dmr_plan.specs.declared.settings.Settings.{Settings}
use Rattle.dmr_calls.specs.declared.call.ActiveCall.{ActiveCall}
use Rattle.dmr_calls.specs.Calls.{call_on}
use Rattle.dmr_pool.specs.Slots.{slot_at}
use Rattle.dmr_core.specs.declared.reply.SlotState.{SlotState}
use Rattle.dmr_core.specs.Facts.{Facts}
use Rattle.dmr_core.specs.Words.{has_call_on}
use Rattle.dmr_core.specs.Displays.{all_slot_states, slot_states}

-- a call is found on a slot exactly if one is active there
pub called : (calls : List ActiveCall) (slot : Slot) → is_some (call_on calls slot) ≡ has_call_on calls slot
called [] slot = refl
called (s ∷ calls) slot = let more = called calls slot in grind arith

-- the slots up to a place
abbrev pub shown_to : Settings → Facts → ℕ → List SlotState
shown_to plan now places = flat_map (slot_states plan now) (map slot_at (range_with_len 0 places))

pub shown_more : (plan : Settings) (now : Facts) (place : ℕ) → shown_to plan now
    (place + 1) ≡ shown_to plan now place ++ slot_states plan now (slot_at place)
shown_more plan now place =
    ap (flat_map (slot_states plan now)) (map-range_with_len_more slot_at 0 place place (omega arith))
    ∙ flat_map-append (slot_states plan now) (map slot_at (range_with_len 0 place)) (slot_at place ∷ [])
    ∙ ap (λ (rest : List SlotState). shown_to plan now place ++ rest) (append-nil (slot_states plan now (slot_at place)))

pub all_are_shown : (plan : Settings) (now : Facts) (places : ℕ) → places ≡ 32 → shown_to plan now places ≡ all_slot_states plan now
unfolding all_slot_states
all_are_shown plan now places all = ap (λ (n : ℕ). shown_to plan now n) all
