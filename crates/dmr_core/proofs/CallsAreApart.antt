-- Slots that are the same, and calls by their slots.
use Rattle.std.proofs.Common.{◌≡◌, List, [], ◌∷◌, ◌++◌, Bool, true, false, refl, ◌∙◌, ap, arith, map, filter}
use Rattle.std.specs.Prelude.{◌&&◌, Some, None, cond}
use Rattle.std.proofs.lemmas.Bool.{cond_both, or_parts}
use Rattle.std.proofs.lemmas.Bool.Decides.{nat_tests}
use Rattle.dmr_pdu.specs.declared.slots.Slot.{Slot}
use Rattle.dmr_calls.specs.declared.call.Call.{Call}
use Rattle.dmr_calls.specs.declared.call.ActiveCall.{ActiveCall}
use Rattle.dmr_calls.specs.Calls.{call_on, is_slot, with_activity}
use Rattle.dmr_calls.proofs.Laws.{same_slot}
use Rattle.dmr_core.specs.Words.{has_call_on}
use Rattle.dmr_core.specs.Sound.{AreOnDistinctSlots}
use Rattle.dmr_core.proofs.ListLemmas.{any-filter, any-map, any-push}

pub same_slots : (a b : Slot) → is_slot a b ≡ is_slot b a
same_slots a b = grind (arith, nat_tests)

pub itself : (a : Slot) → is_slot a a ≡ true
itself a = grind (arith, nat_tests)

-- no two calls on one slot
pub apart-filter : (q : ActiveCall → Bool) (cs : List ActiveCall) → AreOnDistinctSlots cs → AreOnDistinctSlots (filter q cs)
apart-filter q [] h = tt
apart-filter q (s ∷ cs) h =
    let more = apart-filter q cs h.1 in
    cond_both (q s) (s ∷ filter q cs) (filter q cs) AreOnDistinctSlots (λ e. (any-filter _ q cs h.0, more)) (λ e. more)

pub has_call_on-map : (f : ActiveCall → ActiveCall) → ((s : ActiveCall) → (f s).call ≡ s.call) → (cs : List ActiveCall) (slot : Slot)
    → has_call_on (map f cs) slot ≡ has_call_on cs slot
has_call_on-map f same cs slot = any-map _ _ f (λ s. ap (λ (c : Call). is_slot c.slot slot) (same s)) cs

pub apart-map : (f : ActiveCall → ActiveCall) → ((s : ActiveCall) → (f s).call ≡ s.call) → (cs : List ActiveCall)
    → AreOnDistinctSlots cs → AreOnDistinctSlots (map f cs)
apart-map f same [] h = tt
apart-map f same (s ∷ cs) h = (rw (same s) (has_call_on-map f same cs s.call.slot ∙ h.0), apart-map f same cs h.1)

pub apart-append : (cs : List ActiveCall) (new : ActiveCall) → AreOnDistinctSlots cs → has_call_on cs new.call.slot ≡ false
    → AreOnDistinctSlots (cs ++ new ∷ [])
apart-append [] new h k = (refl, tt)
apart-append (s ∷ cs) new h k =
    let both = or_parts (is_slot s.call.slot new.call.slot) (has_call_on cs new.call.slot) k in
    let other : is_slot new.call.slot s.call.slot ≡ false = same_slots new.call.slot s.call.slot ∙ both.0 in
    (any-push (λ x. is_slot x.call.slot s.call.slot) cs new ∙ rw (h.0, other) refl, apart-append cs new h.1 both.1)

pub marked_call : (slot : Slot) (s : ActiveCall) → (with_activity slot s).call ≡ s.call
marked_call slot s = grind arith

-- a filter by slots
pub call_on-filter : (q : Slot → Bool) (cs : List ActiveCall) (slot : Slot)
    → call_on (filter (λ s. q s.call.slot) cs) slot ≡ cond (q slot) (call_on cs slot) None
call_on-filter q [] slot = grind arith
call_on-filter q (s ∷ cs) slot =
    let more = call_on-filter q cs slot in let same = same_slot s.call.slot slot in grind arith

pub has_call_on-filter : (q : Slot → Bool) (cs : List ActiveCall) (slot : Slot)
    → has_call_on (filter (λ s. q s.call.slot) cs) slot ≡ (q slot && has_call_on cs slot)
has_call_on-filter q [] slot = grind arith
has_call_on-filter q (s ∷ cs) slot =
    let more = has_call_on-filter q cs slot in let same = same_slot s.call.slot slot in grind arith

pub call_after : (q : Slot → Bool) (cs : List ActiveCall) (slot : Slot) (call : Call)
    → call_on (filter (λ s. q s.call.slot) cs) slot ≡ Some call → call_on cs slot ≡ Some call
call_after q cs slot call h = let now = call_on-filter q cs slot in grind arith
