-- Calls by the numbers of their slots.
use Rattle.std.proofs.Common.{arith, ◌≡◌, ℕ, suc, ◌+◌, ◌*◌, ◌<◌, List, [], ◌∷◌, Bool, refl, ap, ◌∙◌, map, get_or}
use Rattle.std.specs.Prelude.{◌==◌, ◌&&◌, not, find, filter}
use Rattle.std.specs.List.{All}
use Rattle.std.proofs.lemmas.Bool.Decides.{nat_tests}
use Rattle.std.proofs.lemmas.List.Elements.{All-map}
use Rattle.dmr_pdu.specs.declared.slots.Slot.{Slot}
use Rattle.dmr_calls.specs.declared.call.ActiveCall.{ActiveCall}
use Rattle.dmr_pdu.specs.Slots.{place}
use Rattle.dmr_calls.specs.Slots.{AreOnSlots}
use Rattle.dmr_calls.specs.Calls.{is_slot, one_tick_older, with_activity, on_other_slots, on_other_carriers}

-- slots are the same exactly if their numbers are
pub same_number : (a b : Slot) → a.slot < 2 → b.slot < 2 → (place a == place b) ≡ is_slot a b
same_number a b a_two b_two = grind (arith, nat_tests)

-- a slot is another carrier's exactly if its number is neither of the carrier's two
of_carrier : (a : Slot) (carrier : ℕ) → a.slot < 2 → (not (place a == 2 * carrier) && not (place a == 2 * carrier + 1)) ≡ not
    (a.carrier == carrier)
of_carrier a carrier two = grind (arith, nat_tests)

-- tests that agree on all elements find the same
find_agree : {X : Type 0} (p q : X → Bool) (xs : List X) → All (λ x. p x ≡ q x) xs → find p xs ≡ find q xs
find_agree p q [] same = refl
find_agree p q (x ∷ xs) same =
    rw (same 0 x (omega arith), find_agree p q xs (λ k d within. same (suc k) d (omega (arith, within)))) refl

-- tests that agree on all elements keep the same
filter_agree : {X : Type 0} (p q : X → Bool) (xs : List X) → All (λ x. p x ≡ q x) xs → filter p xs ≡ filter q xs
filter_agree p q [] same = refl
filter_agree p q (x ∷ xs) same =
    rw (same 0 x (omega arith), filter_agree p q xs (λ k d within. same (suc k) d (omega (arith, within)))) refl

-- an element that passes one test and then another passes both
filter_twice : {X : Type 0} (p q : X → Bool) (xs : List X) → filter q (filter p xs) ≡ filter (λ x. p x && q x) xs
filter_twice p q [] = refl
filter_twice p q (x ∷ xs) = let more = filter_twice p q xs in grind arith

-- the first call on a slot is the first of its number
pub found_on_slot : (calls : List ActiveCall) (slot : Slot) → AreOnSlots calls → slot.slot < 2 →
    find (λ s. place s.call.slot == place slot) calls ≡ find (λ s. is_slot s.call.slot slot) calls
found_on_slot calls slot on two = find_agree (λ s. place s.call.slot == place slot) (λ s. is_slot s.call.slot slot) calls
    (λ k d within. same_number _ slot (on k d within) two)

-- the calls on other slots are those of other numbers
pub left_on_slots : (calls : List ActiveCall) (slot : Slot) → AreOnSlots calls → slot.slot < 2 →
    filter (λ s. not (place s.call.slot == place slot)) calls ≡ on_other_slots slot calls
left_on_slots calls slot on two = filter_agree (λ s. not (place s.call.slot == place slot)) (λ s. not (is_slot s.call.slot slot)) calls
    (λ k d within. ap not (same_number _ slot (on k d within) two))

-- the calls of other carriers are those of other numbers than a carrier's two
pub left_on_carriers : (calls : List ActiveCall) (carrier : ℕ) → AreOnSlots calls →
    filter (λ s. not (place s.call.slot == 2 * carrier + 1)) (filter (λ s. not (place s.call.slot == 2 * carrier)) calls) ≡
    on_other_carriers carrier calls
left_on_carriers calls carrier on =
    filter_twice (λ s. not (place s.call.slot == 2 * carrier)) (λ s. not (place s.call.slot == 2 * carrier + 1)) calls
    ∙ filter_agree (λ s. not (place s.call.slot == 2 * carrier) && not (place s.call.slot == 2 * carrier + 1))
    (λ s. not (s.call.slot.carrier == carrier)) calls (λ k d within. of_carrier _ carrier (on k d within))

-- a tick moves no call
pub on_slots_after : (calls : List ActiveCall) → AreOnSlots calls → AreOnSlots (map one_tick_older calls)
on_slots_after calls on = All-map (λ (s : ActiveCall). s.call.slot.slot < 2) one_tick_older calls on

-- activity moves no call
pub on_slots_marked : (slot : Slot) (calls : List ActiveCall) → AreOnSlots calls → AreOnSlots (map (with_activity slot) calls)
on_slots_marked slot calls on =
    All-map (λ (s : ActiveCall). s.call.slot.slot < 2) (with_activity slot) calls (λ k d within. stays (get_or calls k d) (on k d within))
  where
    stays : (s : ActiveCall) → s.call.slot.slot < 2 → (with_activity slot s).call.slot.slot < 2
    stays s two = grind arith
