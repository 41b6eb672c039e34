-- A free slot leaves room for its call: calls are on 31 payload slots at most.
use Rattle.std.proofs.Common.{◌≡◌, ◌<◌, ℕ, List, [], ◌∷◌, true, false, refl, ap, suc, inl, inr, arith, length}
use Rattle.std.specs.Prelude.{◌||◌, nat_eq}
use Rattle.std.specs.List.{list_any, IsDistinct, AllByRecursion}
use Rattle.std.proofs.lemmas.Bool.Decides.{nat_tests}
use Rattle.std.proofs.lemmas.Map.Steps.{length-le_from_distinct_below}
use Rattle.std.proofs.lemmas.Bool.{or_cases, or_parts}
use Rattle.dmr_pdu.specs.declared.slots.Slot.{Slot}
use Rattle.dmr_calls.specs.declared.call.ActiveCall.{ActiveCall}
use Rattle.dmr_calls.specs.Calls.{is_slot}
use Rattle.dmr_pool.specs.Slots.{place}
use Rattle.dmr_core.specs.Words.{has_call_on}
use Rattle.dmr_core.specs.Sound.{AreOnDistinctSlots}

abbrev places : List ActiveCall → List ℕ
places [] = []
places (s ∷ cs) = place s.call.slot ∷ places cs

-- each call's slot is one of 32
abbrev pub AreOnSlots : List ActiveCall → Type 0
AreOnSlots [] = Unit {0}
AreOnSlots (s ∷ cs) = (s.call.slot.carrier < 16) × (s.call.slot.slot < 2) × AreOnSlots cs

other_place : (a b : Slot) → a.slot < 2 → b.slot < 2 → is_slot b a ≡ false → nat_eq (place a) (place b) ≡ false
other_place a b h k apart = grind (arith, nat_tests)

apart_places : (slot : Slot) (cs : List ActiveCall) → slot.slot < 2 → AreOnSlots cs → has_call_on cs slot ≡ false →
    AllByRecursion (λ y. nat_eq (place slot) y ≡ false) (places cs)
apart_places slot [] h on free = tt
apart_places slot (s ∷ cs) h on free =
    let both = or_parts (is_slot s.call.slot slot) (has_call_on cs slot) free in
    (other_place slot s.call.slot h on.1 both.0, apart_places slot cs h on.2 both.1)

distinct_places : (cs : List ActiveCall) → AreOnSlots cs → AreOnDistinctSlots cs → IsDistinct nat_eq (places cs)
unfolding IsDistinct
distinct_places [] on apart = tt
distinct_places (s ∷ cs) on apart = (apart_places s.call.slot cs on.1 on.2 apart.0, distinct_places cs on.2 apart.1)

place_below : (s : Slot) (q : ℕ) → s.carrier < 16 → s.slot < 2 → nat_eq q (place s) ≡ true → q < 32
place_below s q h k e = grind (arith, nat_tests)

below_32 : (cs : List ActiveCall) → AreOnSlots cs → (q : ℕ) → list_any (nat_eq q) (places cs) ≡ true → q < 32
below_32 [] on q h = cc
below_32 (s ∷ cs) on q h =
    elim (or_cases (nat_eq q (place s.call.slot)) (list_any (nat_eq q) (places cs)) h)
    [ inl e ↦ place_below s.call.slot q on.0 on.1 e | inr e ↦ below_32 cs on.2 q e ]

length-places : (cs : List ActiveCall) → length (places cs) ≡ length cs
length-places [] = refl
length-places (s ∷ cs) = ap (λ n. suc n) (length-places cs)

pub few_calls : (cs : List ActiveCall) (control slot : Slot) → AreOnSlots cs → AreOnDistinctSlots cs → control.carrier < 16 →
    control.slot < 2 → slot.carrier < 16 → slot.slot < 2 → has_call_on cs control ≡ false → has_call_on cs slot ≡ false →
    is_slot slot control ≡ false → length cs < 31
unfolding IsDistinct
few_calls cs control slot on apart h1 h2 k1 k2 free1 free2 differ =
    let all : List ℕ = place control ∷ place slot ∷ places cs in
    let distinct : IsDistinct nat_eq all = (
      (other_place control slot h2 k2 differ, apart_places control cs h2 on free1),
      (apart_places slot cs k2 on free2, distinct_places cs on apart),
    ) in
    let below : (q : ℕ) → list_any (nat_eq q) all ≡ true → q < 32 =
    λ q h. elim (or_cases (nat_eq q (place control)) (nat_eq q (place slot) || list_any (nat_eq q) (places cs)) h) [
      | inl e ↦ place_below control q h1 h2 e
      | inr e ↦ elim (or_cases (nat_eq q (place slot)) (list_any (nat_eq q) (places cs)) e)
          [ inl d ↦ place_below slot q k1 k2 d | inr d ↦ below_32 cs on q d ]
    ] in
    omega (arith, length-le_from_distinct_below all 32 distinct below, length-places cs)
