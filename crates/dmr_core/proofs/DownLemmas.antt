-- An event of a carrier that is not up changes nothing.
use Rattle.std.proofs.Common.{◌≡◌, ◌<◌, ◌+◌, ◌*◌, ℕ, List, [], ◌∷◌, Bool, true, false, refl, sym, ◌∙◌, ap, subst, arith, map}
use Rattle.std.specs.List.{list_any}
use Rattle.std.specs.Prelude.{None, if◌then◌else◌, ◌==◌, slice_set, slice_index_or}
use Rattle.std.proofs.lemmas.Bool.{and_parts, eqb-true, false_from_ne_true}
use Rattle.std.proofs.lemmas.List.{set-get_or}
use Rattle.dmr_pdu.specs.declared.slots.Slot.{Slot}
use Rattle.dmr_pdu.specs.declared.pdu.Pdu.{Pdu}
use Rattle.dmr_plan.specs.declared.settings.Settings.{Settings}
use Rattle.dmr_plan.specs.IsPlan.{IsPlan}
use Rattle.dmr_access.specs.Noise.{with_noise, with_poll}
use Rattle.dmr_calls.specs.declared.call.ActiveCall.{ActiveCall}
use Rattle.dmr_calls.specs.Calls.{is_slot, with_activity}
use Rattle.dmr_pool.specs.Slots.{box, outboxes_without_carrier}
use Rattle.dmr_pool.specs.Free.{is_control}
use Rattle.dmr_core.specs.declared.event.Event.{Event}
use Rattle.dmr_core.specs.declared.event.Event.TheVariants.{Up, Lost, Heard, Noise, Active, Poll, Tick, Say}
use Rattle.dmr_core.specs.Facts.{Facts, facts_after_event, has_carrier}
use Rattle.dmr_core.specs.Words.{is_up, has_call_on}
use Rattle.dmr_core.specs.Rules.{acts_of}
use Rattle.dmr_core.specs.Sound.{IsSound}
use Rattle.dmr_core.specs.Down.{IsOfNoCarrier}
use Rattle.dmr_core.proofs.EventsKeepSound.{not_control}
use Rattle.dmr_core.proofs.PlansAreKnown.{plan_known}
use Rattle.dmr_core.proofs.CallsAreApart.{itself}
use Rattle.dmr_core.proofs.ListLemmas.{any_found, filter_none, find_any, find_passes, true_false}

-- a place that has the value is written with it
same_set : {X : Type 0} (xs : List X) (i : ℕ) (v : X) → slice_index_or xs i v ≡ v → slice_set xs i v ≡ xs
same_set xs i v h = ap (λ y. slice_set xs i y) (sym h) ∙ set-get_or xs i v

both_boxes : (boxes : List (List Pdu)) (c : ℕ) → ((n : ℕ) → n < 2 → box boxes (record { carrier = c; slot = n }) ≡ [])
    → outboxes_without_carrier boxes c ≡ boxes
both_boxes boxes c none =
    let first : 2 * c + 0 ≡ 2 * c = omega arith in
    let empty : slice_index_or boxes (2 * c) [] ≡ [] = subst (λ (i : ℕ). slice_index_or boxes i [] ≡ []) first (none 0 (omega arith)) in
    ap (λ (xs : List (List Pdu)). slice_set xs (2 * c + 1) []) (same_set boxes (2 * c) [] empty)
    ∙ same_set boxes (2 * c + 1) [] (none 1 (omega arith))

-- no call on the slot is marked
same_marked : (cs : List ActiveCall) (slot : Slot) → has_call_on cs slot ≡ false → map (with_activity slot) cs ≡ cs
same_marked [] slot h = refl
same_marked (s ∷ cs) slot h = let more = same_marked cs slot in grind arith

module _ (plan : Settings) (now : Facts) (h : IsSound plan now) where
  none_there : (slot : Slot) → is_up now slot.carrier ≡ false → has_call_on now.calls slot ≡ false
  none_there slot down = false_from_ne_true _ (λ e. true_false _ (h.calls.payload slot e).is_up down)

  -- no call is active on a carrier that is not up
  none_of_carrier : (c : ℕ) → is_up now c ≡ false → list_any (λ (s : ActiveCall). s.call.slot.carrier == c) now.calls ≡ false
  none_of_carrier c down = false_from_ne_true _ (λ e.
      let s = any_found (λ (s : ActiveCall). s.call.slot.carrier == c) now.calls e in
      let same : s.0.call.slot.carrier ≡ c = eqb-true _ _ (find_passes (λ (s : ActiveCall). s.call.slot.carrier == c) now.calls s.0 s.1) in
      let none : has_call_on now.calls s.0.call.slot ≡ false = none_there s.0.call.slot (rw same down) in
      true_false _ (find_any _ (λ x. is_slot x.call.slot s.0.call.slot) now.calls s.0 s.1 (itself s.0.call.slot)) none)

  -- a carrier that the plan does not have is not up
  unknown_down : (c : ℕ) → has_carrier plan c ≡ false → is_up now c ≡ false
  unknown_down c none = false_from_ne_true _ (λ e. true_false _ (h.pool.known c e) none)

-- facts, field by field
same_facts : (a b : Facts) → a.up ≡ b.up → a.registered ≡ b.registered → a.asks ≡ b.asks → a.lines ≡ b.lines → a.calls ≡ b.calls →
    a.outboxes ≡ b.outboxes → a.noise ≡ b.noise → a.moving ≡ b.moving → a.fills ≡ b.fills → a.late ≡ b.late → a ≡ b
same_facts a b up registered asks lines calls outboxes noise moving fills late =
    λ i. record {
      up = up i;
      registered = registered i;
      asks = asks i;
      lines = lines i;
      calls = calls i;
      outboxes = outboxes i;
      noise = noise i;
      moving = moving i;
      fills = fills i;
      late = late i;
    }

-- a value that is replaced by an equal one
kept_or : {X : Type 0} (b : Bool) (x y : X) → (b ≡ true → x ≡ y) → (if b then x else y) ≡ y
kept_or true x y h = h refl
kept_or false x y h = refl

-- if a carrier is down and is the control carrier, the control carrier is down
down_too : (plan : Settings) (now : Facts) (c : ℕ) → is_up now c ≡ false → (c == plan.lists.control) ≡ true
    → is_up now plan.lists.control ≡ false
down_too plan now c h e = let same : c ≡ plan.lists.control = eqb-true c plan.lists.control e in rw same at h

slot_down : (plan : Settings) (now : Facts) (slot : Slot) → is_up now slot.carrier ≡ false → is_control plan.lists slot ≡ true →
    is_up now plan.lists.control ≡ false
slot_down plan now slot h e = down_too plan now slot.carrier h (and_parts (slot.carrier == plan.lists.control) (slot.slot == 0) e).0

pub same_noted : (plan : Settings) (now : Facts) (event : Event) → IsPlan plan → IsSound plan now → IsOfNoCarrier plan now event
    → facts_after_event plan now event ≡ now
same_noted plan now (Up c) p h none =
    let other : (c == plan.lists.control) ≡ false = not_control plan c (plan_known plan p) none in
    let down : is_up now c ≡ false = unknown_down plan now h c none in
    same_facts (facts_after_event plan now (Up c)) now (rw none refl) refl (rw other refl) (rw other refl)
    (filter_none (λ (s : ActiveCall). s.call.slot.carrier == c) now.calls (none_of_carrier plan now h c down))
    (both_boxes now.outboxes c (λ n small. h.pool.down (record { carrier = c; slot = n }) small down)) (rw other refl) refl (rw other refl)
    (rw other refl)
same_noted plan now (Lost c) p h none =
    let b : Bool = c == plan.lists.control in
    let down : b ≡ true → is_up now plan.lists.control ≡ false = down_too plan now c none in
    same_facts (facts_after_event plan now (Lost c)) now (same_set now.up c false none) refl
    (kept_or b [] now.asks (λ e. sym (h.asks.none (down e))))
    (kept_or b [] now.lines (λ e. sym (h.lines.none (down e))))
    (filter_none (λ (s : ActiveCall). s.call.slot.carrier == c) now.calls (none_of_carrier plan now h c none))
    (both_boxes now.outboxes c (λ n small. h.pool.down (record { carrier = c; slot = n }) small none))
    (kept_or b [] now.noise (λ e. sym (h.access.noiseless (down e)))) refl
    (kept_or b 0 now.fills (λ e. sym (h.access.unfilled (down e))))
    (kept_or b None now.late (λ e. sym (h.access.unnamed (down e))))
same_noted plan now (Noise slot) p h none =
    let same = kept_or (is_control plan.lists slot) (with_noise now.noise) now.noise
    (λ e. rw (h.access.noiseless (slot_down plan now slot none e)) refl) in
    same_facts (facts_after_event plan now (Noise slot)) now refl refl refl refl refl refl same refl refl refl
same_noted plan now (Active slot) p h none =
    let same = same_marked now.calls slot (none_there plan now h slot none) in
    same_facts (facts_after_event plan now (Active slot)) now refl refl refl refl same refl refl refl refl refl
same_noted plan now (Poll c) p h none =
    let same =
    kept_or (c == plan.lists.control) (with_poll now.noise) now.noise (λ e. rw (h.access.noiseless (down_too plan now c none e)) refl) in
    same_facts (facts_after_event plan now (Poll c)) now refl refl refl refl refl refl same refl refl refl
same_noted plan now (Heard slot pdu) p h none = refl
same_noted plan now Tick p h none = elim none [ ]
same_noted plan now (Say command) p h none = elim none [ ]

pub no_acts : (plan : Settings) (now : Facts) (event : Event) → IsOfNoCarrier plan now event → acts_of plan now event ≡ []
no_acts plan now (Heard slot pdu) none = rw none refl
no_acts plan now (Poll c) none = rw none refl
no_acts plan now (Up c) none = refl
no_acts plan now (Lost c) none = refl
no_acts plan now (Noise slot) none = refl
no_acts plan now (Active slot) none = refl
no_acts plan now Tick none = elim none [ ]
no_acts plan now (Say command) none = elim none [ ]
