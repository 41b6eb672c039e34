-- Sound facts stay sound through each event.
use Rattle.std.proofs.Common.{◌≡◌, ◌<◌, ◌≤◌, ◌+◌, ◌*◌, ℕ, zero, suc, List, [], ◌∷◌, Bool, true, false, refl, sym, ◌∙◌, ap, subst, arith}
use Rattle.std.proofs.Common.{map, length, ◌⊎◌, inl, inr, set, get_or, length-set}
use Rattle.std.specs.Prelude.{Option, None, if◌then◌else◌, ◌&&◌, not, ◌==◌, slice_set, slice_index_or}
use Rattle.std.specs.List.{list_any, list_all}
use Rattle.std.proofs.lemmas.Bool.{cases_Bool, cases_lt, cond_both, false_from_ne_true, eqb-true, eqb-false, and_parts, not-true}
use Rattle.std.proofs.lemmas.List.Elements.{All-map, All-nil, All-weaker}
use Rattle.std.proofs.lemmas.List.{get_or-set_other, get_or-set_same, length-map, length-take}
use Rattle.dmr_pdu.specs.declared.slots.Slot.{Slot}
use Rattle.dmr_pdu.specs.declared.pdu.Pdu.{Pdu}
use Rattle.dmr_plan.specs.declared.settings.Settings.{Settings}
use Rattle.dmr_calls.specs.declared.ask.ActiveAsk.{ActiveAsk}
use Rattle.dmr_calls.specs.declared.line.Line.{Line}
use Rattle.dmr_calls.specs.declared.call.Call.{Call}
use Rattle.dmr_calls.specs.declared.call.ActiveCall.{ActiveCall}
use Rattle.dmr_calls.specs.Asks.{ask_after_tick}
use Rattle.dmr_calls.specs.Calls.{call_on, on_other_carriers, one_tick_older, is_slot, with_activity}
use Rattle.dmr_access.specs.Noise.{noise_at_up, with_noise, with_poll}
use Rattle.dmr_pool.specs.Slots.{box, outboxes_without_carrier, place}
use Rattle.dmr_pool.specs.Free.{control_slot, is_control}
use Rattle.dmr_core.specs.declared.event.Event.{Event}
use Rattle.dmr_core.specs.declared.event.Event.TheVariants.{Active, Lost, Noise, Poll, Say, Tick, Up}
use Rattle.dmr_core.specs.declared.named.NamedSlot.{NamedSlot}
use Rattle.dmr_core.specs.Facts.{Facts, has_carrier, facts_after_event}
use Rattle.dmr_core.specs.Words.{is_up}
use Rattle.dmr_core.specs.Sound.{AreAsksSound, AreCallsSound, AreLinesSound, AreRadiosSound, IsAccessSound, IsPayload, IsPoolSound, IsSound}
use Rattle.dmr_core.specs.Sound.{engagements, engagements_in_ask, engagements_in_call, engagements_in_line, is_grant, is_own, party, total}
use Rattle.dmr_core.proofs.PlanLemmas.{KnowsPlan}
use Rattle.dmr_core.proofs.ListLemmas.{total-filter, total-map, any-map, true_false}
use Rattle.dmr_core.proofs.CallsAreApart.{apart-map, has_call_on-map, marked_call, has_call_on-filter}
use Rattle.dmr_core.proofs.GrantsAreOwn.{calls-filter}
use Rattle.dmr_core.proofs.LimitsAreKept.{IsCounted, IsWaitCounted}
use Rattle.dmr_core.proofs.RadiosEngagedOnce.{fewer_engaged}
use Rattle.dmr_pdu.proofs.ListLaws.{flipped}

-- each call is changed, but to what it says of the call itself
module _ (f : ActiveCall → ActiveCall) (same : (s : ActiveCall) → (f s).call ≡ s.call) where
  call_on-map : (cs : List ActiveCall) (slot : Slot) → call_on (map f cs) slot ≡ call_on cs slot
  call_on-map [] slot = refl
  call_on-map (s ∷ cs) slot = let here = same s in let later = call_on-map cs slot in grind arith

  same_engaged : (calls : List ActiveCall) (asks : List ActiveAsk) (lines : List Line) (r : ℕ)
      → engagements (map f calls) asks lines r ≤ engagements calls asks lines r
  same_engaged calls asks lines r =
      let each : (s : ActiveCall) → engagements_in_call r (f s) ≡ engagements_in_call r s =
      λ s. ap (λ (c : Call). party r c.group c.source c.target) (same s) in
      omega (arith, total-map (engagements_in_call r) f each calls)

  sound-mapped : (plan : Settings) (now : Facts) → ((s : ActiveCall) → IsCounted s → IsCounted (f s)) → IsSound plan now
      → IsSound plan (record now { calls = map f now.calls })
  sound-mapped plan now counted h =
      let to_group : (g : ℕ) (s : ActiveCall) → ((f s).call.group && ((f s).call.target == g)) ≡ (s.call.group && (s.call.target == g)) =
      λ g s. ap (λ (c : Call). c.group && (c.target == g)) (same s) in
      let calls : AreCallsSound plan now.up now.outboxes (map f now.calls) = record {
        apart = apart-map f same now.calls h.calls.apart;
        payload = λ slot k. h.calls.payload slot (sym (has_call_on-map f same now.calls slot) ∙ k);
        quiet = λ slot k. h.calls.quiet slot (sym (has_call_on-map f same now.calls slot) ∙ k);
        own = λ slot call k. h.calls.own slot call (sym (call_on-map now.calls slot) ∙ k);
        listed = λ g k. h.calls.listed g (sym (any-map _ _ f (to_group g) now.calls) ∙ k);
        few = omega (arith, h.calls.few, length-map now.calls f);
        ages = All-map IsCounted f now.calls (All-weaker IsCounted (λ s. IsCounted (f s)) counted now.calls h.calls.ages);
      } in
      let radios : AreRadiosSound now.registered (map f now.calls) now.asks now.lines =
      fewer_engaged now.registered _ _ _ _ _ _ (same_engaged now.calls now.asks now.lines) h.radios in
      assumption (calls, radios)

-- activity makes no age greater
marked_counted : (slot : Slot) (s : ActiveCall) → IsCounted s → IsCounted (with_activity slot s)
marked_counted slot s h =
    cond_both (is_slot s.call.slot slot) (record { call = s.call; age = s.age; quiet = 0 }) s IsCounted (λ e. (h.0, omega arith)) (λ e. h)

-- the asks waited for one more tick
sound-waited : (plan : Settings) (now : Facts) → IsSound plan now → IsSound plan (record now { asks = map ask_after_tick now.asks })
sound-waited plan now h =
    let asks : AreAsksSound (is_up now plan.lists.control) (map ask_after_tick now.asks) = record {
      none = λ k. ap (λ (xs : List ActiveAsk). map ask_after_tick xs) (h.asks.none k);
      few = omega (arith, h.asks.few, length-map now.asks ask_after_tick);
      waits = All-map IsWaitCounted ask_after_tick now.asks (λ k d within. omega arith);
    } in
    let radios : AreRadiosSound now.registered now.calls (map ask_after_tick now.asks) now.lines =
    fewer_engaged now.registered _ _ _ _ _ _ (λ r. omega (arith, total-map (engagements_in_ask r) ask_after_tick (λ a. refl) now.asks))
    h.radios in
    assumption (asks, radios)

-- the noise numbers changed, if `b` is true
sound-noise : (plan : Settings) (now : Facts) (f : List ℕ → List ℕ) (b : Bool) → f [] ≡ []
    → ((ns : List ℕ) → length ns ≡ 32 → length (f ns) ≡ 32) → IsSound plan now
    → IsSound plan (record now { noise = if b then f now.noise else now.noise })
sound-noise plan now f true none all h =
    let access : IsAccessSound (is_up now plan.lists.control) (f now.noise) now.fills now.late = record {
      noiseless = λ k. ap f (h.access.noiseless k) ∙ none;
      window = λ k. all now.noise (h.access.window k);
      counted = h.access.counted;
      unfilled = h.access.unfilled;
      unnamed = h.access.unnamed;
    } in
    assumption access
sound-noise plan now f false none all h = h

length-with_noise : (noise : List ℕ) → length noise ≡ 32 → length (with_noise noise) ≡ 32
length-with_noise [] h = h
length-with_noise (n ∷ noise) h = omega arith

length-with_poll : (noise : List ℕ) → length noise ≡ 32 → length (with_poll noise) ≡ 32
length-with_poll [] h = h
length-with_poll (n ∷ noise) h = omega (arith, length-take 31 (n ∷ noise))

-- a carrier's outboxes are emptied
pub put_either : (P : List Pdu → Type 0) (xs : List (List Pdu)) (i j : ℕ) (v : List Pdu) → P v → P (get_or xs j [])
    → P (get_or (set xs i v) j [])
put_either P [] i j v h k = k
put_either P (x ∷ xs) zero zero v h k = h
put_either P (x ∷ xs) zero (suc j) v h k = k
put_either P (x ∷ xs) (suc i) zero v h k = k
put_either P (x ∷ xs) (suc i) (suc j) v h k = put_either P xs i j v h k

put_none : (xs : List (List Pdu)) (i : ℕ) → get_or (set xs i []) i [] ≡ []
put_none [] i = refl
put_none (x ∷ xs) zero = refl
put_none (x ∷ xs) (suc i) = put_none xs i

emptied_or : (P : List Pdu → Type 0) (boxes : List (List Pdu)) (c : ℕ) (slot : Slot) → P [] → P (box boxes slot)
    → P (box (outboxes_without_carrier boxes c) slot)
emptied_or P boxes c slot h k =
    put_either P (slice_set boxes (2 * c) []) (2 * c + 1) (place slot) [] h (put_either P boxes (2 * c) (place slot) [] h k)

small_slot : (n : ℕ) → n < 2 → (n ≡ 0) ⊎ (n ≡ 1)
small_slot n h = elim (cases_lt n 1) [ inl k ↦ inl (omega arith) | inr k ↦ inr (omega arith) ]

pub emptied_box : (boxes : List (List Pdu)) (c : ℕ) (slot : Slot) → slot.slot < 2 → slot.carrier ≡ c
    → box (outboxes_without_carrier boxes c) slot ≡ []
emptied_box boxes c slot small same =
    let once : List (List Pdu) = slice_set boxes (2 * c) [] in
    elim (small_slot slot.slot small) [
      | inl e ↦ (let at : place slot ≡ 2 * c = omega arith in rw at
          (put_either (λ b. b ≡ []) once (2 * c + 1) (2 * c) [] refl (put_none boxes (2 * c))))
      | inr e ↦ (let at : place slot ≡ 2 * c + 1 = omega arith in rw at (put_none once (2 * c + 1)))
    ]

-- what the control carrier's Up or Lost empties, and another carrier's leaves
emptied_by : {X : Type 0} (P : Bool → List X → Type 0) (b new old : Bool) (xs : List X) → P new [] → (b ≡ false → new ≡ old)
    → P old xs → P new (if b then [] else xs)
emptied_by P true new old xs none same h = none
emptied_by P false new old xs none same h = subst (λ (u : Bool). P u xs) (sym (same refl)) h

access_reset : (b new old : Bool) (noise begun : List ℕ) (fills : ℕ) (late : Option NamedSlot)
    → (b ≡ true → IsAccessSound new begun 0 None) → (b ≡ false → new ≡ old) → IsAccessSound old noise fills late
    → IsAccessSound new (if b then begun else noise) (if b then 0 else fills) (if b then None else late)
access_reset true new old noise begun fills late start same h = start refl
access_reset false new old noise begun fills late start same h =
    subst (λ (u : Bool). IsAccessSound u noise fills late) (sym (same refl)) h

total_or : {X : Type 0} (f : X → ℕ) (b : Bool) (xs : List X) → total f (if b then [] else xs) ≤ total f xs
total_or f true xs = omega arith
total_or f false xs = omega arith

-- a carrier came up or was lost: then `up` says which carriers are up, and if it is the control carrier, `begun` has
-- the noise numbers
module _ (plan : Settings) (now : Facts) (c : ℕ) (up : List Bool) (begun : List ℕ) (h : IsSound plan now) (carriers : length up ≡ 16)
    (known : (x : ℕ) → slice_index_or up x false ≡ true → has_carrier plan x ≡ true)
    (others : (x : ℕ) → (x == c) ≡ false → slice_index_or up x false ≡ is_up now x)
    (start : (c == plan.lists.control) ≡ true → IsAccessSound (slice_index_or up plan.lists.control false) begun 0 None) where
  down_there : (slot : Slot) → slot.slot < 2 → slice_index_or up slot.carrier false ≡ false
      → box (outboxes_without_carrier now.outboxes c) slot ≡ []
  down_there slot small k = elim (cases_Bool (slot.carrier == c)) [
    | inl e ↦ emptied_box now.outboxes c slot small (eqb-true _ _ e)
    | inr e ↦ emptied_or (λ b. b ≡ []) now.outboxes c slot refl (h.pool.down slot small (sym (others slot.carrier e) ∙ k))
  ]

  pool-reset : IsPoolSound plan up (outboxes_without_carrier now.outboxes c)
  pool-reset = record {
    carriers = carriers;
    slots = length-set (slice_set now.outboxes (2 * c) []) (2 * c + 1) [] ∙ length-set now.outboxes (2 * c) [] ∙ h.pool.slots;
    known = known;
    down = down_there;
    elsewhere = λ slot small k. emptied_or (λ b. list_any is_grant b ≡ false) now.outboxes c slot refl (h.pool.elsewhere slot small k);
    few = λ slot small. emptied_or (λ b. length b ≤ 64) now.outboxes c slot (omega arith) (h.pool.few slot small);
  }

  calls-reset : AreCallsSound plan up (outboxes_without_carrier now.outboxes c) (on_other_carriers c now.calls)
  calls-reset =
      let f : AreCallsSound plan now.up now.outboxes (on_other_carriers c now.calls) =
      calls-filter plan now.up now.outboxes (λ x. not (x.carrier == c)) now.calls h.calls in
      record {
        apart = f.apart;
        payload = λ slot k.
            let was : IsPayload plan now.up slot = f.payload slot k in
            let other : (slot.carrier == c) ≡ false =
            not-true _ (and_parts _ _ (sym (has_call_on-filter (λ x. not (x.carrier == c)) now.calls slot) ∙ k)).0 in
            record { known = was.known; is_up = others slot.carrier other ∙ was.is_up; small = was.small; apart = was.apart };
        quiet = λ slot k. emptied_or (λ b. b ≡ []) now.outboxes c slot refl (f.quiet slot k);
        own = λ slot call k. emptied_or (λ b. list_all (is_own plan call) b ≡ true) now.outboxes c (control_slot plan.lists) refl
            (f.own slot call k);
        listed = f.listed;
        few = f.few;
        ages = f.ages;
      }

  sound-reset : IsSound plan (record {
    up = up;
    registered = now.registered;
    asks = if c == plan.lists.control then [] else now.asks;
    lines = if c == plan.lists.control then [] else now.lines;
    calls = on_other_carriers c now.calls;
    outboxes = outboxes_without_carrier now.outboxes c;
    noise = if c == plan.lists.control then begun else now.noise;
    moving = now.moving;
    fills = if c == plan.lists.control then 0 else now.fills;
    late = if c == plan.lists.control then None else now.late;
  })
  sound-reset =
      let b : Bool = c == plan.lists.control in
      let running : Bool = slice_index_or up plan.lists.control false in
      let same : b ≡ false → running ≡ is_up now plan.lists.control = λ e. others plan.lists.control (flipped c plan.lists.control e) in
      let no_asks : AreAsksSound running [] = record { none = λ k. refl; few = omega arith; waits = All-nil IsWaitCounted } in
      let no_lines : AreLinesSound plan running [] = record { none = λ k. refl; listed = λ g k. cc; few = omega arith } in
      record {
        pool = pool-reset;
        calls = calls-reset;
        asks = emptied_by AreAsksSound b running (is_up now plan.lists.control) now.asks no_asks same h.asks;
        lines = emptied_by (AreLinesSound plan) b running (is_up now plan.lists.control) now.lines no_lines same h.lines;
        radios = fewer_engaged now.registered _ _ _ _ _ _
            (λ r. omega (
              arith,
              total_or (engagements_in_ask r) b now.asks,
              total_or (engagements_in_line r) b now.lines,
              total-filter (engagements_in_call r) (λ s. not (s.call.slot.carrier == c)) now.calls,
            )) h.radios;
        access = access_reset b running (is_up now plan.lists.control) now.noise begun now.fills now.late start same h.access;
      }

-- the carriers that are up
known_set : (plan : Settings) (up : List Bool) (c x : ℕ) → has_carrier plan c ≡ true
    → (slice_index_or up x false ≡ true → has_carrier plan x ≡ true)
    → slice_index_or (slice_set up c true) x false ≡ true → has_carrier plan x ≡ true
known_set plan up c x there h k = elim (cases_Bool (x == c)) [
  | inl e ↦ rw (eqb-true x c e) there
  | inr e ↦ h (sym (get_or-set_other up c x true false (eqb-false x c e)) ∙ k)
]

pub cleared : (up : List Bool) (c : ℕ) → slice_index_or (slice_set up c false) c false ≡ false
cleared [] c = refl
cleared (b ∷ up) zero = refl
cleared (b ∷ up) (suc c) = cleared up c

known_cleared : (plan : Settings) (up : List Bool) (c x : ℕ) → (slice_index_or up x false ≡ true → has_carrier plan x ≡ true)
    → slice_index_or (slice_set up c false) x false ≡ true → has_carrier plan x ≡ true
known_cleared plan up c x h k = elim (cases_Bool (x == c)) [
  | inl e ↦ true_false _ k (rw (eqb-true x c e) (cleared up c))
  | inr e ↦ h (sym (get_or-set_other up c x false false (eqb-false x c e)) ∙ k)
]

-- a carrier that the plan does not have is not the control carrier
pub not_control : (plan : Settings) (c : ℕ) → KnowsPlan plan → has_carrier plan c ≡ false → (c == plan.lists.control) ≡ false
not_control plan c p h =
    false_from_ne_true _ (λ e. let same : c ≡ plan.lists.control = eqb-true c plan.lists.control e in true_false _ p.control (rw same at h))

began : (up : Bool) → up ≡ true → IsAccessSound up noise_at_up 0 None
unfolding noise_at_up
began up h = record {
  noiseless = λ k. true_false _ h k;
  window = λ k. refl;
  counted = omega arith;
  unfilled = λ k. refl;
  unnamed = λ k. refl;
}

pub over : (up : Bool) → up ≡ false → IsAccessSound up [] 0 None
over up h = record {
  noiseless = λ k. refl;
  window = λ k. true_false _ k h;
  counted = omega arith;
  unfilled = λ k. refl;
  unnamed = λ k. refl;
}

came_up : (plan : Settings) (now : Facts) (c : ℕ) (b : Bool) → has_carrier plan c ≡ b → KnowsPlan plan → IsSound plan now
    → IsSound plan (record (facts_after_event plan now (Up c)) { up = if b then slice_set now.up c true else now.up })
came_up plan now c true e p h =
    sound-reset plan now c (slice_set now.up c true) noise_at_up h (length-set now.up c true ∙ h.pool.carriers)
    (λ x. known_set plan now.up c x e (h.pool.known x)) (λ x k. get_or-set_other now.up c x true false (eqb-false x c k))
    (λ k. began _ (rw (eqb-true c plan.lists.control k)
    (get_or-set_same now.up plan.lists.control true false (omega (arith, p.numbers plan.lists.control p.control, h.pool.carriers)))))
came_up plan now c false e p h =
    sound-reset plan now c now.up noise_at_up h h.pool.carriers h.pool.known (λ x k. refl) (λ k. true_false _ k (not_control plan c p e))

pub sound-noted : (plan : Settings) (now : Facts) (event : Event) → KnowsPlan plan → IsSound plan now
    → IsSound plan (facts_after_event plan now event)
sound-noted plan now (Up c) p h = came_up plan now c (has_carrier plan c) refl p h
sound-noted plan now (Lost c) p h =
    sound-reset plan now c (slice_set now.up c false) [] h (length-set now.up c false ∙ h.pool.carriers)
    (λ x. known_cleared plan now.up c x (h.pool.known x)) (λ x k. get_or-set_other now.up c x false false (eqb-false x c k))
    (λ k. over _ (rw (eqb-true c plan.lists.control k) (cleared now.up plan.lists.control)))
sound-noted plan now (Active slot) p h = sound-mapped (with_activity slot) (marked_call slot) plan now (marked_counted slot) h
sound-noted plan now Tick p h =
    sound-waited plan (record now { calls = map one_tick_older now.calls })
    (sound-mapped one_tick_older (λ s. refl) plan now (λ s h. (omega arith, omega arith)) h)
sound-noted plan now (Noise slot) p h = sound-noise plan now with_noise (is_control plan.lists slot) refl length-with_noise h
sound-noted plan now (Poll c) p h = sound-noise plan now with_poll (c == plan.lists.control) refl length-with_poll h
sound-noted plan now (Say command) p h = assumption
sound-noted plan now event p h = h
