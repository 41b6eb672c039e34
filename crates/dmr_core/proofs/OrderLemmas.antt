-- Registrations, asks, lines and calls are in the order in which they were opened.
use Rattle.std.proofs.Common.{◌≡◌, ◌<◌, ◌≤◌, ℕ, suc, List, [], ◌∷◌, ◌++◌, Bool, true, false, refl, sym, ◌∙◌, ap, subst, arith, map, filter}
use Rattle.std.proofs.Common.{length, append_assoc, get_or, ◌≢◌}
use Rattle.std.specs.Prelude.{fold, if◌then◌else◌, not, ◌==◌, ◌&&◌, flat_map}
use Rattle.std.specs.List.{list_any}
use Rattle.std.proofs.lemmas.Bool.Decides.{nat_tests}
use Rattle.std.proofs.lemmas.List.{append-nil, map-append}
use Rattle.std.proofs.lemmas.List.Elements.{filter-append, filter_agree}
use Rattle.std.proofs.lemmas.Bool.{eqb-true, false_from_ne_true, ne_eqb, or_right}
use Rattle.dmr_plan.specs.declared.settings.Settings.{Settings}
use Rattle.dmr_registry.specs.Radios.{AreDistinct}
use Rattle.dmr_calls.specs.declared.ask.ActiveAsk.{ActiveAsk}
use Rattle.dmr_calls.specs.declared.line.Line.{Line}
use Rattle.dmr_calls.specs.declared.call.Call.{Call}
use Rattle.dmr_calls.specs.declared.call.ActiveCall.{ActiveCall}
use Rattle.dmr_calls.specs.Asks.{others_than, new_active_ask, ask_after_tick}
use Rattle.dmr_calls.specs.Calls.{one_tick_older, is_slot, just_begun, with_activity}
use Rattle.dmr_calls.proofs.Laws.{same_slot}
use Rattle.dmr_core.specs.declared.event.Event.{Event}
use Rattle.dmr_core.specs.declared.event.Event.TheVariants.{Active, Lost, Tick, Up}
use Rattle.dmr_core.specs.declared.act.Act.{Act}
use Rattle.dmr_core.specs.declared.act.Act.TheVariants.{AskOver, Asked, Began, Ended, Joined, Left, Lined, Unlined}
use Rattle.dmr_core.specs.declared.entry.Entry.{Entry}
use Rattle.dmr_core.specs.Facts.{Facts, facts_after_act, facts_after, facts_after_event}
use Rattle.dmr_core.specs.Journal.{IsLegal}
use Rattle.dmr_core.specs.Sound.{AreOnDistinctSlots, IsSound, engagements_in_ask, engagements_in_line, total}
use Rattle.dmr_core.specs.May.{MayDo}
use Rattle.dmr_core.specs.Laws.{EachAct, Throughout}
use Rattle.dmr_core.specs.Orders.{IsInOrder, asked_by, begun_by, joined_by, last_of_each, lined_by, with_openings, slots_of_calls}
use Rattle.dmr_core.specs.Orders.{sources_of_asks, sources_of_lines}
use Rattle.dmr_core.proofs.PlanLemmas.{KnowsPlan}
use Rattle.dmr_core.proofs.NumberLemmas.{equal_itself}
use Rattle.dmr_core.proofs.ListLemmas.{any-map, any-push, filter_none, filter_twice, map_kept, none_found}
use Rattle.dmr_core.proofs.CallsAreApart.{same_slots, marked_call, itself as slot_itself}
use Rattle.dmr_core.proofs.SlotsStaySound.{free_is}
use Rattle.dmr_core.proofs.ActsAreSafe.{source_counts, throughout}
use Rattle.dmr_core.proofs.LastOpenerLemmas.{everywhere, no_line}
use Rattle.dmr_core.proofs.FactsFollowEntries.{facts_after-step}
use Rattle.dmr_pdu.proofs.ListLaws.{map_filter}

-- the test decides equality
record Equals {X : Type 0} (same : X → X → Bool) : Type 0 where
  itself : (x : X) → same x x ≡ true
  equal : (x y : X) → same x y ≡ true → x ≡ y

-- each occurs once
abbrev Single : {X : Type 0} → (X → X → Bool) → List X → Type 0
Single same [] = Unit {0}
Single same (x ∷ xs) = (list_any (same x) xs ≡ false) × Single same xs

-- an act adds the one that it opens at the end, in place of an equal one
abbrev Orders : {X : Type 0} → (X → X → Bool) → (Facts → List X) → (Act → List X) → Facts → Act → Type 0
Orders same keys by_act now act =
    (all : List _) → IsInOrder same all (keys now) → IsInOrder same (all ++ by_act act) (keys (facts_after_act now act))

-- an event keeps the order
abbrev Keeps : {X : Type 0} → (X → X → Bool) → Settings → (Facts → List X) → Type 0
Keeps same plan keys =
    (now : Facts) (event : Event) (all : List _) → IsInOrder same all (keys now) →
    IsInOrder same all (keys (facts_after_event plan now event))

module _ {X : Type 0} (same : X → X → Bool) (eq : Equals same) where
  filter_all : (p : X → Bool) (xs : List X) → ((x : X) → list_any (same x) xs ≡ true → p x ≡ true) → filter p xs ≡ xs
  filter_all p [] h = refl
  filter_all p (x ∷ xs) h =
      rw (h x (rw (eq.itself x) refl)) (ap (λ ys. x ∷ ys) (filter_all p xs (λ y e. h y (or_right (same y x) (list_any (same y) xs) e))))

  -- the elements among those that were kept
  any_kept : (q : X → Bool) (x : X) (xs : List X) → list_any (same x) (filter q xs) ≡ (q x && list_any (same x) xs)
  any_kept q x [] = grind arith
  any_kept q x (y ∷ ys) = let more = any_kept q x ys in let equal = eq.equal x y in grind arith

  -- the last places, after one more
  last_push : (xs : List X) (k : X) → last_of_each same (xs ++ k ∷ []) ≡ filter (λ x. not (same x k)) (last_of_each same xs) ++ k ∷ []
  last_push [] k = refl
  last_push (x ∷ xs) k = let more = last_push xs k in let any = any-push (same x) xs k in grind arith

  -- some were removed
  order_filter : (all ks : List X) (q : X → Bool) → IsInOrder same all ks → IsInOrder same all (filter q ks)
  order_filter all ks q h =
      ap (λ ys. filter q ys) h
      ∙ filter_twice (λ x. list_any (same x) ks) q (last_of_each same all)
      ∙ sym (filter_agree (λ x. list_any (same x) (filter q ks)) (λ x. q x && list_any (same x) ks) (λ x. any_kept q x ks)
      (last_of_each same all))

  -- one was opened, and is at the end
  order_push : (all ks : List X) (k : X) → IsInOrder same all ks → IsInOrder same (all ++ k ∷ [])
      (filter (λ x. not (same x k)) ks ++ k ∷ [])
  order_push all ks k h =
      let w : X → Bool = λ x. not (same x k) in
      let p : X → Bool = λ x. list_any (same x) ks in
      let now : List X = filter w ks ++ k ∷ [] in
      let t : X → Bool = λ x. list_any (same x) now in
      let l : List X = last_of_each same all in
      let others : filter w ks ≡ filter t (filter w l) =
      ap (λ ys. filter w ys) h ∙ filter_twice p w l ∙ filter_agree (λ x. w x && p x) (λ x. t x && w x) tests l ∙ sym (filter_twice w t l) in
      let last : k ∷ [] ≡ filter t (k ∷ []) = rw there refl in
      ap (λ ys. ys ++ k ∷ []) others ∙ ap (λ ys. filter t (filter w l) ++ ys) last ∙ sym (filter-append t (filter w l) (k ∷ []))
      ∙ ap (λ ys. filter t ys) (sym (last_push all k))
    where
      tests : (x : X) → (not (same x k) && list_any (same x) ks) ≡
          (list_any (same x) (filter (λ y. not (same y k)) ks ++ k ∷ []) && not (same x k))
      tests x =
          let pushed =
          any-push (same x) (filter (λ y. not (same y k)) ks) k in let kept = any_kept (λ y. not (same y k)) x ks in grind arith

      there : list_any (same k) (filter (λ y. not (same y k)) ks ++ k ∷ []) ≡ true
      there = let pushed = any-push (same k) (filter (λ y. not (same y k)) ks) k in let own = eq.itself k in grind arith

  -- there was none before
  order_new : (all ks : List X) (k : X) → list_any (λ x. same x k) ks ≡ false → IsInOrder same all ks →
      IsInOrder same (all ++ k ∷ []) (ks ++ k ∷ [])
  order_new all ks k none h =
      subst (λ (ys : List X). IsInOrder same (all ++ k ∷ []) (ys ++ k ∷ [])) (filter_none (λ x. same x k) ks none) (order_push all ks k h)

  -- none was opened
  order_kept : (all ks : List X) → IsInOrder same all ks → IsInOrder same (all ++ []) ks
  order_kept all ks h = subst (λ (ys : List X). IsInOrder same ys ks) (sym (append-nil all)) h

  -- none is left
  order_none : (all : List X) → IsInOrder same all []
  order_none all = none (last_of_each same all)
    where
      none : (xs : List X) → [] ≡ filter (λ x. false) xs
      none [] = refl
      none (x ∷ xs) = none xs

  last_single : (xs : List X) → Single same xs → last_of_each same xs ≡ xs
  last_single [] h = refl
  last_single (x ∷ xs) h = rw (h.0, last_single xs h.1) refl

  order_single : (xs : List X) → Single same xs → IsInOrder same xs xs
  order_single xs h =
      sym (ap (λ ys. filter (λ x. list_any (same x) xs) ys) (last_single xs h) ∙ filter_all (λ x. list_any (same x) xs) xs (λ x e. e))

  acts_order : (keys : Facts → List X) (by_act : Act → List X) (now : Facts) (acts : List Act) (all : List X)
      → EachAct (Orders same keys by_act) now acts → IsInOrder same all (keys now)
      → IsInOrder same (all ++ flat_map by_act acts) (keys (fold facts_after_act now acts))
  acts_order keys by_act now [] all each h = order_kept all (keys now) h
  acts_order keys by_act now (act ∷ acts) all each h =
      subst (λ (ys : List X). IsInOrder same ys (keys (fold facts_after_act (facts_after_act now act) acts)))
      (append_assoc all (by_act act) (flat_map by_act acts))
      (acts_order keys by_act (facts_after_act now act) acts (all ++ by_act act) each.1 (each.0 all h))

  ordered : (plan : Settings) (facts : Facts) (keys : Facts → List X) (by_act : Act → List X) → Keeps same plan keys
      → Single same (keys facts) → (journal : List Entry) → Throughout plan facts (Orders same keys by_act) journal
      → IsInOrder same (with_openings by_act (keys facts) journal) (keys (facts_after plan facts journal))
  ordered plan facts keys by_act keeps single [] each = order_single (keys facts) single
  ordered plan facts keys by_act keeps single (entry ∷ earlier) each =
      let now : Facts = facts_after plan facts earlier in
      let all : List X = with_openings by_act (keys facts) earlier in
      subst (λ (f : Facts). IsInOrder same (all ++ flat_map by_act entry.acts.list) (keys f))
      (sym (facts_after-step plan facts entry earlier))
      (acts_order keys by_act (facts_after_event plan now entry.event) entry.acts.list all each.0
      (keeps now entry.event all (ordered plan facts keys by_act keeps single earlier each.1)))

  -- the keys of a list, to which one is added, or of which some are removed
  module _ {Y : Type 0} (key : Y → X) where
    keys_filter : (all : List X) (q : X → Bool) (ys : List Y) → IsInOrder same all (map key ys)
        → IsInOrder same all (map key (filter (λ y. q (key y)) ys))
    keys_filter all q ys h =
        subst (λ (zs : List X). IsInOrder same all zs) (sym (map_filter key q ys)) (order_filter all (map key ys) q h)

    keys_removed : (all : List X) (q : X → Bool) (ys : List Y) → IsInOrder same all (map key ys)
        → IsInOrder same (all ++ []) (map key (filter (λ y. q (key y)) ys))
    keys_removed all q ys h = order_kept all _ (keys_filter all q ys h)

    keys_new : (all : List X) (ys : List Y) (y : Y) → list_any (λ z. same (key z) (key y)) ys ≡ false → IsInOrder same all (map key ys)
        → IsInOrder same (all ++ key y ∷ []) (map key (ys ++ y ∷ []))
    keys_new all ys y none h =
        subst (λ (zs : List X). IsInOrder same (all ++ key y ∷ []) zs) (sym (map-append key ys (y ∷ [])))
        (order_new all (map key ys) (key y) (any-map _ _ key (λ z. refl) ys ∙ none) h)

    keys_emptied : (all : List X) (b : Bool) (ys : List Y) → IsInOrder same all (map key ys) →
        IsInOrder same all (map key (if b then [] else ys))
    keys_emptied all true ys h = order_none all
    keys_emptied all false ys h = h

    keys_kept : (all : List X) (f : Y → Y) → ((y : Y) → key (f y) ≡ key y) → (ys : List Y) → IsInOrder same all (map key ys)
        → IsInOrder same all (map key (map f ys))
    keys_kept all f same_key ys h = subst (λ (zs : List X). IsInOrder same all zs) (sym (map_kept key f same_key ys)) h

-- radios
numbers : Equals ◌==◌
numbers = record { itself = equal_itself; equal = eqb-true }

any_apart : (x : ℕ) (ys : List ℕ) → ((j d : ℕ) → j < length ys → x ≢ get_or ys j d) → list_any (λ y. x == y) ys ≡ false
any_apart x [] h = refl
any_apart x (y ∷ ys) h = rw (ne_eqb x y (h 0 y (omega arith))) (any_apart x ys (λ j d lt. h (suc j) d (omega arith)))

single_radios : (xs : List ℕ) → AreDistinct xs → Single ◌==◌ xs
single_radios [] h = tt
single_radios (x ∷ xs) h = (
  any_apart x xs (λ j d lt. h 0 (suc j) d (omega arith) (omega arith)),
  single_radios xs (λ i j d lt below. h (suc i) (suc j) d (omega arith) (omega arith)),
)

registered_order : (plan : Settings) (now : Facts) (act : Act) → IsSound plan now → MayDo plan now act
    → Orders ◌==◌ (λ (f : Facts). f.registered) joined_by now act
registered_order plan now (Joined r) sound may = λ all h. order_new ◌==◌ numbers all now.registered r may.0 h
registered_order plan now (Left r) sound may = λ all h.
    order_kept ◌==◌ numbers all _ (order_filter ◌==◌ numbers all now.registered (λ x. not (x == r)) h)
registered_order plan now act sound may = λ all h. order_kept ◌==◌ numbers all now.registered h

-- asks and lines are of radios that are engaged once
module _ {X : Type 0} (key : X → ℕ) (f : ℕ → X → ℕ) (h : (x : X) → 0 < f (key x) x) where
  some_counts : (r : ℕ) (xs : List X) → list_any (λ y. r == y) (map key xs) ≡ true → 0 < total (f r) xs
  some_counts r [] e = cc
  some_counts r (x ∷ xs) e = let here = h x in let more = some_counts r xs in grind (arith, nat_tests)

  single_once : (xs : List X) → ((r : ℕ) → total (f r) xs ≤ 1) → Single ◌==◌ (map key xs)
  single_once [] once = tt
  single_once (x ∷ xs) once = (
    false_from_ne_true _ (λ e. let many : 2 ≤ 1 = omega (arith, once (key x), h x, some_counts (key x) xs e) in omega arith),
    single_once xs (λ r. omega (arith, once r)),
  )

-- asks
ask_order : (now : Facts) (act : Act) → Orders ◌==◌ (λ (f : Facts). sources_of_asks f.asks) asked_by now act
ask_order now (Asked ask) = λ all h.
    subst (λ (ys : List ℕ). IsInOrder ◌==◌ (all ++ ask.source ∷ []) ys)
    (sym (map-append (λ (a : ActiveAsk). a.ask.source) (others_than ask.source now.asks) (new_active_ask ask ∷ [])
    ∙ ap (λ (ys : List ℕ). ys ++ ask.source ∷ []) (map_filter (λ (a : ActiveAsk). a.ask.source) (λ x. not (x == ask.source)) now.asks)))
    (order_push ◌==◌ numbers all (sources_of_asks now.asks) ask.source h)
ask_order now (AskOver q) = λ all h. keys_removed ◌==◌ numbers (λ (a : ActiveAsk). a.ask.source) all (λ x. not (x == q)) now.asks h
ask_order now act = λ all h. order_kept ◌==◌ numbers all (sources_of_asks now.asks) h

ask_keeps : (plan : Settings) → Keeps ◌==◌ plan (λ (f : Facts). sources_of_asks f.asks)
ask_keeps plan now (Up c) all h = keys_emptied ◌==◌ numbers (λ (a : ActiveAsk). a.ask.source) all (c == plan.lists.control) now.asks h
ask_keeps plan now (Lost c) all h = keys_emptied ◌==◌ numbers (λ (a : ActiveAsk). a.ask.source) all (c == plan.lists.control) now.asks h
ask_keeps plan now Tick all h = keys_kept ◌==◌ numbers (λ (a : ActiveAsk). a.ask.source) all ask_after_tick (λ a. refl) now.asks h
ask_keeps plan now _ all h = h

-- lines
line_order : (plan : Settings) (now : Facts) (act : Act) → IsSound plan now → MayDo plan now act
    → Orders ◌==◌ (λ (f : Facts). sources_of_lines f.lines) lined_by now act
line_order plan now (Lined line) sound may = λ all h.
    let none = none_found (λ (l : Line). l.source == line.source) now.lines (no_line plan now line may) in
    keys_new ◌==◌ numbers (λ (l : Line). l.source) all now.lines line none h
line_order plan now (Unlined q) sound may = λ all h. keys_removed ◌==◌ numbers (λ (l : Line). l.source) all (λ x. not (x == q)) now.lines h
line_order plan now act sound may = λ all h. order_kept ◌==◌ numbers all (sources_of_lines now.lines) h

line_keeps : (plan : Settings) → Keeps ◌==◌ plan (λ (f : Facts). sources_of_lines f.lines)
line_keeps plan now (Up c) all h = keys_emptied ◌==◌ numbers (λ (l : Line). l.source) all (c == plan.lists.control) now.lines h
line_keeps plan now (Lost c) all h = keys_emptied ◌==◌ numbers (λ (l : Line). l.source) all (c == plan.lists.control) now.lines h
line_keeps plan now _ all h = h

-- calls
slots : Equals is_slot
slots = record { itself = slot_itself; equal = same_slot }

single_slots : (calls : List ActiveCall) → AreOnDistinctSlots calls → Single is_slot (slots_of_calls calls)
single_slots [] h = tt
single_slots (s ∷ calls) h =
    (any-map _ _ (λ (x : ActiveCall). x.call.slot) (λ x. same_slots s.call.slot x.call.slot) calls ∙ h.0, single_slots calls h.1)

call_order : (plan : Settings) (now : Facts) (act : Act) → IsSound plan now → MayDo plan now act
    → Orders is_slot (λ (f : Facts). slots_of_calls f.calls) begun_by now act
call_order plan now (Began call) sound may = λ all h.
    keys_new is_slot slots (λ (s : ActiveCall). s.call.slot) all now.calls (just_begun call) (free_is plan now call.slot may.free).none h
call_order plan now (Ended slot) sound may = λ all h. keys_removed is_slot slots (λ (s : ActiveCall). s.call.slot) all
    (λ x. not (is_slot x slot)) now.calls h
call_order plan now act sound may = λ all h. order_kept is_slot slots all (slots_of_calls now.calls) h

call_keeps : (plan : Settings) → Keeps is_slot plan (λ (f : Facts). slots_of_calls f.calls)
call_keeps plan now (Up c) all h = keys_filter is_slot slots (λ (s : ActiveCall). s.call.slot) all (λ x. not (x.carrier == c)) now.calls h
call_keeps plan now (Lost c) all h = keys_filter is_slot slots (λ (s : ActiveCall). s.call.slot) all (λ x. not (x.carrier == c)) now.calls h
call_keeps plan now (Active there) all h =
    keys_kept is_slot slots (λ (s : ActiveCall). s.call.slot) all (with_activity there)
    (λ s. ap (λ (k : Call). k.slot) (marked_call there s)) now.calls h
call_keeps plan now Tick all h = keys_kept is_slot slots (λ (s : ActiveCall). s.call.slot) all one_tick_older (λ s. refl) now.calls h
call_keeps plan now _ all h = h

module _ (plan : Settings) (facts : Facts) (journal : List Entry) (sound : IsSound plan facts) where
  pub asks_in_order : IsInOrder ◌==◌ (with_openings asked_by (sources_of_asks facts.asks) journal)
      (sources_of_asks (facts_after plan facts journal).asks)
  asks_in_order =
      ordered ◌==◌ numbers plan facts (λ (f : Facts). sources_of_asks f.asks) asked_by (ask_keeps plan)
      (single_once (λ (a : ActiveAsk). a.ask.source) engagements_in_ask (λ a. source_counts false a.ask.source a.ask.target) facts.asks
      (λ r. omega (arith, sound.radios.once r))) journal
      (everywhere plan facts (Orders ◌==◌ (λ (f : Facts). sources_of_asks f.asks) asked_by) ask_order journal)

  module _ (p : KnowsPlan plan) (legal : IsLegal plan facts journal) where
    pub registered_in_order : IsInOrder ◌==◌ (with_openings joined_by facts.registered journal) (facts_after plan facts journal).registered
    registered_in_order =
        ordered ◌==◌ numbers plan facts (λ (f : Facts). f.registered) joined_by (λ now event all h. h)
        (single_radios facts.registered sound.radios.distinct) journal
        (throughout plan facts (Orders ◌==◌ (λ (f : Facts). f.registered) joined_by) (registered_order plan) journal p sound legal)

    pub lines_in_order : IsInOrder ◌==◌ (with_openings lined_by (sources_of_lines facts.lines) journal)
        (sources_of_lines (facts_after plan facts journal).lines)
    lines_in_order =
        ordered ◌==◌ numbers plan facts (λ (f : Facts). sources_of_lines f.lines) lined_by (line_keeps plan)
        (single_once (λ (l : Line). l.source) engagements_in_line (λ l. source_counts l.group l.source l.target) facts.lines
        (λ r. omega (arith, sound.radios.once r))) journal
        (throughout plan facts (Orders ◌==◌ (λ (f : Facts). sources_of_lines f.lines) lined_by) (line_order plan) journal p sound legal)

    pub calls_in_order : IsInOrder is_slot (with_openings begun_by (slots_of_calls facts.calls) journal)
        (slots_of_calls (facts_after plan facts journal).calls)
    calls_in_order =
        ordered is_slot slots plan facts (λ (f : Facts). slots_of_calls f.calls) begun_by (call_keeps plan)
        (single_slots facts.calls sound.calls.apart) journal
        (throughout plan facts (Orders is_slot (λ (f : Facts). slots_of_calls f.calls) begun_by) (call_order plan) journal p sound legal)
