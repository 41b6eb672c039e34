-- Calls are counted once, and their ages fit the ticks at which they began.
use Rattle.std.proofs.Common.{◌≡◌, ◌+◌, ℕ, List, [], ◌∷◌, Bool, true, false, cond, length, map, refl, arith, sym, subst, add-zero}
use Rattle.std.proofs.Common.{length-append}
use Rattle.std.specs.Prelude.{not, filter, flat_map, fold}
use Rattle.std.proofs.lemmas.List.{length-map}
use Rattle.std.proofs.lemmas.List.Elements.{All-filter, All-map, All-push}
use Rattle.std.proofs.lemmas.List.Filters.{length-filter_both}
use Rattle.dmr_pdu.specs.declared.slots.Slot.{Slot}
use Rattle.dmr_plan.specs.declared.settings.Settings.{Settings}
use Rattle.dmr_calls.specs.declared.call.Call.{Call}
use Rattle.dmr_calls.specs.Calls.{is_slot}
use Rattle.dmr_core.specs.declared.event.Event.{Event}
use Rattle.dmr_core.specs.declared.event.Event.TheVariants.{Up, Lost, Active, Tick}
use Rattle.dmr_core.specs.declared.act.Act.{Act}
use Rattle.dmr_core.specs.declared.act.Act.TheVariants.{Began, Ended}
use Rattle.dmr_core.specs.declared.entry.Entry.{Entry}
use Rattle.dmr_core.specs.Orders.{begun_by}
use Rattle.dmr_keeper.specs.declared.calls.OpenCall.{OpenCall}
use Rattle.dmr_keeper.specs.declared.lines.OpenLine.{OpenLine}
use Rattle.dmr_keeper.specs.Lines.{lines_after_entry}
use Rattle.dmr_keeper.specs.Ticks.{tick_at, ticks_in}
use Rattle.dmr_keeper.specs.Calls.{begun_at, begun_in, ended_at, ended_by_act, ended_by_acts, ended_by_event, ended_in, ended_in_entry}
use Rattle.dmr_keeper.specs.Calls.{is_of, is_on, one_tick_on, open_after, open_after_entry, open_by_act, open_by_event, with_activity_on}
use Rattle.dmr_keeper.specs.Laws.{HasAge, HaveAges}
use Rattle.dmr_keeper.proofs.LoopLemmas.{ticks-cons}

-- counted once

-- the calls that a test takes and those that it leaves
parted : (hang : ℕ) (event : Event) (tick : ℕ) (test : OpenCall → Bool) (calls : List OpenCall) →
    length calls ≡ length (map (ended_at hang event tick) (filter test calls)) + length (filter (λ o. not (test o)) calls)
parted hang event tick test calls =
    omega (arith, length-map (filter test calls) (ended_at hang event tick), length-filter_both test (λ o. not (test o)) (λ o. refl) calls)

counted-event : (hang : ℕ) (event : Event) (tick : ℕ) (calls : List OpenCall) →
    length calls ≡ length (ended_by_event hang event tick calls) + length (open_by_event calls event)
counted-event hang (Up carrier) tick calls = parted hang (Up carrier) tick (is_of carrier) calls
counted-event hang (Lost carrier) tick calls = parted hang (Lost carrier) tick (is_of carrier) calls
counted-event hang (Active slot) tick calls = omega (arith, length-map calls (with_activity_on slot))
counted-event hang Tick tick calls = omega (arith, length-map calls one_tick_on)
counted-event hang _ tick calls = omega arith

counted-act : (hang : ℕ) (event : Event) (tick : ℕ) (lines : List OpenLine) (calls : List OpenCall) (act : Act) →
    length calls + length (begun_by act) ≡ length (ended_by_act hang event tick calls act) + length (open_by_act tick lines calls act)
counted-act hang event tick lines calls (Began call) = omega (arith, length-append calls (begun_at tick lines call ∷ []))
counted-act hang event tick lines calls (Ended slot) = omega (arith, parted hang event tick (is_on slot) calls)
counted-act hang event tick lines calls _ = omega arith

counted-acts : (hang : ℕ) (event : Event) (tick : ℕ) (lines : List OpenLine) (calls : List OpenCall) (acts : List Act) →
    length calls + length (flat_map begun_by acts) ≡ length (ended_by_acts hang event tick lines calls acts) + length
    (fold (open_by_act tick lines) calls acts)
counted-acts hang event tick lines calls [] = omega arith
counted-acts hang event tick lines calls (act ∷ acts) =
    let then = open_by_act tick lines calls act in
    let here = counted-act hang event tick lines calls act in
    let later = counted-acts hang event tick lines then acts in
    let begun = length-append (begun_by act) (flat_map begun_by acts) in
    let ended = length-append (ended_by_act hang event tick calls act) (ended_by_acts hang event tick lines then acts) in
    omega (arith, here, later, begun, ended)

counted-entry : (hang tick : ℕ) (lines : List OpenLine) (calls : List OpenCall) (entry : Entry) →
    length calls + length (flat_map begun_by entry.acts.list) ≡ length (ended_in_entry hang tick lines calls entry) + length
    (open_after_entry tick lines calls entry)
counted-entry hang tick lines calls entry =
    let then = open_by_event calls entry.event in
    let first = counted-event hang entry.event tick calls in
    let later = counted-acts hang entry.event tick lines then entry.acts.list in
    let ended =
    length-append (ended_by_event hang entry.event tick calls) (ended_by_acts hang entry.event tick lines then entry.acts.list) in
    omega (arith, first, later, ended)

pub counted_once : (plan : Settings) (ticks : ℕ) (lines : List OpenLine) (calls : List OpenCall) (journal : List Entry) →
    length calls + length (begun_in journal) ≡ length (ended_in plan ticks lines calls journal) + length
    (open_after plan ticks lines calls journal)
counted_once plan ticks lines calls [] = omega arith
counted_once plan ticks lines calls (entry ∷ journal) =
    let tick = tick_at ticks entry.event in
    let left = lines_after_entry plan tick lines entry in
    let then = open_after_entry tick lines calls entry in
    let here = counted-entry plan.calls.hang tick lines calls entry in
    let later = counted_once plan tick left then journal in
    let begun = length-append (flat_map begun_by entry.acts.list) (begun_in journal) in
    let ended = length-append (ended_in_entry plan.calls.hang tick lines calls entry) (ended_in plan tick left then journal) in
    omega (arith, here, later, begun, ended)

-- ages

aged : (ticks : ℕ) (o : OpenCall) → HasAge ticks o → HasAge (ticks + 1) (one_tick_on o)
aged ticks o has = record { began = omega (arith, has.began); age = omega (arith, has.began, has.age) }

stirred : (ticks : ℕ) (slot : Slot) (o : OpenCall) → HasAge ticks o → HasAge ticks (with_activity_on slot o)
stirred ticks slot o has = either (is_slot o.active.call.slot slot)
  where
    either : (b : Bool) → HasAge ticks
        (record o { active = cond b (record { call = o.active.call; age = o.active.age; quiet = 0 }) o.active })
    either true = record { began = has.began; age = has.age }
    either false = record { began = has.began; age = has.age }

begins : (tick : ℕ) (lines : List OpenLine) (call : Call) → HasAge tick (begun_at tick lines call)
begins tick lines call = record { began = omega arith; age = omega arith }

-- no tick was counted
unaged : (ticks : ℕ) (calls : List OpenCall) → HaveAges ticks calls → HaveAges (ticks + 0) calls
unaged ticks calls have = subst (λ (n : ℕ). HaveAges n calls) (sym (add-zero ticks)) have

ages-event : (ticks : ℕ) (calls : List OpenCall) (event : Event) → HaveAges ticks calls →
    HaveAges (tick_at ticks event) (open_by_event calls event)
ages-event ticks calls (Up carrier) have = unaged ticks _ (All-filter (λ o. not (is_of carrier o)) (HasAge ticks) calls have)
ages-event ticks calls (Lost carrier) have = unaged ticks _ (All-filter (λ o. not (is_of carrier o)) (HasAge ticks) calls have)
ages-event ticks calls (Active slot) have =
    unaged ticks _ (All-map (HasAge ticks) (with_activity_on slot) calls (λ k d within. stirred ticks slot _ (have k d within)))
ages-event ticks calls Tick have = All-map (HasAge (ticks + 1)) one_tick_on calls (λ k d within. aged ticks _ (have k d within))
ages-event ticks calls _ have = unaged ticks calls have

ages-act : (tick : ℕ) (lines : List OpenLine) (calls : List OpenCall) (act : Act) → HaveAges tick calls →
    HaveAges tick (open_by_act tick lines calls act)
ages-act tick lines calls (Began call) have = All-push (HasAge tick) calls (begun_at tick lines call) have (begins tick lines call)
ages-act tick lines calls (Ended slot) have = All-filter (λ o. not (is_on slot o)) (HasAge tick) calls have
ages-act tick lines calls _ have = have

ages-acts : (tick : ℕ) (lines : List OpenLine) (calls : List OpenCall) (acts : List Act) → HaveAges tick calls →
    HaveAges tick (fold (open_by_act tick lines) calls acts)
ages-acts tick lines calls [] have = have
ages-acts tick lines calls (act ∷ acts) have =
    ages-acts tick lines (open_by_act tick lines calls act) acts (ages-act tick lines calls act have)

pub ages_fit : (plan : Settings) (ticks : ℕ) (lines : List OpenLine) (calls : List OpenCall) (journal : List Entry) → HaveAges ticks calls →
    HaveAges (ticks + ticks_in journal) (open_after plan ticks lines calls journal)
ages_fit plan ticks lines calls [] have = unaged ticks calls have
ages_fit plan ticks lines calls (entry ∷ journal) have =
    let tick = tick_at ticks entry.event in
    let left = lines_after_entry plan tick lines entry in
    let then = open_after_entry tick lines calls entry in
    let here : HaveAges tick then =
    ages-acts tick lines (open_by_event calls entry.event) entry.acts.list (ages-event ticks calls entry.event have) in
    subst (λ (n : ℕ). HaveAges n (open_after plan tick left then journal)) (ticks-cons ticks entry journal)
    (ages_fit plan tick left then journal here)
