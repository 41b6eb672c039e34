-- The PDUs queued on a slot are those sent there, followed by those that wait.
use Rattle.std.proofs.Common.{◌≡◌, ◌<◌, ◌+◌, ◌*◌, ◌≢◌, ℕ, List, [], ◌∷◌, ◌++◌, Bool, true, false, refl, sym, ◌∙◌, ap, subst, append_assoc}
use Rattle.std.proofs.Common.{arith, drop}
use Rattle.std.specs.Prelude.{fold, flat_map, if◌then◌else◌, ◌==◌, Some, slice_get, slice_set}
use Rattle.std.proofs.lemmas.List.{append-nil, get_or-set_same, get_or-set_other}
use Rattle.std.proofs.lemmas.Bool.{eqb-true, eqb-false}
use Rattle.dmr_pdu.specs.declared.slots.Slot.{Slot}
use Rattle.dmr_pdu.specs.declared.pdu.Pdu.{Pdu}
use Rattle.dmr_plan.specs.declared.settings.Settings.{Settings}
use Rattle.dmr_calls.specs.Calls.{is_slot}
use Rattle.dmr_pool.specs.Slots.{box, outboxes_without_carrier, place, outboxes_with_pdu, outboxes_after_send}
use Rattle.dmr_calls.proofs.Laws.{same_slot}
use Rattle.dmr_core.specs.declared.event.Event.{Event}
use Rattle.dmr_core.specs.declared.event.Event.TheVariants.{Up, Lost}
use Rattle.dmr_core.specs.declared.act.Act.{Act}
use Rattle.dmr_core.specs.declared.act.Act.TheVariants.{Queue, Send}
use Rattle.dmr_core.specs.declared.entry.Entry.{Entry}
use Rattle.dmr_core.specs.Facts.{Facts, facts_after_act, facts_after, facts_after_event}
use Rattle.dmr_core.specs.Words.{is_up, outbox}
use Rattle.dmr_core.specs.Journal.{IsLegal}
use Rattle.dmr_core.specs.Sound.{IsSound}
use Rattle.dmr_core.specs.May.{AllMayDo, MayDo, MayQueue}
use Rattle.dmr_core.specs.Waiting.{queued_by, sent_by, is_turn_of_carrier, since_turn}
use Rattle.dmr_core.proofs.PlanLemmas.{KnowsPlan}
use Rattle.dmr_core.proofs.CallsAreApart.{same_slots}
use Rattle.dmr_core.proofs.SlotsStaySound.{other_place, within_boxes}
use Rattle.dmr_core.proofs.ActsKeepSound.{sound-done}
use Rattle.dmr_core.proofs.EventsKeepSound.{emptied_box}
use Rattle.dmr_core.proofs.ActsAreSafe.{entered}
use Rattle.dmr_core.proofs.FactsFollowEntries.{facts_after-step}
use Rattle.dmr_pdu.proofs.ListLaws.{flipped}

-- another slot's outbox changes nothing there
other_box : (there : Slot) (boxes : List (List Pdu)) (slot : Slot) (v : List Pdu) → there.slot < 2 → slot.slot < 2 →
    is_slot slot there ≡ false → box boxes there ++ [] ≡ box (slice_set boxes (place slot) v) there
other_box there boxes slot v near small apart =
    append-nil (box boxes there)
    ∙ sym (get_or-set_other boxes (place slot) (place there) v [] (other_place there slot near small (same_slots there slot ∙ apart)))

queue_passes : (plan : Settings) (there : Slot) (now : Facts) (slot : Slot) (pdu : Pdu) (b : Bool) → is_slot slot there ≡ b →
    there.slot < 2 → KnowsPlan plan → IsSound plan now → MayQueue plan now slot pdu →
    outbox now there ++ (if b then pdu ∷ [] else []) ≡ box (outboxes_with_pdu now.outboxes slot pdu) there
queue_passes plan there now slot pdu true e near p h may =
    let put : box (outboxes_with_pdu now.outboxes slot pdu) slot ≡ box now.outboxes slot ++ pdu ∷ [] =
    get_or-set_same now.outboxes (place slot) (box now.outboxes slot ++ pdu ∷ []) []
    (within_boxes plan now p h slot [] may.up may.small) in
    subst (λ (x : Slot). box now.outboxes x ++ pdu ∷ [] ≡ box (outboxes_with_pdu now.outboxes slot pdu) x) (same_slot slot there e)
    (sym put)
queue_passes plan there now slot pdu false e near p h may =
    other_box there now.outboxes slot (box now.outboxes slot ++ pdu ∷ []) near may.small e

first_and_rest : (xs : List Pdu) (x : Pdu) → slice_get xs 0 ≡ Some x → xs ≡ x ∷ drop 1 xs
first_and_rest [] x h = cc
first_and_rest (y ∷ ys) x h = let same : y ≡ x = cc in ap (λ (z : Pdu). z ∷ ys) same

send_passes : (plan : Settings) (there : Slot) (now : Facts) (slot : Slot) (pdu : Pdu) (b : Bool) → is_slot slot there ≡ b →
    there.slot < 2 → KnowsPlan plan → IsSound plan now → is_up now slot.carrier ≡ true → slot.slot < 2 →
    slice_get (outbox now slot) 0 ≡ Some pdu → outbox now there ++ [] ≡ (if b then pdu ∷ [] else []) ++ box
    (outboxes_after_send now.outboxes slot) there
send_passes plan there now slot pdu true e near p h up small first =
    let left : box (outboxes_after_send now.outboxes slot) slot ≡ drop 1 (box now.outboxes slot) =
    get_or-set_same now.outboxes (place slot) (drop 1 (box now.outboxes slot)) [] (within_boxes plan now p h slot [] up small) in
    subst (λ (x : Slot). box now.outboxes x ++ [] ≡ pdu ∷ box (outboxes_after_send now.outboxes slot) x) (same_slot slot there e)
    (append-nil (box now.outboxes slot) ∙ first_and_rest (box now.outboxes slot) pdu first ∙ ap (λ (xs : List Pdu). pdu ∷ xs) (sym left))
send_passes plan there now slot pdu false e near p h up small first =
    other_box there now.outboxes slot (drop 1 (box now.outboxes slot)) near small e

-- the PDUs that wait, and the one that an act queues, are the one that it sends, followed by those that wait after it
act_passes : (plan : Settings) (there : Slot) (now : Facts) (act : Act) → there.slot < 2 → KnowsPlan plan → IsSound plan now →
    MayDo plan now act → outbox now there ++ queued_by there act ≡ sent_by there act ++ outbox (facts_after_act now act) there
act_passes plan there now (Queue slot pdu) near p h may = queue_passes plan there now slot pdu (is_slot slot there) refl near p h may
act_passes plan there now (Send slot pdu) near p h may =
    send_passes plan there now slot pdu (is_slot slot there) refl near p h may.0 may.1 may.2
act_passes plan there now act near p h may = append-nil (outbox now there)

acts_pass : (plan : Settings) (there : Slot) (now : Facts) (acts : List Act) → there.slot < 2 → KnowsPlan plan → IsSound plan now →
    AllMayDo plan now acts → outbox now there ++ flat_map (queued_by there) acts ≡ flat_map (sent_by there) acts ++ outbox
    (fold facts_after_act now acts) there
acts_pass plan there now [] near p h may = append-nil (outbox now there)
acts_pass plan there now (act ∷ acts) near p h may =
    let w : List Pdu = outbox now there in
    let after : List Pdu = outbox (facts_after_act now act) there in
    let last : List Pdu = outbox (fold facts_after_act (facts_after_act now act) acts) there in
    let q : List Pdu = queued_by there act in
    let s : List Pdu = sent_by there act in
    let qs : List Pdu = flat_map (queued_by there) acts in
    let ss : List Pdu = flat_map (sent_by there) acts in
    sym (append_assoc w q qs)
    ∙ ap (λ (xs : List Pdu). xs ++ qs) (act_passes plan there now act near p h may.0)
    ∙ append_assoc s after qs
    ∙ ap (λ (xs : List Pdu). s ++ xs) (acts_pass plan there (facts_after_act now act) acts near p (sound-done plan now act p h may.0) may.1)
    ∙ sym (append_assoc s ss last)

-- the PDUs that wait after an event
lower : (c d s : ℕ) → s < 2 → (c == d) ≡ false → 2 * d + s ≢ 2 * c
lower c d s h e = λ same. eqb-false d c (flipped c d e) (omega arith)

upper : (c d s : ℕ) → s < 2 → (c == d) ≡ false → 2 * d + s ≢ 2 * c + 1
upper c d s h e = λ same. eqb-false d c (flipped c d e) (omega arith)

kept_box : (boxes : List (List Pdu)) (c : ℕ) (there : Slot) → there.slot < 2 → (c == there.carrier) ≡ false →
    box (outboxes_without_carrier boxes c) there ≡ box boxes there
kept_box boxes c there near e =
    get_or-set_other (slice_set boxes (2 * c) []) (2 * c + 1) (place there) [] [] (upper c there.carrier there.slot near e)
    ∙ get_or-set_other boxes (2 * c) (place there) [] [] (lower c there.carrier there.slot near e)

reset_turn : (there : Slot) (now : Facts) (c : ℕ) (b : Bool) → (c == there.carrier) ≡ b → there.slot < 2 → (before gone : List Pdu) →
    before ≡ gone ++ outbox now there → (if b then [] else before) ≡ (if b then [] else gone) ++ box
    (outboxes_without_carrier now.outboxes c) there
reset_turn there now c true e near before gone h = sym (emptied_box now.outboxes c there near (sym (eqb-true c there.carrier e)))
reset_turn there now c false e near before gone h = h ∙ ap (λ (xs : List Pdu). gone ++ xs) (sym (kept_box now.outboxes c there near e))

turned : (plan : Settings) (there : Slot) (now : Facts) (event : Event) (before gone : List Pdu) → there.slot < 2 →
    before ≡ gone ++ outbox now there → (if is_turn_of_carrier there.carrier event then [] else before) ≡
    (if is_turn_of_carrier there.carrier event then [] else gone) ++ outbox (facts_after_event plan now event) there
turned plan there now (Up c) before gone near h = reset_turn there now c (c == there.carrier) refl near before gone h
turned plan there now (Lost c) before gone near h = reset_turn there now c (c == there.carrier) refl near before gone h
turned plan there now event before gone near h = h

pub sent_then_waits : (plan : Settings) (facts : Facts) (there : Slot) (journal : List Entry) → there.slot < 2 → KnowsPlan plan →
    IsSound plan facts → IsLegal plan facts journal → since_turn there.carrier (queued_by there)
    (outbox facts there) journal ≡ since_turn there.carrier (sent_by there) [] journal ++ outbox (facts_after plan facts journal) there
sent_then_waits plan facts there [] near p h legal = refl
sent_then_waits plan facts there (entry ∷ earlier) near p h legal =
    let now : Facts = facts_after plan facts earlier in
    let e = entered plan facts entry earlier p h legal in
    let after : Facts = facts_after_event plan now entry.event in
    let w : List Pdu = outbox after there in
    let last : List Pdu = outbox (fold facts_after_act after entry.acts.list) there in
    let more : List Pdu = flat_map (queued_by there) entry.acts.list in
    let gone : List Pdu = flat_map (sent_by there) entry.acts.list in
    let before : List Pdu =
    if is_turn_of_carrier there.carrier entry.event then [] else since_turn there.carrier (sent_by there) [] earlier in
    let passes : w ++ more ≡ gone ++ last = acts_pass plan there after entry.acts.list near p e.noted e.may in
    ap (λ (xs : List Pdu). xs ++ more)
    (turned plan there now entry.event (since_turn there.carrier (queued_by there) (outbox facts there) earlier)
    (since_turn there.carrier (sent_by there) [] earlier) near (sent_then_waits plan facts there earlier near p h legal.1))
    ∙ append_assoc before w more
    ∙ ap (λ (xs : List Pdu). before ++ xs) passes
    ∙ sym (append_assoc before gone last)
    ∙ ap (λ (f : Facts). (before ++ gone) ++ outbox f there) (sym (facts_after-step plan facts entry earlier))
