-- The acts of each rule may be done.
use Rattle.std.proofs.Common.{◌≡◌, ◌<◌, ◌≤◌, ◌+◌, ℕ, List, [], ◌∷◌, ◌++◌, Bool, true, false, refl, sym, ◌∙◌, ap, subst, arith, map, length}
use Rattle.std.proofs.Common.{drop}
use Rattle.std.specs.Prelude.{fold, Option, Some, None, if◌then◌else◌, ◌&&◌, not, find, option_map, ◌==◌, nat_le, nat_lt}
use Rattle.std.specs.List.{list_any}
use Rattle.std.proofs.lemmas.Bool.{false_from_ne_true, and_parts}
use Rattle.std.proofs.lemmas.Bool.Decides.{nat_tests}
use Rattle.std.proofs.lemmas.List.{get_or-set_other, append_assoc}
use Rattle.dmr_pdu.specs.declared.slots.Slot.{Slot}
use Rattle.dmr_pdu.specs.declared.pdu.Pdu.{Pdu}
use Rattle.dmr_pdu.specs.declared.pdu.Pdu.TheVariants.{Ackd, Acku, Ahoy, PvGrant, Random, TvGrant}
use Rattle.dmr_pdu.specs.Kinds.{individual_voice}
use Rattle.dmr_plan.specs.declared.settings.Settings.{Settings}
use Rattle.dmr_calls.specs.declared.ask.Ask.{Ask}
use Rattle.dmr_calls.specs.declared.ask.ActiveAsk.{ActiveAsk}
use Rattle.dmr_calls.specs.declared.line.Line.{Line}
use Rattle.dmr_calls.specs.declared.call.Call.{Call}
use Rattle.dmr_calls.specs.Asks.{ask_to, others_than, ask_after_tick}
use Rattle.dmr_calls.specs.Lines.{first_line}
use Rattle.dmr_calls.specs.Calls.{call_on, one_tick_older, is_slot, own_call}
use Rattle.dmr_calls.specs.Due.{due_call, due_ask}
use Rattle.dmr_core.specs.Rules.{next_fill}
use Rattle.dmr_pool.specs.Slots.{box, place}
use Rattle.dmr_pool.specs.Free.{control_slot, names}
use Rattle.dmr_calls.proofs.Laws.{same_slot}
use Rattle.dmr_core.specs.declared.request.Request.{Request}
use Rattle.dmr_core.specs.declared.event.Event.{Event}
use Rattle.dmr_core.specs.declared.event.Event.TheVariants.{Heard, Poll, Say, Tick}
use Rattle.dmr_core.specs.declared.command.Command.{Command}
use Rattle.dmr_core.specs.declared.command.Command.TheVariants.{Drop, End}
use Rattle.dmr_core.specs.declared.act.Act.{Act}
use Rattle.dmr_core.specs.declared.act.Act.TheVariants.{AskOver, Asked, Fill, Joined, Left, Queue, Unlined}
use Rattle.dmr_core.specs.Facts.{Facts, facts_after_act, facts_after_event, has_carrier}
use Rattle.dmr_core.specs.Words.{has_room, is_engaged, is_free, is_registered, is_up, lowest_free, lpcn_of, outbox, has_call_on}
use Rattle.dmr_core.specs.Rules.{ack, acts_of, ahoy, acts_for_called_radio, begin, call_of_line, acts_for_cancel, clear, close}
use Rattle.dmr_core.specs.Rules.{answer_to_command, acts_for_due_call, grant, acts_for_pdu, acts_for_individual_request}
use Rattle.dmr_core.specs.Rules.{acts_for_leaving, acts_for_new_call, acts_for_slot, acts_for_registration, acts_for_due_ask}
use Rattle.dmr_core.specs.Rules.{acts_for_request, acts_for_outbox, acts_for_line, acts_for_tick}
use Rattle.dmr_core.specs.Sound.{IsSound, engagements, engagements_in_ask, engagements_in_line, is_grant, party}
use Rattle.dmr_core.specs.May.{AllMayDo, MayDo, MayEngage}
use Rattle.dmr_core.proofs.PlanLemmas.{KnowsPlan}
use Rattle.dmr_core.proofs.NumberLemmas.{equal_itself, not_itself}
use Rattle.dmr_core.proofs.ListLemmas.{find_any, first_found, total-filter, total-ones, total_found, total_some, length-filter_le}
use Rattle.dmr_core.proofs.ListLemmas.{any-filter, true_false, mapped_some}
use Rattle.dmr_core.proofs.FreeLemmas.{granted_known}
use Rattle.dmr_core.proofs.ChoiceLemmas.{by_drop, by_end, by_if, by_option, lowest_is_free}
use Rattle.dmr_core.proofs.SlotsStaySound.{IsFree, free_is, other_place, any_more}
use Rattle.dmr_core.proofs.GrantsAreOwn.{found_is_active, call_is_active}
use Rattle.dmr_core.proofs.FillsAreLateEntries.{fill_may}
use Rattle.dmr_core.proofs.ActsKeepSound.{sound-acts, may-append}
use Rattle.dmr_core.proofs.EventsKeepSound.{sound-noted, put_either}
use Rattle.dmr_core.proofs.PartsMayBeDone.{LeavesRoom, MayAnswer, ack_after, ack_may, after, after_acts, begin_may, clear_may, engage}
use Rattle.dmr_core.proofs.PartsMayBeDone.{few_with_free, lowest_small, queue_leaves, queue_may}
use Rattle.dmr_core.proofs.TalkgroupMayBeDone.{found_may, new_call_may, talkgroup_may}
use Rattle.dmr_core.proofs.ClosingMayBeDone.{IsCleared, cleared_is, Closes, close_closes, control_apart, found_up}

-- registration
gone_may : {plan : Settings} {later : Facts} (q : Request) (b : Bool) → MayAnswer plan later 7
    → engagements later.calls later.asks later.lines q.source ≡ 0
    → AllMayDo plan later ((if b then Left q.source ∷ [] else []) ++ ack plan q.source q.target 0x60)
gone_may q true c gone = ack_after c (omega arith) (Left q.source) gone refl q.source q.target 0x60
gone_may q false c gone = ack_may c (omega arith) q.source q.target 0x60

new_call_same : (plan : Settings) (now : Facts) (r : ℕ) (l : Line)
    → acts_for_new_call plan now l ≡ acts_for_new_call plan (facts_after_act now (AskOver r)) l
unfolding acts_for_new_call
new_call_same plan now r l = refl

-- the parties of an ask may be engaged again
ask_engage : (plan : Settings) (now : Facts) (test : ActiveAsk → Bool) (ask : Ask) → IsSound plan now
    → option_map (λ (x : ActiveAsk). x.ask) (find test now.asks) ≡ Some ask
    → MayEngage plan now (others_than ask.source now.asks) false ask.source ask.target
ask_engage plan now test ask h found =
    let a = mapped_some _ (find test now.asks) ask found in
    let same : (r : ℕ) → engagements_in_ask r a.0 ≡ party r false ask.source ask.target =
    λ r. ap (λ (k : Ask). party r false k.source k.target) a.2 in
    let out : not (a.0.ask.source == ask.source) ≡ false =
    subst (λ (k : Ask). not (k.source == ask.source) ≡ false) (sym a.2) (not_itself ask.source) in
    record {
      parties = λ r k. h.radios.parties r (omega (arith, same r, total_some (engagements_in_ask r) test now.asks a.0 a.1));
      once = λ r.
          let left = total_found (engagements_in_ask r) test (λ x. not (x.ask.source == ask.source)) now.asks a.0 a.1 out in
          omega (arith, h.radios.once r, same r, left);
      listed = λ g. cc;
    }

-- requests, which there is room to answer
module _ (plan : Settings) (now : Facts) (c : MayAnswer plan now 8) where
  acked : (source target reason : ℕ) → AllMayDo plan now (ack plan source target reason)
  acked = ack_may c (omega arith)

  leaving_may : (q : Request) → AllMayDo plan now (acts_for_leaving plan now q)
  unfolding acts_for_leaving
  leaving_may q =
      let closing : List Act = close plan now q.source in
      let rest : List Act = if is_registered now q.source then Left q.source ∷ [] else [] in
      let k : Closes plan now q.source closing = close_closes plan now q.source c.known c.sound (omega arith) in
      subst (AllMayDo plan now) (sym (append_assoc closing rest (ack plan q.source q.target 0x60)))
      (may-append plan closing (rest ++ ack plan q.source q.target 0x60) now k.leaves.may
      (gone_may q (is_registered now q.source) (after_acts 7 c k.leaves (omega arith)) k.gone))

  registration_may : (q : Request) → AllMayDo plan now (acts_for_registration plan now q)
  unfolding acts_for_registration
  registration_may q =
      let leaves = leaving_may q in
      let joins : is_registered now q.source ≡ false → nat_le 4096 (length now.registered) ≡ false
      → AllMayDo plan now (Joined q.source ∷ ack plan q.source q.target 0x62) = λ new few.
      let may : MayDo plan now (Joined q.source) = (new, grind (arith, nat_tests)) in
      ack_after c (omega arith) (Joined q.source) may refl q.source q.target 0x62 in
      grind (arith, leaves, joins, acked)

  asked_may : (ask : Ask) → (ask.target == ask.source) ≡ false → is_registered now ask.source ≡ true → is_registered now ask.target ≡ true
      → is_engaged now ask.source ≡ false → is_engaged now ask.target ≡ false → nat_lt (length now.asks) 32 ≡ true
      → AllMayDo plan now (Asked ask ∷ ack plan ask.source ask.target 0xE0 ++ ahoy plan ask)
  asked_may ask apart registered also free idle few =
      let others : List ActiveAsk = others_than ask.source now.asks in
      let few_asks : length now.asks < 32 = grind (arith, nat_tests) in
      let engaged = engage plan now others false ask.source ask.target c.sound
      (λ r. total-filter (engagements_in_ask r) (λ a. not (a.ask.source == ask.source)) now.asks) (λ e. apart) registered (λ e. also) free
      (λ e. idle) (λ g. cc) in
      let may : MayDo plan now (Asked ask) =
      (c.up, omega (arith, length-filter_le (λ a. not (a.ask.source == ask.source)) now.asks), engaged) in
      let asked = after c (Asked ask) may refl in
      let answer = queue_leaves asked (omega arith) (Ackd 0 0xE0 false ask.source ask.target) refl in
      let call : Pdu = Ahoy ask.options false individual_voice ask.target ask.source in (
        may,
        may-append plan (ack plan ask.source ask.target 0xE0) (ahoy plan ask) (facts_after_act now (Asked ask)) answer.may
            (queue_may (after_acts 7 asked answer (omega arith)) (omega arith) call refl),
      )

  individual_may : (q : Request) → is_registered now q.source ≡ true → AllMayDo plan now (acts_for_individual_request plan now q)
  unfolding acts_for_individual_request
  individual_may q registered =
      let own : (call : Call) → own_call now.calls q.source q.target ≡ Some call → AllMayDo plan now (grant plan call false) =
      λ call. found_may plan now 8 c (omega arith) (λ s. (s.call.source == q.source) && (not s.call.group && (s.call.target == q.target)))
      call false in
      let ask : Ask = record { source = q.source; target = q.target; options = q.options; attempt = 1 } in
      let asked : (q.target == q.source) ≡ false → is_registered now q.target ≡ true → is_engaged now q.source ≡ false
      → is_engaged now q.target ≡ false → nat_lt (length now.asks) 32 ≡ true
      → AllMayDo plan now (Asked ask ∷ ack plan q.source q.target 0xE0 ++ ahoy plan ask) =
      λ apart also free idle few. asked_may ask apart registered also free idle few in
      grind (arith, own, asked, acked)

  taken_may : (called : ℕ) (a : Ask) (b : Bool) → ask_to now.asks called ≡ Some a
      → let l : Line = record { source = a.source; target = a.target; group = false } in
      AllMayDo plan now (AskOver a.source ∷ (if b then acts_for_new_call plan now l else ack plan a.source a.target 0x2E))
  taken_may called a true found =
      let l : Line = record { source = a.source; target = a.target; group = false } in
      let later : Facts = facts_after_act now (AskOver a.source) in
      let e : MayEngage plan now (others_than a.source now.asks) false a.source a.target = ask_engage plan now _ a c.sound found in
      let engaged : MayEngage plan later later.asks false a.source a.target = assumption e in (
        tt,
        subst (AllMayDo plan later) (sym (new_call_same plan now a.source l))
            (new_call_may plan later 8 (after c (AskOver a.source) tt refl) (omega arith) l engaged),
      )
  taken_may called a false found = ack_after c (omega arith) (AskOver a.source) tt refl a.source a.target 0x2E

  answered_may : (reason called : ℕ) → AllMayDo plan now (acts_for_called_radio plan now reason called)
  unfolding acts_for_called_radio
  answered_may reason called = by_option (AllMayDo plan now) _ (ask_to now.asks called) [] (λ a k. taken_may called a (reason == 0x44) k) tt

  cancel_may : (q : Request) → AllMayDo plan now (acts_for_cancel plan now q)
  unfolding acts_for_cancel
  cancel_may q =
      let ask : (a : Ask) → AllMayDo plan now (AskOver a.source ∷ ack plan q.source q.target 0x60) =
      λ a. ack_after c (omega arith) (AskOver a.source) tt refl q.source q.target 0x60 in
      let line : (l : Line) → AllMayDo plan now (Unlined l.source ∷ ack plan q.source q.target 0x60) =
      λ l. ack_after c (omega arith) (Unlined l.source) tt refl q.source q.target 0x60 in
      grind (arith, ask, line, acked)

  request_may : (q : Request) (flags kind : ℕ) → AllMayDo plan now (acts_for_request plan now q flags kind)
  unfolding acts_for_request
  request_may q flags kind =
      let registers = registration_may q in
      let calls = talkgroup_may plan now 8 c (omega arith) q in
      let individuals = individual_may q in
      let cancels = cancel_may q in
      grind (arith, registers, calls, individuals, cancels, acked)

  pdu_may : (pdu : Pdu) → AllMayDo plan now (acts_for_pdu plan now pdu)
  unfolding acts_for_pdu
  pdu_may (Random options flags kind target source) = request_may _ flags kind
  pdu_may (Acku info reason spare target additional) = answered_may reason additional
  pdu_may _ = tt

if_may : (plan : Settings) (now : Facts) (b : Bool) (acts : List Act) → (b ≡ true → AllMayDo plan now acts)
    → AllMayDo plan now (if b then acts else [])
if_may plan now true acts h = h refl
if_may plan now false acts h = tt

room_is : (plan : Settings) (now : Facts) → has_room plan now ≡ true → length (outbox now (control_slot plan.lists)) ≤ 56
room_is plan now h = grind (arith, nat_tests)

pdu_at : (plan : Settings) (now : Facts) (slot : Slot) (pdu : Pdu) → KnowsPlan plan → IsSound plan now
    → (is_up now slot.carrier && (is_slot slot (control_slot plan.lists) && has_room plan now)) ≡ true →
    AllMayDo plan now (acts_for_pdu plan now pdu)
pdu_at plan now slot pdu p h k =
    let a = and_parts _ _ k in
    let b = and_parts _ _ a.1 in
    let up = subst (λ (x : Slot). is_up now x.carrier ≡ true) (same_slot slot (control_slot plan.lists) b.0) a.0 in
    pdu_may plan now (record { known = p; sound = h; up = up; room = omega (arith, room_is plan now b.1) }) pdu

-- a tick: what clearing the due call and repeating the due ask leave for the first line
record IsReady (plan : Settings) (now later : Facts) : Type 0 where
  lines : later.lines ≡ now.lines
  free : (slot : Slot) → slot.slot < 2 → IsFree plan now slot → IsFree plan later slot

record Clears (plan : Settings) (now : Facts) (acts : List Act) : Type 0 where
  leaves : LeavesRoom plan now acts 0
  ready : IsReady plan now (fold facts_after_act now acts)
  asks : (fold facts_after_act now acts).asks ≡ now.asks

record Repeats (plan : Settings) (later : Facts) (acts : List Act) : Type 0 where
  leaves : LeavesRoom plan later acts 1
  ready : IsReady plan later (fold facts_after_act later acts)

free_from : (plan : Settings) (now : Facts) (slot : Slot) → IsFree plan now slot → is_free plan now slot ≡ true
free_from plan now slot f =
    rw (f.known, f.up, f.apart, f.none, f.quiet, granted_known plan now.outboxes slot f.known ∙ f.ungranted) refl

apart_from : (now : Facts) (slot there : Slot) → has_call_on now.calls slot ≡ false → has_call_on now.calls there ≡ true
    → is_slot slot there ≡ false
apart_from now slot there h k =
    false_from_ne_true _ (λ e. true_false _ k (subst (λ (x : Slot). has_call_on now.calls x ≡ false) (same_slot slot there e) h))

none_clears : (plan : Settings) (now : Facts) → Clears plan now []
none_clears plan now = record {
  leaves = record { may = tt; up = refl; room = omega arith };
  ready = record { lines = refl; free = λ slot also f. f };
  asks = refl;
}

call_clears : (plan : Settings) (now : Facts) (call : Call) → KnowsPlan plan → IsSound plan now → call_on now.calls call.slot ≡ Some call
    → Clears plan now (clear plan call)
call_clears plan now call p h stands =
    let on = call_is_active now.calls call.slot call stands in
    let later : Facts = fold facts_after_act now (clear plan call) in
    let c : IsCleared now later call = cleared_is plan now call (h.calls.payload call.slot on.0).small in
    let control : outbox later (control_slot plan.lists) ≡ outbox now (control_slot plan.lists) =
    c.others (control_slot plan.lists) (omega arith) (control_apart plan now call.slot h on.0) in
    record {
      leaves = record { may = clear_may plan now call p h stands; up = ap (λ (f : Facts). f.up) c.same; room = rw control (omega arith) };
      ready = record {
        lines = ap (λ (f : Facts). f.lines) c.same;
        free = λ slot also f. record {
          known = f.known;
          up = ap (λ (x : Facts). is_up x slot.carrier) c.same ∙ f.up;
          apart = f.apart;
          none = ap (λ (x : Facts). has_call_on x.calls slot) c.same
              ∙ any-filter (λ s. is_slot s.call.slot slot) (λ s. not (is_slot s.call.slot call.slot)) now.calls f.none;
          quiet = c.others slot also (apart_from now slot call.slot f.none on.0) ∙ f.quiet;
          ungranted = rw control f.ungranted;
        };
      };
      asks = ap (λ (f : Facts). f.asks) c.same;
    }

due_clears : (plan : Settings) (now : Facts) (due : Option Slot) → KnowsPlan plan → IsSound plan now
    → Clears plan now (acts_for_due_call plan now.calls due)
unfolding acts_for_due_call
due_clears plan now due p h =
    by_option (Clears plan now) _ due [] (λ slot e. by_option (Clears plan now) _ (call_on now.calls slot) []
    (λ call k. call_clears plan now call p h (found_is_active (λ s. is_slot s.call.slot slot) now.calls call h.calls.apart k))
    (none_clears plan now)) (none_clears plan now)

line_engage : (plan : Settings) (now : Facts) (l : Line) → IsSound plan now → first_line now.lines ≡ Some l
    → MayEngage plan (facts_after_act now (Unlined l.source)) now.asks l.group l.source l.target
line_engage plan now l h found =
    let first : find (λ (x : Line). true) now.lines ≡ Some l = sym (first_found now.lines) ∙ found in
    record {
      parties = λ r k. h.radios.parties r (omega (arith, total_some (engagements_in_line r) (λ x. true) now.lines l first));
      once = λ r.
          let out = not_itself l.source in
          let left = total_found (engagements_in_line r) (λ x. true) (λ x. not (x.source == l.source)) now.lines l first out in
          omega (arith, h.radios.once r, left);
      listed = λ g. h.lines.listed l.target
          (find_any (λ x. true) (λ x. x.group && (x.target == l.target)) now.lines l first (rw (g, equal_itself l.target) refl));
    }

served_may : (plan : Settings) (now later : Facts) (call : Call) → KnowsPlan plan → IsSound plan later → IsReady plan now later
    → length (outbox later (control_slot plan.lists)) ≤ 57
    → first_line now.lines ≡ Some (record { source = call.source; target = call.target; group = call.group })
    → lowest_free plan now ≡ Some call.slot → AllMayDo plan later (Unlined call.source ∷ begin plan call)
served_may plan now later call p h ready room line found =
    let there : first_line later.lines ≡ Some (record { source = call.source; target = call.target; group = call.group }) =
    rw ready.lines line in
    let c : MayAnswer plan later 7 = record {
      known = p;
      sound = h;
      up = found_up first_line _ later.lines _ refl h.lines.none there;
      room = omega arith;
    } in
    let small : call.slot.slot < 2 = lowest_small plan now call.slot found in
    let free : is_free plan later call.slot ≡ true =
    free_from plan later call.slot (ready.free call.slot small (free_is plan now call.slot (lowest_is_free plan now call.slot found))) in
    let unlined = after c (Unlined call.source) tt refl in (
      tt,
      begin_may unlined (omega arith) call (record {
        free = free;
        small = small;
        few = few_with_free plan (facts_after_act later (Unlined call.source)) call.slot p unlined.sound free small;
        engage = line_engage plan later (record { source = call.source; target = call.target; group = call.group }) h there;
      }),
    )

serve_may : (plan : Settings) (now later : Facts) → KnowsPlan plan → IsSound plan later → IsReady plan now later
    → length (outbox later (control_slot plan.lists)) ≤ 57 → AllMayDo plan later (acts_for_line plan now (first_line now.lines))
unfolding acts_for_line
serve_may plan now later p h ready room =
    by_option (AllMayDo plan later) _ (first_line now.lines) []
    (λ l line. by_option (AllMayDo plan later) _ (lowest_free plan now) []
    (λ slot found. served_may plan now later (call_of_line l slot) p h ready room line found) tt) tt

-- the oldest ask
plain_names : (l s : ℕ) (pdu : Pdu) → is_grant pdu ≡ false → names l s pdu ≡ false
plain_names l s (PvGrant a b c d) h = cc
plain_names l s (TvGrant a b c d e) h = cc
plain_names l s _ h = refl

-- a slot stays free after one PDU that is not a grant, with the asks changed
ready_to_queue : (plan : Settings) (now : Facts) (asks : List ActiveAsk) (pdu : Pdu) → is_grant pdu ≡ false
    → IsReady plan now (facts_after_act (record now { asks = asks }) (Queue (control_slot plan.lists) pdu))
ready_to_queue plan now asks pdu plain =
    let control : Slot = control_slot plan.lists in
    let boxes : List (List Pdu) = now.outboxes in
    record {
      lines = refl;
      free = λ slot also f. record {
        known = f.known;
        up = f.up;
        apart = f.apart;
        none = f.none;
        quiet = get_or-set_other boxes (place control) (place slot) (box boxes control ++ pdu ∷ []) []
            (other_place slot control also (omega arith) f.apart) ∙ f.quiet;
        ungranted = put_either (λ b. list_any (names (lpcn_of plan slot.carrier) slot.slot) b ≡ false) boxes (place control) (place control)
            (box boxes control ++ pdu ∷ [])
            (any_more (names (lpcn_of plan slot.carrier) slot.slot) (box boxes control) pdu f.ungranted
            (plain_names (lpcn_of plan slot.carrier) slot.slot pdu plain)) f.ungranted;
      };
    }

-- the ask that is due is the first
due_found : (wait : ℕ) (asks : List ActiveAsk) (ask : Ask) → due_ask wait asks ≡ Some ask
    → option_map (λ (x : ActiveAsk). x.ask) (find (λ (x : ActiveAsk). true) asks) ≡ Some ask
due_found wait [] ask h = cc
due_found wait (a ∷ asks) ask h = first (nat_le wait a.waited) h
  where
    first : (b : Bool) → (if b then Some a.ask else None) ≡ Some ask → Some a.ask ≡ Some ask
    first true h = h
    first false h = cc

module _ (plan : Settings) (now : Facts) (p : KnowsPlan plan) (h : IsSound plan now)
    (room : length (outbox now (control_slot plan.lists)) ≤ 56)
    (ask : Ask) (found : option_map (λ (x : ActiveAsk). x.ask) (find (λ (x : ActiveAsk). true) now.asks) ≡ Some ask) where
  may_answer : MayAnswer plan now 8
  may_answer = record {
    known = p;
    sound = h;
    up = found_up (λ (xs : List ActiveAsk). option_map (λ (x : ActiveAsk). x.ask) (find (λ (x : ActiveAsk). true) xs)) _ now.asks ask refl
        h.asks.none found;
    room = omega arith;
  }

  again_repeats : (n : ℕ) → Repeats plan now
      (Asked (record { source = ask.source; target = ask.target; options = ask.options; attempt = n }) ∷ ahoy plan ask)
  again_repeats n =
      let a = mapped_some _ (find (λ (x : ActiveAsk). true) now.asks) ask found in
      let others : ActiveAsk → Bool = λ x. not (x.ask.source == ask.source) in
      let out : others a.0 ≡ false = subst (λ (k : Ask). not (k.source == ask.source) ≡ false) (sym a.2) (not_itself ask.source) in
      let left = total_found (λ x. 1) (λ x. true) others now.asks a.0 a.1 out in
      let less : length (others_than ask.source now.asks) < 32 =
      omega (arith, h.asks.few, left, total-ones now.asks, total-ones (others_than ask.source now.asks)) in
      let new : Ask = record { source = ask.source; target = ask.target; options = ask.options; attempt = n } in
      let pdu : Pdu = Ahoy ask.options false individual_voice ask.target ask.source in
      let may : MayDo plan now (Asked new) = (may_answer.up, less, ask_engage plan now (λ x. true) ask h found) in
      let queued = queue_leaves (after may_answer (Asked new) may refl) (omega arith) pdu refl in
      record {
        leaves = record { may = (may, queued.may); up = queued.up; room = queued.room };
        ready = ready_to_queue plan now _ pdu refl;
      }

  over_repeats : Repeats plan now (AskOver ask.source ∷ ack plan ask.source ask.target 0x24)
  over_repeats =
      let pdu : Pdu = Ackd 0 0x24 false ask.source ask.target in
      let queued = queue_leaves (after may_answer (AskOver ask.source) tt refl) (omega arith) pdu refl in
      record {
        leaves = record { may = (tt, queued.may); up = queued.up; room = queued.room };
        ready = ready_to_queue plan now _ pdu refl;
      }

due_repeats : (plan : Settings) (now : Facts) (wait : ℕ) → KnowsPlan plan → IsSound plan now
    → length (outbox now (control_slot plan.lists)) ≤ 56 → Repeats plan now (acts_for_due_ask plan (due_ask wait now.asks))
unfolding acts_for_due_ask
due_repeats plan now wait p h room =
    by_option (Repeats plan now) _ (due_ask wait now.asks) []
    (λ ask k. let found = due_found wait now.asks ask k in
    by_if (Repeats plan now) (nat_lt ask.attempt plan.calls.ahoy_tries) _ _ (again_repeats plan now p h room ask found (ask.attempt + 1))
    (over_repeats plan now p h room ask found))
    (record { leaves = record { may = tt; up = refl; room = omega arith }; ready = record { lines = refl; free = λ slot also f. f } })

both_may : (plan : Settings) (now later : Facts) → KnowsPlan plan → IsSound plan later → IsReady plan now later → later.asks ≡ now.asks
    → length (outbox later (control_slot plan.lists)) ≤ 56
    → AllMayDo plan later (acts_for_due_ask plan (due_ask plan.calls.ahoy_wait now.asks) ++ acts_for_line plan now (first_line now.lines))
both_may plan now later p h ready same room =
    let asks : List Act = acts_for_due_ask plan (due_ask plan.calls.ahoy_wait now.asks) in
    let c : Repeats plan later asks =
    subst (λ (xs : List ActiveAsk). Repeats plan later (acts_for_due_ask plan (due_ask plan.calls.ahoy_wait xs))) same
    (due_repeats plan later plan.calls.ahoy_wait p h room) in
    let still : IsReady plan now (fold facts_after_act later asks) =
    record { lines = c.ready.lines ∙ ready.lines; free = λ slot also f. c.ready.free slot also (ready.free slot also f) } in
    may-append plan asks (acts_for_line plan now (first_line now.lines)) later c.leaves.may
    (serve_may plan now _ p (sound-acts plan later asks p h c.leaves.may) still (omega (arith, c.leaves.room)))

tick_may : (plan : Settings) (now : Facts) → KnowsPlan plan → IsSound plan now → AllMayDo plan now (acts_for_tick plan now)
unfolding acts_for_tick
tick_may plan now p h =
    let due : List Act = acts_for_due_call plan now.calls (due_call plan.calls.hang plan.calls.maximum now.calls) in
    let c : Clears plan now due = due_clears plan now _ p h in
    let later : Facts = fold facts_after_act now due in
    may-append plan due _ now c.leaves.may
    (if_may plan later (has_room plan now) _
    (λ k. both_may plan now later p (sound-acts plan now due p h c.leaves.may) c.ready c.asks
    (omega (arith, c.leaves.room, room_is plan now k))))

-- polls
module _ (plan : Settings) (now later : Facts) (slot : Slot) where
  sent_may : (xs : List Pdu) → outbox later slot ≡ xs → is_up later slot.carrier ≡ true → slot.slot < 2
      → (is_slot slot (control_slot plan.lists) ≡ true → MayDo plan later
      (Fill slot (next_fill plan now)))
      → AllMayDo plan later (acts_for_outbox plan now slot xs)
  sent_may [] e up small fills = if_may plan later (is_slot slot (control_slot plan.lists)) _ (λ k. (fills k, tt))
  sent_may (pdu ∷ pdus) e up small fills = ((up, small, rw e refl), tt)

  sent_up : (xs : List Pdu) → (fold facts_after_act later (acts_for_outbox plan now slot xs)).up ≡ later.up
  sent_up [] = by_if (λ acts. (fold facts_after_act later acts).up ≡ later.up) (is_slot slot (control_slot plan.lists)) _ _ refl refl
  sent_up (pdu ∷ pdus) = refl

  sent_elsewhere : (other : Slot) (xs : List Pdu) → slot.slot < 2 → other.slot < 2 → is_slot other slot ≡ false
      → outbox (fold facts_after_act later (acts_for_outbox plan now slot xs)) other ≡ outbox later other
  sent_elsewhere other [] small also apart =
      by_if (λ acts. outbox (fold facts_after_act later acts) other ≡ outbox later other)
      (is_slot slot (control_slot plan.lists)) _ _ refl refl
  sent_elsewhere other (pdu ∷ pdus) small also apart =
      get_or-set_other later.outboxes (place slot) (place other) (drop 1 (box later.outboxes slot)) []
      (other_place other slot also small apart)

-- slot 1 is not a control slot
not_first : (plan : Settings) (c : ℕ) → is_slot (record { carrier = c; slot = 1 }) (control_slot plan.lists) ≡ true → ⊥
not_first plan c k = let no : (1 == 0) ≡ true = (and_parts (c == plan.lists.control) (1 == 0) k).1 in cc

polls_may : (plan : Settings) (now : Facts) (c : ℕ) → is_up now c ≡ true
    → AllMayDo plan (facts_after_event plan now (Poll c))
    (acts_for_slot plan now (record { carrier = c; slot = 0 }) ++ acts_for_slot plan now (record { carrier = c; slot = 1 }))
unfolding acts_for_slot
polls_may plan now c up =
    let first : Slot = record { carrier = c; slot = 0 } in
    let second : Slot = record { carrier = c; slot = 1 } in
    let later : Facts = facts_after_event plan now (Poll c) in
    let last : Facts = fold facts_after_act later (acts_for_outbox plan now first (outbox now first)) in
    let fill : Pdu = next_fill plan now in
    let fills : is_slot first (control_slot plan.lists) ≡ true → MayDo plan later (Fill first fill) = λ k.
    let there : first ≡ control_slot plan.lists = same_slot first (control_slot plan.lists) k in
    fill_may plan now c first there (subst (λ (s : Slot). is_up now s.carrier ≡ true) there up) in
    may-append plan (acts_for_outbox plan now first (outbox now first)) (acts_for_outbox plan now second (outbox now second)) later
    (sent_may plan now later first (outbox now first) refl up (omega arith) fills)
    (sent_may plan now last second (outbox now second)
    (sent_elsewhere plan now later first second (outbox now first) (omega arith) (omega arith) (grind (arith, nat_tests)))
    (rw (sent_up plan now later first (outbox now first)) up) (omega arith) (λ k. absurd (not_first plan c k)))

-- commands
dropped_may : (plan : Settings) (now : Facts) (r : ℕ) → KnowsPlan plan → IsSound plan now →
    length (outbox now (control_slot plan.lists)) ≤ 56
    → AllMayDo plan now (close plan now r ++ Left r ∷ [])
dropped_may plan now r p h room =
    let c : Closes plan now r (close plan now r) = close_closes plan now r p h room in
    may-append plan (close plan now r) (Left r ∷ []) now c.leaves.may (c.gone, tt)

commanded_may : (plan : Settings) (now : Facts) (command : Command) → KnowsPlan plan → IsSound plan now
    → AllMayDo plan (facts_after_event plan now (Say command)) (answer_to_command plan now command).list
unfolding answer_to_command
commanded_may plan now (Drop r) p h =
    by_drop (AllMayDo plan now) (is_registered now r) (has_room plan now) (close plan now r ++ Left r ∷ []) tt
    (λ k. dropped_may plan now r p h (room_is plan now k))
commanded_may plan now (End c s) p h =
    let slot : Slot = record { carrier = c; slot = s } in
    by_end (AllMayDo plan now) (has_carrier plan c) (λ (call : Call). clear plan call) (call_on now.calls slot) tt
    (λ call k. clear_may plan now call p h (found_is_active (λ s. is_slot s.call.slot slot) now.calls call h.calls.apart k))
commanded_may plan now _ p h = tt

-- each event's acts may be done
pub acts_may : (plan : Settings) (now : Facts) (event : Event) → KnowsPlan plan → IsSound plan now
    → AllMayDo plan (facts_after_event plan now event) (acts_of plan now event)
acts_may plan now (Heard slot pdu) p h =
    if_may plan now (is_up now slot.carrier && (is_slot slot (control_slot plan.lists) && has_room plan now)) (acts_for_pdu plan now pdu)
    (λ k. pdu_at plan now slot pdu p h k)
acts_may plan now (Poll c) p h = if_may plan (facts_after_event plan now (Poll c)) (is_up now c) _ (λ k. polls_may plan now c k)
acts_may plan now Tick p h =
    tick_may plan (record now { calls = map one_tick_older now.calls; asks = map ask_after_tick now.asks }) p
    (sound-noted plan now Tick p h)
acts_may plan now (Say command) p h = commanded_may plan now command p h
acts_may plan now _ p h = tt
