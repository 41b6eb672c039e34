-- The acts that end a radio's call, ask or line may be done.
use Rattle.std.proofs.Common.{◌≡◌, ◌<◌, ◌≤◌, ℕ, zero, suc, List, [], ◌∷◌, ◌++◌, Bool, true, false, refl, sym, ◌∙◌, ap, subst, arith, length}
use Rattle.std.specs.Prelude.{fold, Option, Some, None, ◌&&◌, not, replicate, find, ◌==◌, option_map}
use Rattle.std.specs.List.{list_any}
use Rattle.std.proofs.lemmas.Bool.{or_right}
use Rattle.std.proofs.lemmas.List.{get_or-set_other}
use Rattle.dmr_pdu.specs.declared.slots.Slot.{Slot}
use Rattle.dmr_pdu.specs.declared.pdu.Pdu.{Pdu}
use Rattle.dmr_pdu.specs.declared.pdu.Pdu.TheVariants.{Ackd, Clear}
use Rattle.dmr_plan.specs.declared.settings.Settings.{Settings}
use Rattle.dmr_calls.specs.declared.ask.Ask.{Ask}
use Rattle.dmr_calls.specs.declared.ask.ActiveAsk.{ActiveAsk}
use Rattle.dmr_calls.specs.declared.line.Line.{Line}
use Rattle.dmr_calls.specs.declared.call.Call.{Call}
use Rattle.dmr_calls.specs.Asks.{ask_of, ask_to, others_than}
use Rattle.dmr_calls.specs.Lines.{line_of, line_to, without_line}
use Rattle.dmr_calls.specs.Calls.{call_on, is_slot, on_other_slots}
use Rattle.dmr_calls.specs.Engaged.{call_of, is_party, is_party_to_ask, is_party_to_call, is_party_to_line}
use Rattle.dmr_pool.specs.Slots.{place}
use Rattle.dmr_pool.specs.Free.{control_slot}
use Rattle.dmr_core.specs.declared.act.Act.{Act}
use Rattle.dmr_core.specs.declared.act.Act.TheVariants.{AskOver, Ended, Queue, Unlined}
use Rattle.dmr_core.specs.Facts.{Facts, facts_after_act}
use Rattle.dmr_core.specs.Words.{is_up, lpcn_of, outbox, has_call_on}
use Rattle.dmr_core.specs.Rules.{ack, clear, close}
use Rattle.dmr_core.specs.Sound.{IsSound, engagements, engagements_in_ask, engagements_in_call, engagements_in_line, party}
use Rattle.dmr_core.proofs.PlanLemmas.{KnowsPlan}
use Rattle.dmr_core.proofs.NumberLemmas.{not_itself}
use Rattle.dmr_core.proofs.ListLemmas.{find_passes, mapped_some, neither, none_found, total_found, unmapped}
use Rattle.dmr_core.proofs.CallsAreApart.{same_slots, itself}
use Rattle.dmr_core.proofs.SlotsStaySound.{other_place}
use Rattle.dmr_core.proofs.GrantsAreOwn.{found_is_active, call_is_active}
use Rattle.dmr_core.proofs.PartsMayBeDone.{LeavesRoom, MayAnswer, ack_after, clear_may, not_engaged, one_queued}

-- copies of a PDU change one outbox alone
copies_same : (n : ℕ) (now : Facts) (slot : Slot) (pdu : Pdu)
    → fold facts_after_act now (replicate n (Queue slot pdu))
    ≡ record now { outboxes = (fold facts_after_act now (replicate n (Queue slot pdu))).outboxes }
copies_same zero now slot pdu = refl
copies_same (suc n) now slot pdu = copies_same n (facts_after_act now (Queue slot pdu)) slot pdu

copies_elsewhere : (n : ℕ) (now : Facts) (slot other : Slot) (pdu : Pdu) → slot.slot < 2 → other.slot < 2 → is_slot other slot ≡ false
    → outbox (fold facts_after_act now (replicate n (Queue slot pdu))) other ≡ outbox now other
copies_elsewhere zero now slot other pdu small also apart = refl
copies_elsewhere (suc n) now slot other pdu small also apart =
    copies_elsewhere n (facts_after_act now (Queue slot pdu)) slot other pdu small also apart
    ∙ get_or-set_other now.outboxes (place slot) (place other) (outbox now slot ++ pdu ∷ []) [] (other_place other slot also small apart)

-- the facts after clearing a call
pub record IsCleared (now later : Facts) (call : Call) : Type 0 where
  pub same : later ≡ record now { calls = on_other_slots call.slot now.calls; outboxes = later.outboxes }
  pub others : (slot : Slot) → slot.slot < 2 → is_slot slot call.slot ≡ false → outbox later slot ≡ outbox now slot

pub cleared_is : (plan : Settings) (now : Facts) (call : Call) → call.slot.slot < 2
    → IsCleared now (fold facts_after_act now (clear plan call)) call
unfolding clear
cleared_is plan now call small =
    let ended : Facts = facts_after_act now (Ended call.slot) in
    let pdu : Pdu = Clear (lpcn_of plan plan.lists.control) call.group call.target plan.system.tsi in
    record {
      same = copies_same plan.calls.clear_copies ended call.slot pdu;
      others = λ slot also apart. copies_elsewhere plan.calls.clear_copies ended call.slot slot pdu small also apart;
    }

-- if something is found in a list that is empty while the control carrier is down, it is up
pub found_up : {X Y : Type 0} (get : List X → Option Y) (up : Bool) (xs : List X) (y : Y) → get [] ≡ None → (up ≡ false → xs ≡ [])
    → get xs ≡ Some y → up ≡ true
found_up get true xs y nothing none found = refl
found_up get false xs y nothing none found = let k : Some y ≡ None = sym found ∙ ap get (none refl) ∙ nothing in cc

counts : (r : ℕ) (group : Bool) (source target : ℕ) → is_party r group source target ≡ true → 1 ≤ party r group source target
counts r group source target h = grind arith

-- acts that may be done, and after which nothing engages the radio
pub record Closes (plan : Settings) (now : Facts) (r : ℕ) (acts : List Act) : Type 0 where
  pub leaves : LeavesRoom plan now acts 1
  pub gone : engagements (fold facts_after_act now acts).calls (fold facts_after_act now acts).asks
      (fold facts_after_act now acts).lines r ≡ 0

pub control_apart : (plan : Settings) (now : Facts) (slot : Slot) → IsSound plan now → has_call_on now.calls slot ≡ true
    → is_slot (control_slot plan.lists) slot ≡ false
control_apart plan now slot h on = same_slots (control_slot plan.lists) slot ∙ (h.calls.payload slot on).apart

module _ (plan : Settings) (now : Facts) (r : ℕ) (h : IsSound plan now) where
  -- a radio has no call, ask or line after the one that engaged it
  call_gone : (call : Call) → call_of now.calls r ≡ Some call → engagements (on_other_slots call.slot now.calls) now.asks now.lines r ≡ 0
  call_gone call found =
      let s = mapped_some _ (find (is_party_to_call r) now.calls) call found in
      let one : 1 ≤ engagements_in_call r s.0 = counts r _ _ _ (find_passes (is_party_to_call r) now.calls s.0 s.1) in
      let less = total_found (engagements_in_call r) (is_party_to_call r) (λ x. not (is_slot x.call.slot call.slot)) now.calls s.0 s.1
      (subst (λ (k : Call). not (is_slot k.slot call.slot) ≡ false) (sym s.2) (rw (itself call.slot) refl)) in
      omega (arith, h.radios.once r)

  ask_gone : (test : ActiveAsk → Bool) (ask : Ask) → ((x : ActiveAsk) → test x ≡ true → is_party_to_ask r x ≡ true)
      → option_map (λ (x : ActiveAsk). x.ask) (find test now.asks) ≡ Some ask
      → engagements now.calls (others_than ask.source now.asks) now.lines r ≡ 0
  ask_gone test ask is found =
      let a = mapped_some _ (find test now.asks) ask found in
      let one : 1 ≤ engagements_in_ask r a.0 = counts r false a.0.ask.source a.0.ask.target (is a.0 (find_passes test now.asks a.0 a.1)) in
      let less = total_found (engagements_in_ask r) test (λ x. not (x.ask.source == ask.source)) now.asks a.0 a.1
      (subst (λ (k : Ask). not (k.source == ask.source) ≡ false) (sym a.2) (not_itself ask.source)) in
      omega (arith, h.radios.once r)

  line_gone : (test : Line → Bool) (l : Line) → ((x : Line) → test x ≡ true → is_party_to_line r x ≡ true) → find test now.lines ≡ Some l
      → engagements now.calls now.asks (without_line l.source now.lines) r ≡ 0
  line_gone test l is found =
      let one : 1 ≤ engagements_in_line r l = counts r _ _ _ (is l (find_passes test now.lines l found)) in
      let less = total_found (engagements_in_line r) test (λ x. not (x.source == l.source)) now.lines l found (not_itself l.source) in
      omega (arith, h.radios.once r)

  call_closes : (call : Call) → KnowsPlan plan → call_of now.calls r ≡ Some call → Closes plan now r (clear plan call)
  call_closes call p found =
      let stands : call_on now.calls call.slot ≡ Some call = found_is_active (is_party_to_call r) now.calls call h.calls.apart found in
      let on = call_is_active now.calls call.slot call stands in
      let c : IsCleared now (fold facts_after_act now (clear plan call)) call =
      cleared_is plan now call (h.calls.payload call.slot on.0).small in
      record {
        leaves = record {
          may = clear_may plan now call p h stands;
          up = ap (λ (f : Facts). f.up) c.same;
          room = rw (c.others (control_slot plan.lists) (omega arith) (control_apart plan now call.slot h on.0)) (omega arith);
        };
        gone = ap (λ (f : Facts). engagements f.calls f.asks f.lines r) c.same ∙ call_gone call found;
      }

  none_closes : call_of now.calls r ≡ None → ask_of now.asks r ≡ None → ask_to now.asks r ≡ None → line_of now.lines r ≡ None
      → line_to now.lines r ≡ None → Closes plan now r []
  none_closes a x y b c =
      let calls : list_any (is_party_to_call r) now.calls ≡ false = none_found (is_party_to_call r) now.calls (unmapped _ _ a) in
      let asks : list_any (is_party_to_ask r) now.asks ≡ false =
      neither (λ k. k.ask.source == r) (λ k. k.ask.target == r) now.asks (none_found _ now.asks (unmapped _ _ x))
      (none_found _ now.asks (unmapped _ _ y)) in
      let lines : list_any (is_party_to_line r) now.lines ≡ false =
      neither (λ l. l.source == r) (λ l. not l.group && (l.target == r)) now.lines (none_found _ now.lines b) (none_found _ now.lines c) in
      record { leaves = record { may = tt; up = refl; room = omega arith }; gone = not_engaged now r (rw (calls, asks, lines) refl) }

pub close_closes : (plan : Settings) (now : Facts) (r : ℕ) → KnowsPlan plan → IsSound plan now →
    length (outbox now (control_slot plan.lists)) ≤ 56
    → Closes plan now r (close plan now r)
unfolding close
close_closes plan now r p h room =
    let answered : is_up now plan.lists.control ≡ true → MayAnswer plan now 8 =
    λ up. record { known = p; sound = h; up = up; room = omega arith } in
    let calls : (call : Call) → call_of now.calls r ≡ Some call → Closes plan now r (clear plan call) =
    λ call. call_closes plan now r h call p in
    let asks : (a : Ask) → ask_of now.asks r ≡ Some a → Closes plan now r (AskOver a.source ∷ []) = λ a k. record {
      leaves = record { may = (tt, tt); up = refl; room = omega arith };
      gone = ask_gone plan now r h (λ x. x.ask.source == r) a (λ x e. rw e refl) k;
    } in
    let asks_to : (a : Ask) → ask_to now.asks r ≡ Some a → Closes plan now r (AskOver a.source ∷ ack plan a.source a.target 0x24) = λ a k.
    let up = found_up (λ (xs : List ActiveAsk). ask_to xs r) _ now.asks a refl h.asks.none k in record {
      leaves = record {
        may = ack_after (answered up) (omega arith) (AskOver a.source) tt refl a.source a.target 0x24;
        up = refl;
        room = one_queued (facts_after_act now (AskOver a.source)) (control_slot plan.lists) (Ackd 0 0x24 false a.source a.target);
      };
      gone = ask_gone plan now r h (λ x. x.ask.target == r) a (λ x e. or_right _ _ e) k;
    } in
    let lines : (l : Line) → line_of now.lines r ≡ Some l → Closes plan now r (Unlined l.source ∷ []) = λ l k. record {
      leaves = record { may = (tt, tt); up = refl; room = omega arith };
      gone = line_gone plan now r h (λ x. x.source == r) l (λ x e. rw e refl) k;
    } in
    let lines_to : (l : Line) → line_to now.lines r ≡ Some l
    → Closes plan now r (Unlined l.source ∷ ack plan l.source l.target 0x24) = λ l k.
    let up = found_up (λ (xs : List Line). line_to xs r) _ now.lines l refl h.lines.none k in record {
      leaves = record {
        may = ack_after (answered up) (omega arith) (Unlined l.source) tt refl l.source l.target 0x24;
        up = refl;
        room = one_queued (facts_after_act now (Unlined l.source)) (control_slot plan.lists) (Ackd 0 0x24 false l.source l.target);
      };
      gone = line_gone plan now r h (λ x. not x.group && (x.target == r)) l (λ x e. or_right _ _ e) k;
    } in
    let none = none_closes plan now r h in
    grind (arith, calls, asks, asks_to, lines, lines_to, none)
