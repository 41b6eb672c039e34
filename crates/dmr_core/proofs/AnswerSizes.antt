-- An answer is at most 13 acts, and queues at most five PDUs on the control slot and four elsewhere.
use Rattle.std.proofs.Common.{◌≡◌, ◌≤◌, ◌+◌, ℕ, zero, suc, List, [], ◌∷◌, ◌++◌, Bool, true, false, refl, arith, map}
use Rattle.std.specs.Prelude.{Option, Some, if◌then◌else◌, ◌&&◌, replicate, ◌==◌}
use Rattle.std.proofs.lemmas.Bool.{and_parts, leb-true}
use lib.Dec.{leb}
use Rattle.std.proofs.lemmas.List.{length-append}
use Rattle.dmr_pdu.specs.declared.slots.Slot.{Slot}
use Rattle.dmr_pdu.specs.declared.pdu.Pdu.{Pdu}
use Rattle.dmr_pdu.specs.declared.pdu.Pdu.TheVariants.{Ackd, Acku, Ahoy, Clear, Random}
use Rattle.dmr_pdu.specs.Kinds.{individual_voice}
use Rattle.dmr_plan.specs.declared.settings.Settings.{Settings}
use Rattle.dmr_calls.specs.declared.ask.Ask.{Ask}
use Rattle.dmr_calls.specs.declared.line.Line.{Line}
use Rattle.dmr_calls.specs.declared.call.Call.{Call}
use Rattle.dmr_calls.specs.Asks.{ask_after_tick, ask_to}
use Rattle.dmr_calls.specs.Calls.{call_on, one_tick_older, is_slot}
use Rattle.dmr_calls.specs.Engaged.{call_of, is_party_to_call}
use Rattle.dmr_core.specs.Rules.{next_fill}
use Rattle.dmr_pool.specs.Free.{control_slot}
use Rattle.dmr_core.specs.declared.request.Request.{Request}
use Rattle.dmr_core.specs.declared.event.Event.{Event}
use Rattle.dmr_core.specs.declared.event.Event.TheVariants.{Heard, Poll, Say, Tick}
use Rattle.dmr_core.specs.declared.command.Command.{Command}
use Rattle.dmr_core.specs.declared.command.Command.TheVariants.{Drop, End}
use Rattle.dmr_core.specs.declared.act.Act.{Act}
use Rattle.dmr_core.specs.declared.act.Act.TheVariants.{AskOver, Asked, Began, Ended, Fill, Joined, Left, Lined, Queue, Send, Unlined}
use Rattle.dmr_core.specs.Facts.{Facts, has_carrier}
use Rattle.dmr_core.specs.Words.{has_room, is_registered, is_up, lowest_free, lpcn_of, outbox}
use Rattle.dmr_core.specs.Rules.{ack, acts_of, ahoy, acts_for_called_radio, begin, call_of_line, acts_for_cancel, clear, close}
use Rattle.dmr_core.specs.Rules.{answer_to_command, acts_for_due_call, grant, grant_pdu, acts_for_pdu, acts_for_individual_request}
use Rattle.dmr_core.specs.Rules.{acts_for_leaving, acts_for_new_call, acts_for_slot, acts_for_registration, acts_for_due_ask}
use Rattle.dmr_core.specs.Rules.{acts_for_request, acts_for_outbox, acts_for_line, acts_for_talkgroup_request, acts_for_tick}
use Rattle.dmr_core.specs.Sound.{IsSound, total}
use Rattle.dmr_core.specs.Counts.{AreFewActs, elsewhere, on_control}
use Rattle.dmr_core.proofs.PlanLemmas.{KnowsPlan}
use Rattle.dmr_core.proofs.ChoiceLemmas.{by_drop, by_end, by_if, by_option}
use Rattle.dmr_core.proofs.GrantsAreOwn.{found_is_active, call_is_active}
use Rattle.dmr_core.proofs.EventsKeepSound.{sound-noted}
use Rattle.dmr_core.proofs.CallsAreApart.{itself}

total-both : {X : Type 0} (f : X → ℕ) (xs ys : List X) → total f (xs ++ ys) ≡ total f xs + total f ys
total-both f [] ys = omega arith
total-both f (x ∷ xs) ys = omega (arith, total-both f xs ys)

-- three numbers are at most three others
abbrev fits : ℕ → ℕ → ℕ → ℕ → ℕ → ℕ → Bool
fits a b c d e f = leb a d && (leb b e && leb c f)

within : (a b c d e f : ℕ) → fits a b c d e f ≡ true → (a ≤ d) × (b ≤ e) × (c ≤ f)
within a b c d e f h =
    let both = and_parts _ _ h in
    let rest = and_parts _ _ both.1 in
    (leb-true a d both.0, leb-true b e rest.0, leb-true c f rest.1)

-- other numbers, one act before others, and the acts of two rules
wider : {plan : Settings} {acts : List Act} {a b c d e f : ℕ} → fits a b c d e f ≡ true → AreFewActs plan acts a b c
    → AreFewActs plan acts d e f
wider {a = a} {b = b} {c = c} {d = d} {e = e} {f = f} fit h =
    let k = within a b c d e f fit in
    record { size = omega (arith, h.size); waiting = omega (arith, h.waiting); apart = omega (arith, h.apart) }

plain : {plan : Settings} {acts : List Act} {a b c d e f : ℕ} (act : Act) → on_control plan act ≡ 0 → elsewhere plan act ≡ 0
    → fits (suc a) b c d e f ≡ true → AreFewActs plan acts a b c → AreFewActs plan (act ∷ acts) d e f
plain {a = a} {b = b} {c = c} {d = d} {e = e} {f = f} act x y fit h =
    let k = within (suc a) b c d e f fit in
    record { size = omega (arith, h.size); waiting = omega (arith, h.waiting); apart = omega (arith, h.apart) }

joint : {plan : Settings} {xs ys : List Act} {a b c d e f : ℕ} → AreFewActs plan xs a b c → AreFewActs plan ys d e f
    → AreFewActs plan (xs ++ ys) (a + d) (b + e) (c + f)
joint {plan = plan} {xs = xs} {ys = ys} h k = record {
  size = omega (arith, length-append xs ys, h.size, k.size);
  waiting = omega (arith, total-both (on_control plan) xs ys, h.waiting, k.waiting);
  apart = omega (arith, total-both (elsewhere plan) xs ys, h.apart, k.apart);
}

none_few : {plan : Settings} {a b c : ℕ} → AreFewActs plan [] a b c
none_few = record { size = omega arith; waiting = omega arith; apart = omega arith }

if_few : (plan : Settings) (b : Bool) (acts : List Act) (m n k : ℕ) → AreFewActs plan acts m n k →
    AreFewActs plan (if b then acts else []) m n k
if_few plan true acts m n k h = h
if_few plan false acts m n k h = none_few

-- copies of a PDU on the control slot, and elsewhere
copies_there : (n : ℕ) (plan : Settings) (pdu : Pdu) → AreFewActs plan (replicate n (Queue (control_slot plan.lists) pdu)) n n 0
copies_there zero plan pdu = none_few
copies_there (suc n) plan pdu =
    let h = copies_there n plan pdu in
    let e = itself (control_slot plan.lists) in
    record { size = omega (arith, h.size); waiting = rw e (omega (arith, h.waiting)); apart = rw e (omega (arith, h.apart)) }

copies_elsewhere : (n : ℕ) (plan : Settings) (slot : Slot) (pdu : Pdu) → is_slot slot (control_slot plan.lists) ≡ false
    → AreFewActs plan (replicate n (Queue slot pdu)) n 0 n
copies_elsewhere zero plan slot pdu e = none_few
copies_elsewhere (suc n) plan slot pdu e =
    let h = copies_elsewhere n plan slot pdu e in
    record { size = omega (arith, h.size); waiting = rw e (omega (arith, h.waiting)); apart = rw e (omega (arith, h.apart)) }

one_few : (plan : Settings) (pdu : Pdu) → AreFewActs plan (Queue (control_slot plan.lists) pdu ∷ []) 1 1 0
one_few plan pdu = copies_there 1 plan pdu

-- at most two acts, of which an acknowledgement or C_AHOY is the last
record AreShort (plan : Settings) (a b c : ℕ) : Type 0 where
  acked : (s t reason : ℕ) → AreFewActs plan (ack plan s t reason) a b c
  over : (r s t reason : ℕ) → AreFewActs plan (AskOver r ∷ ack plan s t reason) a b c
  unlined : (r s t reason : ℕ) → AreFewActs plan (Unlined r ∷ ack plan s t reason) a b c
  joined : (r s t reason : ℕ) → AreFewActs plan (Joined r ∷ ack plan s t reason) a b c
  lined : (l : Line) (s t reason : ℕ) → AreFewActs plan (Lined l ∷ ack plan s t reason) a b c

short : (plan : Settings) (a b c : ℕ) → fits 2 1 0 a b c ≡ true → AreShort plan a b c
short plan a b c fit =
    let k = within 2 1 0 a b c fit in
    let acked : (s t reason : ℕ) → AreFewActs plan (ack plan s t reason) a b c =
    λ s t reason. let h = one_few plan (Ackd 0 reason false s t) in
    record { size = omega (arith, h.size); waiting = omega (arith, h.waiting); apart = omega (arith, h.apart) } in
    let two : (act : Act) → on_control plan act ≡ 0 → elsewhere plan act ≡ 0 → (s t reason : ℕ) →
    AreFewActs plan (act ∷ ack plan s t reason) a b c =
    λ act x y s t reason. wider fit (plain act x y refl (one_few plan (Ackd 0 reason false s t))) in
    record {
      acked = acked;
      over = λ r. two (AskOver r) refl refl;
      unlined = λ r. two (Unlined r) refl refl;
      joined = λ r. two (Joined r) refl refl;
      lined = λ l. two (Lined l) refl refl;
    }

module _ (plan : Settings) (p : KnowsPlan plan) where
  grant_few : (call : Call) (late : Bool) → AreFewActs plan (grant plan call late) 4 4 0
  unfolding grant
  grant_few call late =
      let h = copies_there plan.calls.grant_copies plan (grant_pdu plan call late) in
      record {
        size = omega (arith, h.size, p.few_grants);
        waiting = omega (arith, h.waiting, p.few_grants);
        apart = omega (arith, h.apart);
      }

  begin_few : (call : Call) → AreFewActs plan (begin plan call) 5 4 0
  begin_few call = plain (Began call) refl refl refl (grant_few call false)

  clear_few : (now : Facts) (call : Call) → IsSound plan now → call_on now.calls call.slot ≡ Some call →
      AreFewActs plan (clear plan call) 5 0 4
  unfolding clear
  clear_few now call h stands =
      let on = call_is_active now.calls call.slot call stands in
      let pdu : Pdu = Clear (lpcn_of plan plan.lists.control) call.group call.target plan.system.tsi in
      let k = copies_elsewhere plan.calls.clear_copies plan call.slot pdu (h.calls.payload call.slot on.0).apart in
      let copies : AreFewActs plan (replicate plan.calls.clear_copies (Queue call.slot pdu)) 4 0 4 =
      record {
        size = omega (arith, k.size, p.few_clears);
        waiting = omega (arith, k.waiting);
        apart = omega (arith, k.apart, p.few_clears);
      } in
      plain (Ended call.slot) refl refl refl copies

  new_call_few : (now : Facts) (l : Line) → AreFewActs plan (acts_for_new_call plan now l) 5 4 0
  unfolding acts_for_new_call
  new_call_few now l =
      let k = short plan 5 4 0 refl in
      let begun : (call : Call) → AreFewActs plan (begin plan call) 5 4 0 = begin_few in
      grind (arith, k.acked, k.lined, begun)

  close_few : (now : Facts) (r : ℕ) → IsSound plan now → AreFewActs plan (close plan now r) 5 1 4
  unfolding close
  close_few now r h =
      let k = short plan 5 1 4 refl in
      let calls : (call : Call) → call_of now.calls r ≡ Some call → AreFewActs plan (clear plan call) 5 1 4 =
      λ call e. wider refl (clear_few now call h (found_is_active (is_party_to_call r) now.calls call h.calls.apart e)) in
      let asks : (q : ℕ) → AreFewActs plan (AskOver q ∷ []) 5 1 4 =
      λ q. plain (AskOver q) refl refl refl (none_few {a = 0} {b = 0} {c = 0}) in
      let lines : (q : ℕ) → AreFewActs plan (Unlined q ∷ []) 5 1 4 =
      λ q. plain (Unlined q) refl refl refl (none_few {a = 0} {b = 0} {c = 0}) in
      let none : AreFewActs plan [] 5 1 4 = none_few in
      grind (arith, calls, asks, k.over, lines, k.unlined, none)

  left_few : (r : ℕ) → AreFewActs plan (Left r ∷ []) 1 0 0
  left_few r = plain (Left r) refl refl refl (none_few {a = 0} {b = 0} {c = 0})

  leaving_few : (now : Facts) (q : Request) → IsSound plan now → AreFewActs plan (acts_for_leaving plan now q) 13 5 4
  unfolding acts_for_leaving
  leaving_few now q h =
      let left : AreFewActs plan (if is_registered now q.source then Left q.source ∷ [] else []) 1 0 0 =
      if_few plan _ _ 1 0 0 (left_few q.source) in
      wider refl (joint (joint (close_few now q.source h) left) (one_few plan (Ackd 0 0x60 false q.source q.target)))

  -- requests: seven acts would do
  module _ (now : Facts) (q : Request) where
    registration_few : IsSound plan now → AreFewActs plan (acts_for_registration plan now q) 13 5 4
    unfolding acts_for_registration
    registration_few h = let k = short plan 13 5 4 refl in let leaves = leaving_few now q h in grind (arith, leaves, k.acked, k.joined)

    talkgroup_few : AreFewActs plan (acts_for_talkgroup_request plan now q) 13 5 4
    unfolding acts_for_talkgroup_request
    talkgroup_few =
        let k = short plan 13 5 4 refl in
        let granted : (call : Call) (late : Bool) → AreFewActs plan (grant plan call late) 13 5 4 =
        λ call late. wider refl (grant_few call late) in
        let new : (l : Line) → AreFewActs plan (acts_for_new_call plan now l) 13 5 4 = λ l. wider refl (new_call_few now l) in
        grind (arith, k.acked, granted, new)

    individual_few : AreFewActs plan (acts_for_individual_request plan now q) 13 5 4
    unfolding acts_for_individual_request
    individual_few =
        let k = short plan 13 5 4 refl in
        let granted : (call : Call) (late : Bool) → AreFewActs plan (grant plan call late) 13 5 4 =
        λ call late. wider refl (grant_few call late) in
        let asked : (a b : Ask) (s t reason : ℕ) → AreFewActs plan (Asked a ∷ ack plan s t reason ++ ahoy plan b) 13 5 4 =
        λ a b s t reason. plain (Asked a) refl refl refl
        (joint (one_few plan (Ackd 0 reason false s t)) (one_few plan (Ahoy b.options false individual_voice b.target b.source))) in
        grind (arith, k.acked, granted, asked)

    cancel_few : AreFewActs plan (acts_for_cancel plan now q) 13 5 4
    unfolding acts_for_cancel
    cancel_few = let k = short plan 13 5 4 refl in grind (arith, k.acked, k.over, k.unlined)

    request_few : (flags kind : ℕ) → IsSound plan now → AreFewActs plan (acts_for_request plan now q flags kind) 13 5 4
    unfolding acts_for_request
    request_few flags kind h =
        let k = short plan 13 5 4 refl in
        let registers = registration_few h in
        grind (arith, k.acked, registers, talkgroup_few, individual_few, cancel_few)

  answered_few : (now : Facts) (reason called : ℕ) → AreFewActs plan (acts_for_called_radio plan now reason called) 13 5 4
  unfolding acts_for_called_radio
  answered_few now reason called =
      by_option (λ acts. AreFewActs plan acts 13 5 4) _ (ask_to now.asks called) [] (λ a k. plain (AskOver a.source) refl refl refl
      (by_if (λ acts. AreFewActs plan acts 5 4 0) (reason == 0x44) _ _
      (new_call_few now (record { source = a.source; target = a.target; group = false }))
      ((short plan 5 4 0 refl).acked a.source a.target 0x2E))) none_few

  pdu_few : (now : Facts) (pdu : Pdu) → IsSound plan now → AreFewActs plan (acts_for_pdu plan now pdu) 13 5 4
  unfolding acts_for_pdu
  pdu_few now (Random options flags kind target source) h = request_few now _ flags kind h
  pdu_few now (Acku info reason spare target additional) h = answered_few now reason additional
  pdu_few now _ h = none_few

  -- a tick: the call, ask and line that are due
  repeat_few : (due : Option Ask) → AreFewActs plan (acts_for_due_ask plan due) 2 1 0
  unfolding acts_for_due_ask
  repeat_few due =
      let k = short plan 2 1 0 refl in
      let again : (a b : Ask) → AreFewActs plan (Asked a ∷ ahoy plan b) 2 1 0 =
      λ a b. plain (Asked a) refl refl refl (one_few plan (Ahoy b.options false individual_voice b.target b.source)) in
      let none : AreFewActs plan [] 2 1 0 = none_few in
      grind (arith, again, k.over, none)

  serve_few : (now : Facts) (first : Option Line) → AreFewActs plan (acts_for_line plan now first) 6 4 0
  unfolding acts_for_line
  serve_few now first =
      by_option (λ acts. AreFewActs plan acts 6 4 0) _ first []
      (λ l e. by_option (λ acts. AreFewActs plan acts 6 4 0) _ (lowest_free plan now) []
      (λ slot d. plain (Unlined l.source) refl refl refl (begin_few (call_of_line l slot))) none_few) none_few

  ended_few : (now : Facts) (due : Option Slot) → IsSound plan now → AreFewActs plan (acts_for_due_call plan now.calls due) 5 0 4
  unfolding acts_for_due_call
  ended_few now due h =
      by_option (λ acts. AreFewActs plan acts 5 0 4) _ due []
      (λ slot e. by_option (λ acts. AreFewActs plan acts 5 0 4) _ (call_on now.calls slot) []
      (λ call k. clear_few now call h (found_is_active (λ s. is_slot s.call.slot slot) now.calls call h.calls.apart k)) none_few) none_few

  tick_few : (now : Facts) → IsSound plan now → AreFewActs plan (acts_for_tick plan now) 13 5 4
  unfolding acts_for_tick
  tick_few now h = joint (ended_few now _ h) (if_few plan (has_room plan now) _ 8 5 0 (joint (repeat_few _) (serve_few now _)))

  -- commands
  commanded_few : (now : Facts) (command : Command) → IsSound plan now → AreFewActs plan (answer_to_command plan now command).list 13 5 4
  unfolding answer_to_command
  commanded_few now (Drop r) h =
      by_drop (λ acts. AreFewActs plan acts 13 5 4) (is_registered now r) (has_room plan now) _ none_few
      (λ k. wider refl (joint (close_few now r h) (left_few r)))
  commanded_few now (End c s) h =
      let slot : Slot = record { carrier = c; slot = s } in
      by_end (λ acts. AreFewActs plan acts 13 5 4) (has_carrier plan c) _ (call_on now.calls slot) none_few
      (λ call k. wider refl (clear_few now call h (found_is_active (λ s. is_slot s.call.slot slot) now.calls call h.calls.apart k)))
  commanded_few now _ h = none_few

-- polls
sent_few : (plan : Settings) (now : Facts) (slot : Slot) (xs : List Pdu) → AreFewActs plan (acts_for_outbox plan now slot xs) 1 0 0
sent_few plan now slot [] =
    let fill : Act = Fill slot (next_fill plan now) in
    if_few plan (is_slot slot (control_slot plan.lists)) (fill ∷ []) 1 0 0 (plain fill refl refl refl (none_few {a = 0} {b = 0} {c = 0}))
sent_few plan now slot (pdu ∷ pdus) = plain (Send slot pdu) refl refl refl (none_few {a = 0} {b = 0} {c = 0})

polls_few : (plan : Settings) (now : Facts) (c : ℕ)
    → AreFewActs plan (acts_for_slot plan now (record { carrier = c; slot = 0 }) ++ acts_for_slot plan now
    (record { carrier = c; slot = 1 })) 2 0 0
unfolding acts_for_slot
polls_few plan now c =
    let first : Slot = record { carrier = c; slot = 0 } in
    let second : Slot = record { carrier = c; slot = 1 } in
    joint (sent_few plan now first (outbox now first)) (sent_few plan now second (outbox now second))

-- the limits of the answer to each event
pub acts_few : (plan : Settings) (now : Facts) (event : Event) → KnowsPlan plan → IsSound plan now
    → AreFewActs plan (acts_of plan now event) 13 5 4
acts_few plan now (Heard slot pdu) p h = if_few plan _ (acts_for_pdu plan now pdu) 13 5 4 (pdu_few plan p now pdu h)
acts_few plan now (Poll c) p h = if_few plan (is_up now c) _ 13 5 4 (wider refl (polls_few plan now c))
acts_few plan now Tick p h =
    tick_few plan p (record now { calls = map one_tick_older now.calls; asks = map ask_after_tick now.asks })
    (sound-noted plan now Tick p h)
acts_few plan now (Say command) p h = commanded_few plan p now command h
acts_few plan now _ p h = none_few
