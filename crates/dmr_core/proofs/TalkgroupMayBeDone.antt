-- The acts of new calls and of talkgroup requests may be done.
use Rattle.std.proofs.Common.{◌≡◌, ◌≤◌, ℕ, ◌∷◌, Bool, true, false, refl, arith, length}
use Rattle.std.specs.Prelude.{Some, None, find, option_map, if◌then◌else◌, ◌&&◌, ◌==◌, nat_lt}
use Rattle.std.proofs.lemmas.Bool.Decides.{nat_tests}
use Rattle.dmr_pdu.specs.declared.slots.Slot.{Slot}
use Rattle.dmr_plan.specs.declared.settings.Settings.{Settings}
use Rattle.dmr_plan.specs.Plan.{lists_group}
use Rattle.dmr_calls.specs.declared.line.Line.{Line}
use Rattle.dmr_calls.specs.declared.call.Call.{Call}
use Rattle.dmr_calls.specs.declared.call.ActiveCall.{ActiveCall}
use Rattle.dmr_calls.specs.Calls.{group_call, own_group_call}
use Rattle.dmr_pool.specs.Free.{is_empty}
use Rattle.dmr_core.specs.declared.request.Request.{Request}
use Rattle.dmr_core.specs.declared.act.Act.TheVariants.{Lined}
use Rattle.dmr_core.specs.Facts.{Facts}
use Rattle.dmr_core.specs.Words.{is_engaged, is_registered, lowest_free, slot_for_new_call}
use Rattle.dmr_core.specs.Rules.{ack, begin, call_of_line, grant, acts_for_new_call, acts_for_talkgroup_request}
use Rattle.dmr_core.specs.May.{AllMayDo, MayDo, MayEngage}
use Rattle.dmr_core.proofs.ChoiceLemmas.{lowest_is_free}
use Rattle.dmr_core.proofs.GrantsAreOwn.{found_is_active}
use Rattle.dmr_core.proofs.PartsMayBeDone.{MayAnswer, ack_after, ack_may, grant_may, begin_may, engage, lowest_small, few_with_free}

new_lowest : (plan : Settings) (now : Facts) (slot : Slot) → slot_for_new_call plan now ≡ Some slot → lowest_free plan now ≡ Some slot
new_lowest plan now slot h = chosen (is_empty now.lines) h
  where
    chosen : (b : Bool) → (if b then lowest_free plan now else None) ≡ Some slot → lowest_free plan now ≡ Some slot
    chosen true h = h
    chosen false h = cc

-- there is room for a grant in four copies
module _ (plan : Settings) (now : Facts) (n : ℕ) (c : MayAnswer plan now n) (four : 4 ≤ n) where
  acked : (source target reason : ℕ) → AllMayDo plan now (ack plan source target reason)
  acked = ack_may c (omega arith)

  -- the grant of a call that a test finds
  pub found_may : (p : ActiveCall → Bool) (call : Call) (late : Bool) →
      option_map (λ (x : ActiveCall). x.call) (find p now.calls) ≡ Some call
      → AllMayDo plan now (grant plan call late)
  found_may p call late k = grant_may c four call late (found_is_active p now.calls call c.sound.calls.apart k)

  pub new_call_may : (l : Line) → MayEngage plan now now.asks l.group l.source l.target → AllMayDo plan now (acts_for_new_call plan now l)
  unfolding acts_for_new_call
  new_call_may l engage =
      let begun : (slot : Slot) → slot_for_new_call plan now ≡ Some slot → AllMayDo plan now (begin plan (call_of_line l slot)) =
      λ slot k. let found = new_lowest plan now slot k in
      let free = lowest_is_free plan now slot found in
      let small = lowest_small plan now slot found in
      begin_may c four (call_of_line l slot)
      (record { free = free; small = small; few = few_with_free plan now slot c.known c.sound free small; engage = engage }) in
      let lined : nat_lt (length now.lines) 32 ≡ true → AllMayDo plan now (Lined l ∷ ack plan l.source l.target 0xA0) =
      λ few. let may : MayDo plan now (Lined l) = (c.up, grind (arith, nat_tests), engage) in
      ack_after c (omega arith) (Lined l) may refl l.source l.target 0xA0 in
      grind (arith, begun, lined, acked)

  pub talkgroup_may : (q : Request) → is_registered now q.source ≡ true → AllMayDo plan now (acts_for_talkgroup_request plan now q)
  unfolding acts_for_talkgroup_request
  talkgroup_may q registered =
      let own : (call : Call) → own_group_call now.calls q.source q.target ≡ Some call → AllMayDo plan now (grant plan call false) =
      λ call. found_may (λ s. (s.call.source == q.source) && (s.call.group && (s.call.target == q.target))) call false in
      let late : (call : Call) → group_call now.calls q.target ≡ Some call → AllMayDo plan now (grant plan call true) =
      λ call. found_may (λ s. s.call.group && (s.call.target == q.target)) call true in
      let line : Line = record { source = q.source; target = q.target; group = true } in
      let new : is_engaged now q.source ≡ false → lists_group plan q.target ≡ true → AllMayDo plan now (acts_for_new_call plan now line) =
      λ free listed. new_call_may line
      (engage plan now now.asks true q.source q.target c.sound (λ r. omega arith) (λ e. cc) registered (λ e. cc) free (λ e. cc)
      (λ g. listed)) in
      grind (arith, own, late, new, acked)
