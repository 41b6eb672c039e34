-- Fills and late entries: their conditions and effects.
use Rattle.std.proofs.Common.{◌≡◌, ℕ, Bool, true, false, List, subst, arith, refl, sym, inl, inr}
use Rattle.std.proofs.lemmas.Bool.{cases_Bool, cond_both}
use Rattle.std.specs.Prelude.{Option, Some, None, IfSome, ◌&&◌, not, is_some, option_map, unwrap_or, if◌then◌else◌}
use Rattle.dmr_pdu.specs.declared.slots.Slot.{Slot}
use Rattle.dmr_pdu.specs.declared.pdu.Pdu.{Pdu}
use Rattle.dmr_plan.specs.declared.settings.Settings.{Settings}
use Rattle.dmr_access.specs.Fill.{Window, aloha_pdu, fill_of, is_late_due, next_fill_count, window_of}
use Rattle.dmr_calls.specs.declared.call.Call.{Call}
use Rattle.dmr_calls.specs.declared.call.ActiveCall.{ActiveCall}
use Rattle.dmr_calls.specs.Calls.{call_on}
use Rattle.dmr_calls.proofs.Laws.{next_is_active}
use Rattle.dmr_pool.specs.Free.{control_slot}
use Rattle.dmr_core.specs.declared.event.Event.TheVariants.{Poll}
use Rattle.dmr_core.specs.declared.named.NamedSlot.{NamedSlot}
use Rattle.dmr_core.specs.declared.act.Act.TheVariants.{Fill}
use Rattle.dmr_core.specs.Facts.{Facts, facts_after_event}
use Rattle.dmr_core.specs.Late.{last_slot, next_call}
use Rattle.dmr_core.specs.Words.{is_up}
use Rattle.dmr_core.specs.Rules.{grant_pdu, late_entry, next_fill}
use Rattle.dmr_core.specs.Sound.{IsAccessSound, is_grant}
use Rattle.dmr_core.specs.May.{MayDo, MayName, late_entry_of_fill}
use Rattle.dmr_core.specs.Turns.{IsLateOf}
use Rattle.dmr_core.proofs.ListLemmas.{true_false}

-- Fills are counted and late entries noted only while the control carrier is up
pub access-filled : (up : Bool) (noise : List ℕ) (fills : ℕ) (late named : Option NamedSlot) → up ≡ true → IsAccessSound up noise fills late
    → IsAccessSound up noise (next_fill_count fills) named
access-filled up noise fills late named is_up h = record {
  noiseless = h.noiseless;
  window = h.window;
  counted = omega arith;
  unfilled = λ down. true_false _ is_up down;
  unnamed = λ down. true_false _ is_up down;
}

-- a talkgroup's grant is a grant
late_grant : (plan : Settings) (call : Call) → is_grant (grant_pdu plan call true) ≡ true
late_grant plan call = elim (cases_Bool call.group) [ inl e ↦ rw e refl | inr e ↦ rw e refl ]

-- the late entry, if the next Fill has one, is of an active talkgroup call
entry_is_active : (plan : Settings) (calls : List ActiveCall) (b : Bool) (o : Option Call)
    → IfSome o (λ call. (call_on calls call.slot ≡ Some call) × (call.group ≡ true))
    → IfSome (if b then option_map (λ (call : Call). grant_pdu plan call true) o else None) (IsLateOf plan calls)
entry_is_active plan calls true None none = tt
entry_is_active plan calls true (Some call) next = record { call = call; stands = next.0; group = next.1; is = refl }
entry_is_active plan calls false o next = tt

pub late_is_active : (plan : Settings) (now : Facts) → IfSome (late_entry plan now) (IsLateOf plan now.calls)
unfolding late_entry
late_is_active plan now =
    entry_is_active plan now.calls (is_late_due now.fills && not (is_some now.moving)) (next_call plan now)
    (next_is_active now.calls (last_slot plan now))

-- a Fill that is a grant is of an active call
late_names : (plan : Settings) (calls : List ActiveCall) (slot : Slot) (pdu : Pdu) → slot ≡ control_slot plan.lists →
    IsLateOf plan calls pdu
    → MayName plan calls slot pdu (is_grant pdu)
late_names plan calls slot pdu there late =
    subst (λ (p : Pdu). MayName plan calls slot p (is_grant p)) (sym late.is)
    (rw (late_grant plan late.call) (there, record { call = late.call; late = true; stands = late.stands; is = refl }))

fill_names : (plan : Settings) (calls : List ActiveCall) (slot : Slot) (w : Window) (moving : Option ℕ) (entry : Option Pdu)
    → slot ≡ control_slot plan.lists → IfSome entry (IsLateOf plan calls)
    → MayName plan calls slot (fill_of w moving entry) (is_grant (fill_of w moving entry))
fill_names plan calls slot w (Some lpcn) entry there late = tt
fill_names plan calls slot w None entry there late =
    cond_both (is_late_due w.fills) (unwrap_or entry (aloha_pdu w)) (aloha_pdu w) (λ pdu. MayName plan calls slot pdu (is_grant pdu))
    (λ e. named entry late) (λ e. tt)
  where
    named : (o : Option Pdu) → IfSome o (IsLateOf plan calls)
        → MayName plan calls slot (unwrap_or o (aloha_pdu w)) (is_grant (unwrap_or o (aloha_pdu w)))
    named None late = tt
    named (Some pdu) late = late_names plan calls slot pdu there late

-- a Fill is the late entry if there is one, and else not a grant
fill_entry : (plan : Settings) (w : Window) (moving : Option ℕ) (o : Option Call)
    → let entry : Option Pdu =
    if is_late_due w.fills && not (is_some moving) then option_map (λ (call : Call). grant_pdu plan call true) o else None in
    late_entry_of_fill (fill_of w moving entry) ≡ entry
fill_entry plan w (Some lpcn) o = grind arith
fill_entry plan w None None = elim (cases_Bool (is_late_due w.fills)) [ inl e ↦ rw e refl | inr e ↦ rw e refl ]
fill_entry plan w None (Some call) =
    elim (cases_Bool (is_late_due w.fills)) [ inl e ↦ rw e (rw (late_grant plan call) refl) | inr e ↦ rw e refl ]

-- the control slot may be filled at a Poll
pub fill_may : (plan : Settings) (now : Facts) (c : ℕ) (slot : Slot) → slot ≡ control_slot plan.lists → is_up now plan.lists.control ≡ true
    → MayDo plan (facts_after_event plan now (Poll c)) (Fill slot (next_fill plan now))
unfolding late_entry
fill_may plan now c slot there up = record {
  up = up;
  names = fill_names plan now.calls slot (window_of plan now.noise now.fills) now.moving (late_entry plan now) there
      (late_is_active plan now);
  late = fill_entry plan (window_of plan now.noise now.fills) now.moving (next_call plan now);
}
