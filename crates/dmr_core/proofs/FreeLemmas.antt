-- The slots that are free are those of the pool.
use Rattle.std.proofs.Common.{◌≡◌, ◌≤◌, ◌+◌, ℕ, zero, suc, List, [], ◌∷◌, Bool, true, false, refl, arith, map}
use Rattle.std.specs.Prelude.{not, cond, ◌&&◌, Option, Some, None}
use Rattle.std.specs.List.{list_any, find, range_with_len}
use Rattle.std.specs.Option.{option_map_or}
use Rattle.dmr_pdu.specs.declared.slots.Slot.{Slot}
use Rattle.dmr_pdu.specs.declared.pdu.Pdu.{Pdu}
use Rattle.dmr_plan.specs.declared.settings.Settings.{Settings}
use Rattle.dmr_plan.specs.declared.carriers.CarrierRow.{CarrierRow}
use Rattle.dmr_plan.specs.Carriers.{has_number_in, row_with}
use Rattle.dmr_pool.specs.Slots.{Slots, IsSlot, slot_at, box, is_up}
use Rattle.dmr_pool.specs.Free.{control_slot, is_control, is_empty, is_free as is_free_in, is_granted, lowest_free as lowest_free_in}
use Rattle.dmr_pool.specs.Free.{lowest_free_by, names}
use Rattle.dmr_core.specs.Facts.{Facts, has_carrier}
use Rattle.dmr_core.specs.Words.{is_free, lowest_free, lpcn_of}
use Rattle.dmr_core.specs.Held.{HoldsCalls}

no_row : (rows : List CarrierRow) (c : ℕ) → row_with rows c ≡ None → has_number_in rows c ≡ false
no_row [] c h = refl
no_row (row ∷ rows) c h = let more = no_row rows c in grind arith

-- a grant of a slot whose carrier the plan has names its channel
pub granted_known : (plan : Settings) (outboxes : List (List Pdu)) (slot : Slot) → has_carrier plan slot.carrier ≡ true
    → is_granted plan.lists outboxes slot ≡ list_any (names (lpcn_of plan slot.carrier) slot.slot) (box outboxes (control_slot plan.lists))
granted_known plan outboxes slot known = either (row_with plan.lists.carriers slot.carrier) (no_row plan.lists.carriers slot.carrier)
  where
    either : (found : Option CarrierRow) → (found ≡ None → has_number_in plan.lists.carriers slot.carrier ≡ false)
        → option_map_or (λ (row : CarrierRow). list_any (names row.lpcn slot.slot) (box outboxes (control_slot plan.lists))) found false
        ≡ list_any (names (option_map_or (λ (row : CarrierRow). row.lpcn) found 1) slot.slot) (box outboxes (control_slot plan.lists))
    either (Some row) none = refl
    either None none = let no : has_number_in plan.lists.carriers slot.carrier ≡ false = none refl in absurd (cc (known, no))

-- the first that passes is the same if the tests are
same_find : (p q : Slot → Bool) (from n : ℕ) → from + n ≤ 32 → ((s : Slot) → IsSlot s → p s ≡ q s) →
    find p (map slot_at (range_with_len from n)) ≡ find q (map slot_at (range_with_len from n))
same_find p q from zero within same = refl
same_find p q from (suc n) within same =
    let here : p (slot_at from) ≡ q (slot_at from) = same (slot_at from) (omega arith, omega arith) in
    let later = same_find p q (from + 1) n (omega arith) same in
    (λ k. cond (here k) (Some (slot_at from)) (later k))

-- a pool that has the lists of the plan, the carriers up and the outboxes of the site, and holds the slots of its calls
module _ (plan : Settings) (now : Facts) (pool : Slots) (lists_are : pool.lists ≡ plan.lists) (up_is : pool.up ≡ now.up)
    (outboxes_are : pool.outboxes ≡ now.outboxes) (holds : HoldsCalls pool.held now.calls) where
  pub pool_free : (slot : Slot) → IsSlot slot → is_free_in pool slot ≡ is_free plan now slot
  pool_free slot is =
      λ k. has_number_in (lists_are k).carriers slot.carrier && is_up (up_is k) slot.carrier && not (is_control (lists_are k) slot)
      && not (holds slot is k) && is_empty (box (outboxes_are k) slot) && not (is_granted (lists_are k) (outboxes_are k) slot)

  pub pool_lowest : lowest_free_in pool ≡ lowest_free plan now
  unfolding lowest_free_by
  pool_lowest = same_find (is_free_in pool) (is_free plan now) 0 32 (omega arith) pool_free
