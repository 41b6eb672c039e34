-- The bits remain those of the free slots.
use Rattle.std.proofs.Common.{arith, ◌≡◌, ◌≢◌, ℕ, ◌+◌, ◌<◌, ◌≤◌, ◌⊎◌, inl, inr, Bool, true, false, refl, sym, ap, ◌∙◌, subst}
use Rattle.std.proofs.Common.{List, [], ◌∷◌, ◌++◌, replicate, length, slice_set, eqb-true}
use Rattle.std.specs.Prelude.{not, cond, ◌&&◌, ◌==◌, nat_lt, slice_get, Option, Some, None, MatchOption}
use Rattle.std.proofs.lemmas.Bool.{cases_lt, eqb-false, ne_eqb}
use Rattle.std.proofs.lemmas.Bool.Decides.{nat_tests}
use Rattle.std.proofs.lemmas.List.{get_or-set_same, get_or-set_other}
use Rattle.dmr_pdu.specs.declared.slots.Slot.{Slot}
use Rattle.dmr_pdu.specs.declared.pdu.Pdu.{Pdu}
use Rattle.dmr_plan.specs.declared.sections.ListSection.{ListSection}
use Rattle.dmr_plan.specs.Carriers.{has_number_in}
use Rattle.dmr_plan.specs.Sections.{IsListSection}
use Rattle.dmr_pool.specs.Slots.{Slots, IsSlot, place, slot_at, box, is_up, is_slot_held, outboxes_with_pdu, outboxes_after_send}
use Rattle.dmr_pool.specs.Free.{is_control, is_empty, is_free, is_free_by, is_granted, HasNoFreeSlot, IsLowestFree}
use Rattle.dmr_pool.specs.Marks.{AreMarked, HasNoBit, IsLowestBit, IsSet, has_bit}
use Rattle.dmr_pool.specs.Grants.{AreOutboxes, grants_of, is_this, slot_counted}
use Rattle.dmr_pool.proofs.FreeLemmas.{slot_at-place}
use Rattle.dmr_pool.proofs.GrantLemmas.{granted_count, grants_queued, grants_sent, same_anywhere, this_at, this_itself}
use Rattle.std.proofs.Math.Bool.{and-false}
use Rattle.dmr_pdu.proofs.ListLaws.{place-slot_at}

-- the slot of the lowest bit is the lowest that is free
pub marked_lowest : (bits : ℕ) (slots : Slots) (found : Option Slot) → AreMarked bits slots
    → MatchOption found (HasNoBit bits) (IsLowestBit bits) → MatchOption found (HasNoFreeSlot slots) (IsLowestFree slots)
marked_lowest bits slots None marked none =
    λ slot is. subst (λ (s : Slot). is_free slots s ≡ false) (slot_at-place slot is) (sym (marked (place slot) (omega (arith, is.0, is.1)))
    ∙ none (place slot) (omega (arith, is.0, is.1)))
marked_lowest bits slots (Some slot) marked lowest = record {
  within = lowest.within;
  free = subst (λ (s : Slot). is_free slots s ≡ true) (slot_at-place slot lowest.within)
      (sym (marked (place slot) (omega (arith, lowest.within.0, lowest.within.1))) ∙ lowest.set);
  lowest = λ other is below. subst (λ (s : Slot). is_free slots s ≡ false) (slot_at-place other is)
      (sym (marked (place other) (omega (arith, is.0, is.1))) ∙ lowest.lowest (place other) below);
}

-- a slot is free exactly if its bit is set
pub marked_free : (bits : ℕ) (slots : Slots) (slot : Slot) → IsSlot slot → AreMarked bits slots
    → has_bit bits (place slot) ≡ is_free slots slot
marked_free bits slots slot is marked = marked (place slot) (omega (arith, is.0, is.1)) ∙ ap (is_free slots) (slot_at-place slot is)

-- one bit is written, and the others are unchanged
pub one_set : (before after : ℕ) (old new : Slots) (slot : Slot) (b : Bool) → IsSlot slot → AreMarked before old
    → IsSet before after (place slot) b → b ≡ is_free new slot
    → ((k : ℕ) → k < 32 → k ≢ place slot → is_free old (slot_at k) ≡ is_free new (slot_at k)) → AreMarked after new
one_set before after old new slot b is marked put told others k below = either (k == place slot) refl
  where
    either : (t : Bool) → (k == place slot) ≡ t → has_bit after k ≡ is_free new (slot_at k)
    either true e =
        let there : place slot ≡ k = sym (eqb-true k (place slot) e) in
        subst (λ n. has_bit after n ≡ is_free new (slot_at n)) there (put.there ∙ told ∙ ap (is_free new) (sym (slot_at-place slot is)))
    either false e =
        let apart : k ≢ place slot = eqb-false k (place slot) e in
        put.others k below apart ∙ marked k below ∙ others k below apart

-- two bits are written
pub two_set : (before between after : ℕ) (old new : Slots) (a b : Slot) (u v : Bool) → IsSlot a → IsSlot b → AreMarked before old
    → IsSet before between (place a) u → IsSet between after (place b) v
    → u ≡ is_free new a → v ≡ is_free new b
    → ((k : ℕ) → k < 32 → k ≢ place a → k ≢ place b → is_free old (slot_at k) ≡ is_free new (slot_at k)) → AreMarked after new
two_set before between after old new a b u v is_a is_b marked first second told_a told_b others k below =
    either (k == place b) (k == place a) refl refl
  where
    either : (s t : Bool) → (k == place b) ≡ s → (k == place a) ≡ t → has_bit after k ≡ is_free new (slot_at k)
    either true t e d =
        let there : place b ≡ k = sym (eqb-true k (place b) e) in
        subst (λ n. has_bit after n ≡ is_free new (slot_at n)) there (second.there ∙ told_b ∙ ap (is_free new) (sym (slot_at-place b is_b)))
    either false true e d =
        let there : place a ≡ k = sym (eqb-true k (place a) d) in
        second.others k below (eqb-false k (place b) e)
        ∙ subst (λ n. has_bit between n ≡ is_free new (slot_at n)) there (first.there ∙ told_a
        ∙ ap (is_free new) (sym (slot_at-place a is_a)))
    either false false e d =
        second.others k below (eqb-false k (place b) e) ∙ first.others k below (eqb-false k (place a) d) ∙ marked k below
        ∙ others k below (eqb-false k (place a) d) (eqb-false k (place b) e)

-- a slot is not free in each of these cases
pub down_not_free : (lists : ListSection) (up : List Bool) (outboxes : List (List Pdu)) (holds : Slot → Bool) (slot : Slot)
    → is_up up slot.carrier ≡ false → is_free_by lists up outboxes holds slot ≡ false
down_not_free lists up outboxes holds slot h = rw (h, and-false (has_number_in lists.carriers slot.carrier)) refl

pub held_not_free : (lists : ListSection) (up : List Bool) (outboxes : List (List Pdu)) (holds : Slot → Bool) (slot : Slot)
    → holds slot ≡ true → is_free_by lists up outboxes holds slot ≡ false
held_not_free lists up outboxes holds slot h =
    rw (h, and-false (has_number_in lists.carriers slot.carrier && is_up up slot.carrier && not (is_control lists slot))) refl

pub waiting_not_free : (lists : ListSection) (up : List Bool) (outboxes : List (List Pdu)) (holds : Slot → Bool) (slot : Slot)
    → is_empty (box outboxes slot) ≡ false → is_free_by lists up outboxes holds slot ≡ false
waiting_not_free lists up outboxes holds slot h =
    rw (
      h,
      and-false (has_number_in lists.carriers slot.carrier && is_up up slot.carrier && not (is_control lists slot) && not
          (holds slot)),
    )
    refl

pub granted_not_free : (lists : ListSection) (up : List Bool) (outboxes : List (List Pdu)) (holds : Slot → Bool) (slot : Slot)
    → is_granted lists outboxes slot ≡ true → is_free_by lists up outboxes holds slot ≡ false
granted_not_free lists up outboxes holds slot h =
    rw (
      h,
      and-false (has_number_in lists.carriers slot.carrier && is_up up slot.carrier && not (is_control lists slot) && not (holds slot)
          && is_empty (box outboxes slot)),
    ) refl

-- a slot is as free as before if its call, its outbox and its waiting grants are as before
pub free_as_before : (lists : ListSection) (up : List Bool) (old new : List (List Pdu)) (holds holding : Slot → Bool) (slot : Slot)
    → holds slot ≡ holding slot → box old slot ≡ box new slot → is_granted lists old slot ≡ is_granted lists new slot
    → is_free_by lists up old holds slot ≡ is_free_by lists up new holding slot
free_as_before lists up old new holds holding slot held boxes granted =
    λ i. has_number_in lists.carriers slot.carrier && is_up up slot.carrier && not (is_control lists slot) && not (held i)
    && is_empty (boxes i) && not (granted i)

-- a held slot among others
pub held_there : (held : List Bool) (slot : Slot) (b : Bool) → IsSlot slot → length held ≡ 32
    → is_slot_held (slice_set held (place slot) b) slot ≡ b
held_there held slot b is size = get_or-set_same held (place slot) b false (omega (arith, is.0, is.1))

pub held_elsewhere : (held : List Bool) (slot : Slot) (b : Bool) (k : ℕ) → k ≢ place slot
    → is_slot_held held (slot_at k) ≡ is_slot_held (slice_set held (place slot) b) (slot_at k)
held_elsewhere held slot b k apart = sym (get_or-set_other held (place slot) (place (slot_at k)) b false (λ e. apart (omega (arith, e))))

-- no carrier is up at first
pub none_free : (bits : ℕ) (lists : ListSection) (held : List Bool) (outboxes : List (List Pdu)) → HasNoBit bits
    → AreMarked bits (record { lists = lists; up = replicate 16 false; held = held; outboxes = outboxes })
none_free bits lists held outboxes none k below = none k below
    ∙ sym (down_not_free lists (replicate 16 false) outboxes (is_slot_held held) (slot_at k) (same_anywhere false 16 ((slot_at k).carrier)))

-- the bit of one more place is right
pub one_more : (before after : ℕ) (slots : Slots) (slot : Slot) (b : Bool) (n : ℕ) → slot ≡ slot_at n → n < 32
    → IsSet before after (place slot) b → b ≡ is_free slots slot
    → ((k : ℕ) → k < n → has_bit before k ≡ is_free slots (slot_at k)) → (k : ℕ) → k < n + 1 → has_bit after k ≡ is_free slots (slot_at k)
one_more before after slots slot b n at within put told marked k below = either (cases_lt k n)
  where
    there : place slot ≡ n
    there = ap place at ∙ place-slot_at n

    either : (k < n) ⊎ (n ≤ k) → has_bit after k ≡ is_free slots (slot_at k)
    either (inl less) = put.others k (omega (arith, less, within)) (λ e. absurd (omega (arith, e, there, less))) ∙ marked k less
    either (inr no_less) =
        let same : n ≡ k = omega arith in
        subst (λ m. has_bit after m ≡ is_free slots (slot_at m)) same (subst (λ m. has_bit after m ≡ b) there put.there ∙ told
        ∙ ap (is_free slots) at)

-- a call holds a slot, or holds it no longer
pub reheld : (before after : ℕ) (lists : ListSection) (up held : List Bool) (outboxes : List (List Pdu)) (slot : Slot) (i : ℕ)
    (holds b : Bool) → i ≡ place slot → IsSlot slot
    → AreMarked before (record { lists = lists; up = up; held = held; outboxes = outboxes }) → IsSet before after (place slot) b
    → b ≡ is_free (record { lists = lists; up = up; held = slice_set held i holds; outboxes = outboxes }) slot
    → AreMarked after (record { lists = lists; up = up; held = slice_set held i holds; outboxes = outboxes })
reheld before after lists up held outboxes slot i holds b at is marked put told =
    one_set before after (record { lists = lists; up = up; held = held; outboxes = outboxes })
    (record { lists = lists; up = up; held = slice_set held i holds; outboxes = outboxes }) slot b is marked put told
    (λ k below apart. free_as_before lists up outboxes outboxes (is_slot_held held) (is_slot_held (slice_set held i holds)) (slot_at k)
    (subst (λ n. is_slot_held held (slot_at k) ≡ is_slot_held (slice_set held n holds) (slot_at k)) (sym at)
    (held_elsewhere held slot holds k apart)) refl refl)

pub now_held : (lists : ListSection) (up held : List Bool) (outboxes : List (List Pdu)) (slot : Slot) (i : ℕ) → i ≡ place slot
    → IsSlot slot → length held ≡ 32
    → false ≡ is_free (record { lists = lists; up = up; held = slice_set held i true; outboxes = outboxes }) slot
now_held lists up held outboxes slot i at is size =
    sym (held_not_free lists up outboxes (is_slot_held (slice_set held i true)) slot
    (subst (λ n. is_slot_held (slice_set held n true) slot ≡ true) (sym at) (held_there held slot true is size)))

-- a grant waits as before if as many do
granted_same : (lists : ListSection) (old new : List (List Pdu)) (slot : Slot) → grants_of lists old slot ≡ grants_of lists new slot
    → is_granted lists old slot ≡ is_granted lists new slot
granted_same lists old new slot e = granted_count lists old slot ∙ ap (nat_lt 0) e ∙ sym (granted_count lists new slot)

more_wait : (xs : List Pdu) (x : Pdu) → is_empty (xs ++ x ∷ []) ≡ false
more_wait [] x = refl
more_wait (y ∷ ys) x = refl

-- the bits after a PDU was added, or removed
module _ (lists : ListSection) (up held : List Bool) (old : List (List Pdu)) (slot : Slot) (pdu : Pdu) (are_lists : IsListSection lists)
    (kept : AreOutboxes old) (is : IsSlot slot) where
  abbrev pub stands : List (List Pdu) → Slots
  stands outboxes = record { lists = lists; up = up; held = held; outboxes = outboxes }

  within : place slot < length old
  within = omega (arith, kept.size, is.0, is.1)

  elsewhere : (k : ℕ) (xs : List Pdu) → k ≢ place slot → box old (slot_at k) ≡ box (slice_set old (place slot) xs) (slot_at k)
  elsewhere k xs apart = sym (get_or-set_other old (place slot) (place (slot_at k)) xs [] (λ e. apart (sym (place-slot_at k) ∙ e)))

  queued_same : (k : ℕ) → k ≢ place slot → is_this (slot_counted lists slot pdu) (slot_at k) ≡ false
      → is_free (stands old) (slot_at k) ≡ is_free (stands (outboxes_with_pdu old slot pdu)) (slot_at k)
  queued_same k apart none =
      free_as_before lists up old (outboxes_with_pdu old slot pdu) (is_slot_held held) (is_slot_held held) (slot_at k) refl
      (elsewhere k _ apart)
      (granted_same lists old (outboxes_with_pdu old slot pdu) (slot_at k)
      (sym (grants_queued lists are_lists old slot pdu is within (slot_at k)
      ∙ ap (λ b. grants_of lists old (slot_at k) + cond b 1 0) none ∙ omega arith)))

  sent_same : (k : ℕ) → k ≢ place slot → slice_get (box old slot) 0 ≡ Some pdu → is_this (slot_counted lists slot pdu) (slot_at k) ≡ false
      → is_free (stands old) (slot_at k) ≡ is_free (stands (outboxes_after_send old slot)) (slot_at k)
  sent_same k apart first none =
      free_as_before lists up old (outboxes_after_send old slot) (is_slot_held held) (is_slot_held held) (slot_at k) refl
      (elsewhere k _ apart)
      (granted_same lists old (outboxes_after_send old slot) (slot_at k)
      (grants_sent lists are_lists old slot pdu is within first (slot_at k)
      ∙ ap (λ b. grants_of lists (outboxes_after_send old slot) (slot_at k) + cond b 1 0) none ∙ omega arith))

  other_this : (granted : Slot) (k : ℕ) → slot_counted lists slot pdu ≡ Some granted → IsSlot granted → k ≢ place granted
      → is_this (slot_counted lists slot pdu) (slot_at k) ≡ false
  other_this granted k one is_granted apart = ap (λ (t : Option Slot). is_this t (slot_at k)) one ∙ this_at granted k is_granted.1
      ∙ ne_eqb k (place granted) apart

  no_this : (k : ℕ) → slot_counted lists slot pdu ≡ None → is_this (slot_counted lists slot pdu) (slot_at k) ≡ false
  no_this k none = ap (λ (t : Option Slot). is_this t (slot_at k)) none

  waits_now : false ≡ is_free (stands (outboxes_with_pdu old slot pdu)) slot
  waits_now = sym (waiting_not_free lists up (outboxes_with_pdu old slot pdu) (is_slot_held held) slot
      (ap is_empty (get_or-set_same old (place slot) (box old slot ++ pdu ∷ []) [] within) ∙ more_wait (box old slot) pdu))

  granted_now : (granted : Slot) → slot_counted lists slot pdu ≡ Some granted
      → false ≡ is_free (stands (outboxes_with_pdu old slot pdu)) granted
  granted_now granted one =
      let more : grants_of lists (outboxes_with_pdu old slot pdu) granted ≡ grants_of lists old granted + 1 =
      grants_queued lists are_lists old slot pdu is within granted
      ∙ ap (λ (t : Option Slot). grants_of lists old granted + cond (is_this t granted) 1 0) one
      ∙ ap (λ b. grants_of lists old granted + cond b 1 0) (this_itself granted) in
      sym (granted_not_free lists up (outboxes_with_pdu old slot pdu) (is_slot_held held) granted
      (granted_count lists (outboxes_with_pdu old slot pdu) granted ∙ ap (nat_lt 0) more ∙ positive (grants_of lists old granted)))
    where
      positive : (n : ℕ) → nat_lt 0 (n + 1) ≡ true
      positive n = grind (arith, nat_tests)

  pub put_none : (before after : ℕ) → AreMarked before (stands old) → IsSet before after (place slot) false
      → slot_counted lists slot pdu ≡ None → AreMarked after (stands (outboxes_with_pdu old slot pdu))
  put_none before after marked put none =
      one_set before after (stands old) (stands (outboxes_with_pdu old slot pdu)) slot false is marked put waits_now
      (λ k below apart. queued_same k apart (no_this k none))

  pub added_one : (before between after : ℕ) (granted : Slot) → IsSlot granted → AreMarked before (stands old)
      → IsSet before between (place slot) false → IsSet between after (place granted) false → slot_counted lists slot pdu ≡ Some granted
      → AreMarked after (stands (outboxes_with_pdu old slot pdu))
  added_one before between after granted is_granted marked first second one =
      two_set before between after (stands old) (stands (outboxes_with_pdu old slot pdu)) slot granted false false is is_granted marked
      first second waits_now (granted_now granted one)
      (λ k below apart there. queued_same k apart (other_this granted k one is_granted there))

  pub took_none : (before after : ℕ) (b : Bool) → slice_get (box old slot) 0 ≡ Some pdu → AreMarked before (stands old)
      → IsSet before after (place slot) b → b ≡ is_free (stands (outboxes_after_send old slot)) slot → slot_counted lists slot pdu ≡ None
      → AreMarked after (stands (outboxes_after_send old slot))
  took_none before after b first marked put told none =
      one_set before after (stands old) (stands (outboxes_after_send old slot)) slot b is marked put told
      (λ k below apart. sent_same k apart first (no_this k none))

  pub removed_one : (before between after : ℕ) (granted : Slot) (u v : Bool) → slice_get (box old slot) 0 ≡ Some pdu → IsSlot granted
      → AreMarked before (stands old) → IsSet before between (place slot) u → IsSet between after (place granted) v
      → u ≡ is_free (stands (outboxes_after_send old slot)) slot → v ≡ is_free (stands (outboxes_after_send old slot)) granted
      → slot_counted lists slot pdu ≡ Some granted → AreMarked after (stands (outboxes_after_send old slot))
  removed_one before between after granted u v head is_granted marked first second told there_told one =
      two_set before between after (stands old) (stands (outboxes_after_send old slot)) slot granted u v is is_granted marked first second
      told there_told (λ k below apart there. sent_same k apart head (other_this granted k one is_granted there))
