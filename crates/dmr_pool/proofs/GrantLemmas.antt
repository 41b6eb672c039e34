-- The counts remain those of the waiting grants.
use Rattle.std.proofs.Common.{arith, ◌≡◌, ◌≢◌, ℕ, zero, suc, ◌+◌, ◌-◌, ◌*◌, ◌<◌, ◌≤◌, ◌⊎◌, inl, inr, Bool, true, false, refl, sym, ap, ◌∙◌}
use Rattle.std.proofs.Common.{subst, List, [], ◌∷◌, ◌++◌, map, drop, replicate, length, slice_set, eqb-true, zero-add, length-append}
use Rattle.std.proofs.Common.{length-drop, length-set}
use Rattle.std.specs.Prelude.{cond, ◌&&◌, ◌||◌, ◌==◌, ◌/◌, ◌%◌, if◌then◌else◌, nat_lt, Option, Some, None, option_map, slice_get}
use Rattle.std.specs.Prelude.{slice_index_or}
use Rattle.std.specs.List.{All, list_any, find, count_by}
use Rattle.std.specs.Option.{option_map_or}
use Rattle.std.proofs.lemmas.Bool.{and_parts, cases_lt, or_from, or_parts, eqb-false}
use Rattle.std.proofs.lemmas.Bool.Decides.{nat_tests}
use Rattle.std.proofs.lemmas.List.{get_or_past, get_or-set_same, get_or-set_other}
use Rattle.std.proofs.lemmas.List.Elements.{All-get_or, All-replicate, All-set}
use Rattle.std.proofs.lemmas.List.Sums.{sum_by_push, sum_by-cons, count_by-le-length}
use Rattle.dmr_pdu.specs.declared.slots.Slot.{Slot}
use Rattle.dmr_pdu.specs.declared.pdu.Pdu.{Pdu}
use Rattle.dmr_pdu.specs.declared.pdu.Pdu.TheVariants.{PvGrant, TvGrant}
use Rattle.dmr_plan.specs.declared.sections.ListSection.{ListSection}
use Rattle.dmr_plan.specs.declared.carriers.CarrierRow.{CarrierRow}
use Rattle.dmr_plan.specs.Carriers.{row_with}
use Rattle.dmr_plan.specs.Lists.{has_repeat}
use Rattle.dmr_plan.specs.Sections.{IsListSection}
use Rattle.dmr_pool.specs.Slots.{IsSlot, box, outboxes_without_carrier, place, outboxes_with_pdu, outboxes_after_send, slot_at}
use Rattle.dmr_pool.specs.Free.{control_slot, is_control, is_granted, names}
use Rattle.dmr_pool.specs.Grants.{AreCounted, AreOutboxes, IsOneMore, grants_of, is_this, slot_counted, slot_granted, slot_on_channel}
use Rattle.dmr_pool.proofs.FreeLemmas.{slot_at-place}

-- ---- the slot that a PDU grants

-- a number that no two carriers have, and a test whether a carrier has it
module _ (f : CarrierRow → ℕ) (n : ℕ) (p : CarrierRow → Bool) (is_n : (row : CarrierRow) → p row ≡ (f row == n))
    (q : CarrierRow → Bool) where
  none_any : (rows : List CarrierRow) → list_any (λ m. m == n) (map f rows) ≡ false → list_any (λ row. p row && q row) rows ≡ false
  none_any [] h = refl
  none_any (row ∷ rows) h =
      let parts = or_parts _ _ h in
      or_from _ _ (ap (λ b. b && q row) (is_n row ∙ parts.0)) (none_any rows parts.1)

  -- the carrier with the number passes another test exactly if a carrier passes both
  found_any : (rows : List CarrierRow) → has_repeat (map f rows) ≡ false
      → option_map_or q (find p rows) false ≡ list_any (λ row. p row && q row) rows
  found_any [] h = refl
  found_any (row ∷ rows) h =
      let parts = or_parts _ _ h in
      either (p row) refl parts.0 (found_any rows parts.1)
    where
      or_no : (b : Bool) → b ≡ (b || false)
      or_no true = refl
      or_no false = refl

      either : (b : Bool) → p row ≡ b → list_any (λ m. m == f row) (map f rows) ≡ false
          → option_map_or q (find p rows) false ≡ list_any (λ r. p r && q r) rows
          → option_map_or q (cond b (Some row) (find p rows)) false ≡ ((b && q row) || list_any (λ r. p r && q r) rows)
      either true e others more =
          let it : f row ≡ n = eqb-true (f row) n (sym (is_n row) ∙ e) in
          let none = none_any rows (subst (λ m. list_any (λ k. k == m) (map f rows) ≡ false) it others) in
          or_no (q row) ∙ ap (λ b. q row || b) (sym none)
      either false e others more = more

-- three tests of each carrier, in another order
exchanged : (p q : CarrierRow → Bool) (b : Bool) (rows : List CarrierRow)
    → list_any (λ row. p row && (q row && b)) rows ≡ list_any (λ row. q row && (p row && b)) rows
exchanged p q b [] = refl
exchanged p q b (row ∷ rows) = λ i. ands (p row) (q row) i || exchanged p q b rows i
  where
    ands : (x y : Bool) → (x && (y && b)) ≡ (y && (x && b))
    ands true true = refl
    ands true false = refl
    ands false true = refl
    ands false false = refl

this_found : (found : Option CarrierRow) (number : ℕ) (slot : Slot)
    → option_map_or (λ (r : CarrierRow). (r.number == slot.carrier) && (number == slot.slot)) found false
    ≡ is_this (option_map (λ (r : CarrierRow). record { carrier = r.number; slot = number }) found) slot
this_found None number slot = refl
this_found (Some r) number slot = refl

-- a grant that names a slot of the carrier with this row, if there is one
abbrev pub named : Option CarrierRow → Slot → Pdu → Bool
named found slot pdu = option_map_or (λ (row : CarrierRow). names row.lpcn slot.slot pdu) found false

never : (found : Option CarrierRow) → option_map_or (λ (row : CarrierRow). false) found false ≡ false
never None = refl
never (Some row) = refl

module _ (lists : ListSection) (are_lists : IsListSection lists) (slot : Slot) where
  named_tuned : (channel number : ℕ)
      → option_map_or (λ (row : CarrierRow). (channel == row.lpcn) && (number == slot.slot)) (row_with lists.carriers slot.carrier) false
      ≡ is_this (slot_on_channel lists channel number) slot
  named_tuned channel number =
      found_any (λ row. row.number) slot.carrier (λ row. row.number == slot.carrier) (λ row. refl)
      (λ row. (channel == row.lpcn) && (number == slot.slot)) lists.carriers are_lists.carriers.apart.numbers
      ∙ exchanged (λ row. row.number == slot.carrier) (λ row. channel == row.lpcn) (number == slot.slot) lists.carriers
      ∙ sym (found_any (λ row. row.lpcn) channel (λ row. channel == row.lpcn) (λ row. turned channel row.lpcn)
      (λ row. (row.number == slot.carrier) && (number == slot.slot)) lists.carriers are_lists.carriers.apart.lpcns)
      ∙ this_found (find (λ (row : CarrierRow). channel == row.lpcn) lists.carriers) number slot
    where
      turned : (m n : ℕ) → (m == n) ≡ (n == m)
      turned m n = grind (arith, nat_tests)

  -- a PDU names the slot that it grants, and no other
  pub named_granted : (pdu : Pdu) → named (row_with lists.carriers slot.carrier) slot pdu ≡ is_this (slot_granted lists pdu) slot
  named_granted (PvGrant channel number target source) = named_tuned channel number
  named_granted (TvGrant channel number late target source) = named_tuned channel number
  named_granted _ = never (row_with lists.carriers slot.carrier)

-- ---- the grants of a slot among PDUs

-- the number of those of a slot of the carrier with this row, if there is one
abbrev counted : Option CarrierRow → Slot → List Pdu → ℕ
counted found slot xs = option_map_or (λ (row : CarrierRow). count_by (names row.lpcn slot.slot) xs) found 0

in_more : (found : Option CarrierRow) (slot : Slot) (xs : List Pdu) (pdu : Pdu)
    → counted found slot (xs ++ pdu ∷ []) ≡ counted found slot xs + cond (named found slot pdu) 1 0
in_more None slot xs pdu = refl
in_more (Some row) slot xs pdu = sum_by_push (λ y. cond (names row.lpcn slot.slot y) 1 0) xs pdu

in_less : (found : Option CarrierRow) (slot : Slot) (xs : List Pdu) (pdu : Pdu) → slice_get xs 0 ≡ Some pdu
    → counted found slot xs ≡ counted found slot (drop 1 xs) + cond (named found slot pdu) 1 0
in_less None slot xs pdu first = refl
in_less (Some row) slot xs pdu first = less (names row.lpcn slot.slot) xs pdu first
  where
    less : (p : Pdu → Bool) (ys : List Pdu) (y : Pdu) → slice_get ys 0 ≡ Some y → count_by p ys ≡ count_by p (drop 1 ys) + cond (p y) 1 0
    less p [] y h = cc
    less p (z ∷ zs) y h = let same : z ≡ y = cc in sum_by-cons (λ x. cond (p x) 1 0) z zs ∙ (rw same (omega arith))

in_few : (found : Option CarrierRow) (slot : Slot) (xs : List Pdu) → counted found slot xs ≤ length xs
in_few None slot xs = omega arith
in_few (Some row) slot xs = count_by-le-length (names row.lpcn slot.slot) xs

in_none : (found : Option CarrierRow) (slot : Slot) → counted found slot [] ≡ 0
in_none None slot = refl
in_none (Some row) slot = refl

-- a grant waits exactly if the number of those that wait is not 0
some_count : (p : Pdu → Bool) (xs : List Pdu) → list_any p xs ≡ nat_lt 0 (count_by p xs)
some_count p [] = refl
some_count p (x ∷ xs) = either (p x) (some_count p xs) ∙ ap (nat_lt 0) (sym (sum_by-cons (λ y. cond (p y) 1 0) x xs))
  where
    positive : (n : ℕ) → true ≡ nat_lt 0 (1 + n)
    positive n = grind (arith, nat_tests)

    either : (b : Bool) → list_any p xs ≡ nat_lt 0 (count_by p xs) → (b || list_any p xs) ≡ nat_lt 0 (cond b 1 0 + count_by p xs)
    either true more = positive (count_by p xs)
    either false more = more ∙ ap (nat_lt 0) (sym (zero-add (count_by p xs)))

pub granted_count : (lists : ListSection) (outboxes : List (List Pdu)) (slot : Slot)
    → is_granted lists outboxes slot ≡ nat_lt 0 (grants_of lists outboxes slot)
granted_count lists outboxes slot = either (row_with lists.carriers slot.carrier)
  where
    waiting : List Pdu
    waiting = box outboxes (control_slot lists)

    either : (found : Option CarrierRow)
        → option_map_or (λ (row : CarrierRow). list_any (names row.lpcn slot.slot) waiting) found false ≡ nat_lt 0
        (counted found slot waiting)
    either None = refl
    either (Some row) = some_count (names row.lpcn slot.slot) waiting

-- ---- the control slot's outbox after a slot's outbox was changed

module _ (lists : ListSection) (outboxes : List (List Pdu)) (slot : Slot) (xs : List Pdu) where
  control_is : is_control lists slot ≡ true → slot ≡ control_slot lists
  control_is h =
      let parts = and_parts (slot.carrier == lists.control) (slot.slot == 0) h in
      let carrier : slot.carrier ≡ lists.control = eqb-true slot.carrier lists.control parts.0 in
      let number : slot.slot ≡ 0 = eqb-true slot.slot 0 parts.1 in
      λ i. record { carrier = carrier i; slot = number i }

  control_box : is_control lists slot ≡ true → place slot < length outboxes
      → box (slice_set outboxes (place slot) xs) (control_slot lists) ≡ xs
  control_box h within =
      subst (λ (s : Slot). box (slice_set outboxes (place slot) xs) s ≡ xs) (control_is h)
      (get_or-set_same outboxes (place slot) xs [] within)

  other_box : slot.slot < 2 → is_control lists slot ≡ false
      → box (slice_set outboxes (place slot) xs) (control_slot lists) ≡ box outboxes (control_slot lists)
  other_box small h = get_or-set_other outboxes (place slot) (place (control_slot lists)) xs []
      (λ same. absurd (apart slot.carrier lists.control slot.slot small (omega (arith, same)) (omega (arith, same)) h))
    where
      apart : (c d s : ℕ) → s < 2 → c ≡ d → s ≡ 0 → ((c == d) && (s == 0)) ≡ false → ⊥
      apart c d s small e k h = grind (arith, nat_tests)

-- ---- counts of which one is more

-- a slot is the one at a place exactly if the place is its own
pub this_at : (s : Slot) (k : ℕ) → s.slot < 2 → is_this (Some s) (slot_at k) ≡ (k == place s)
this_at s k small = at s.carrier s.slot k small
  where
    at : (c n k : ℕ) → n < 2 → ((c == k / 2) && (n == k % 2)) ≡ (k == 2 * c + n)
    at c n k small = grind (arith, nat_tests)

pub this_itself : (s : Slot) → is_this (Some s) s ≡ true
this_itself s = same s.carrier s.slot
  where
    same : (c n : ℕ) → ((c == c) && (n == n)) ≡ true
    same c n = grind (arith, nat_tests)

one_more : (fewer more : List ℕ) (s : Slot) → s.slot < 2
    → ((k : ℕ) → k ≢ place s → slice_index_or more k 0 ≡ slice_index_or fewer k 0)
    → slice_index_or more (place s) 0 ≡ slice_index_or fewer (place s) 0 + 1 → IsOneMore fewer (Some s) more
one_more fewer more s small others here k below =
    either (k == place s) refl ∙ ap (λ b. slice_index_or fewer k 0 + cond b 1 0) (sym (this_at s k small))
  where
    either : (b : Bool) → (k == place s) ≡ b → slice_index_or more k 0 ≡ slice_index_or fewer k 0 + cond b 1 0
    either true e = subst (λ n. slice_index_or more n 0 ≡ slice_index_or fewer n 0 + 1) (sym (eqb-true k (place s) e)) here
    either false e = others k (eqb-false k (place s) e) ∙ omega arith

-- a count that is raised, or lowered, among the others
module _ (counts : List ℕ) (s : Slot) (i : ℕ) (is : IsSlot s) (at : i ≡ place s) (size : length counts ≡ 32) where
  pub one_raised : IsOneMore counts (Some s) (slice_set counts i (slice_index_or counts i 0 + 1))
  one_raised = subst (λ n. IsOneMore counts (Some s) (slice_set counts n (slice_index_or counts n 0 + 1))) (sym at)
      (one_more counts _ s is.1 (λ k apart. get_or-set_other counts (place s) k _ 0 apart)
      (get_or-set_same counts (place s) _ 0 (omega (arith, is.0, is.1, size))))

  pub one_lowered : 1 ≤ slice_index_or counts i 0 → IsOneMore (slice_set counts i (slice_index_or counts i 0 - 1)) (Some s) counts
  one_lowered some = subst (λ n. IsOneMore (slice_set counts n (slice_index_or counts n 0 - 1)) (Some s) counts) (sym at)
      (one_more _ counts s is.1 (λ k apart. sym (get_or-set_other counts (place s) k _ 0 apart)) (omega (
        arith,
        get_or-set_same counts (place s) (slice_index_or counts (place s) 0 - 1) 0 (omega (arith, is.0, is.1, size)),
        subst (λ n. 1 ≤ slice_index_or counts n 0) at some,
      )))

-- what holds of each place whose slot is this one holds of its own place
pub at_its_place : (P : ℕ → Type 0) (one : Option Slot) (s : Slot) (i : ℕ) → one ≡ Some s → IsSlot s → i ≡ place s
    → ((k : ℕ) → k < 32 → is_this one (slot_at k) ≡ true → P k) → P i
at_its_place P one s i it is at holds = holds i (omega (arith, is.0, is.1, at))
    (ap (λ o. is_this o (slot_at i)) it ∙ ap (is_this (Some s)) (ap slot_at at ∙ slot_at-place s is) ∙ this_itself s)

pub none_more : (counts : List ℕ) → IsOneMore counts None counts
none_more counts k below = omega arith

-- ---- the counts after a PDU is added to an outbox, or removed

module _ (lists : ListSection) (are_lists : IsListSection lists) (outboxes : List (List Pdu)) (slot : Slot) (pdu : Pdu) (is : IsSlot slot)
    (within : place slot < length outboxes) where
  abbrev row : Slot → Option CarrierRow
  row s = row_with lists.carriers s.carrier

  abbrev granted : Option Slot
  granted = slot_counted lists slot pdu

  -- the slot whose count changes
  changes : (s : Slot) → (is_control lists slot && named (row s) s pdu) ≡ is_this granted s
  changes s = either (is_control lists slot)
    where
      either : (b : Bool) → (b && named (row s) s pdu) ≡ is_this (if b then slot_granted lists pdu else None) s
      either true = named_granted lists are_lists s pdu
      either false = refl

  pub grants_queued : (s : Slot) → grants_of lists (outboxes_with_pdu outboxes slot pdu) s ≡ grants_of lists outboxes s + cond
      (is_this granted s) 1 0
  grants_queued s = either (is_control lists slot) refl ∙ ap (λ b. grants_of lists outboxes s + cond b 1 0) (changes s)
    where
      either : (b : Bool) → is_control lists slot ≡ b → grants_of lists (outboxes_with_pdu outboxes slot pdu) s
          ≡ grants_of lists outboxes s + cond (b && named (row s) s pdu) 1 0
      either true e =
          let there : box (outboxes_with_pdu outboxes slot pdu) (control_slot lists) ≡ box outboxes (control_slot lists) ++ pdu ∷ [] =
          control_box lists outboxes slot _ e within ∙ ap (λ (t : Slot). box outboxes t ++ pdu ∷ [])
          (control_is lists outboxes slot [] e) in
          ap (counted (row s) s) there ∙ in_more (row s) s (box outboxes (control_slot lists)) pdu
      either false e = ap (counted (row s) s) (other_box lists outboxes slot _ is.1 e) ∙ omega arith

  pub grants_sent : slice_get (box outboxes slot) 0 ≡ Some pdu → (s : Slot)
      → grants_of lists outboxes s ≡ grants_of lists (outboxes_after_send outboxes slot) s + cond (is_this granted s) 1 0
  grants_sent first s =
      either (is_control lists slot) refl ∙ ap (λ b. grants_of lists (outboxes_after_send outboxes slot) s + cond b 1 0) (changes s)
    where
      either : (b : Bool) → is_control lists slot ≡ b → grants_of lists outboxes s
          ≡ grants_of lists (outboxes_after_send outboxes slot) s + cond (b && named (row s) s pdu) 1 0
      either true e =
          let control = control_is lists outboxes slot [] e in
          let there : box (outboxes_after_send outboxes slot) (control_slot lists) ≡ drop 1 (box outboxes (control_slot lists)) =
          control_box lists outboxes slot _ e within ∙ ap (λ (t : Slot). drop 1 (box outboxes t)) control in
          in_less (row s) s (box outboxes (control_slot lists)) pdu
          (subst (λ (t : Slot). slice_get (box outboxes t) 0 ≡ Some pdu) control first)
          ∙ ap (λ (xs : List Pdu). counted (row s) s xs + cond (named (row s) s pdu) 1 0) (sym there)
      either false e = ap (counted (row s) s) (sym (other_box lists outboxes slot (drop 1 (box outboxes slot)) is.1 e)) ∙ omega arith

  pub counted_queued : (before after : List ℕ) → AreCounted lists outboxes before → IsOneMore before granted after
      → AreCounted lists (outboxes_with_pdu outboxes slot pdu) after
  counted_queued before after are more k below =
      more k below ∙ ap (λ n. n + cond (is_this granted (slot_at k)) 1 0) (are k below) ∙ sym (grants_queued (slot_at k))

  pub counted_sent : (before after : List ℕ) → slice_get (box outboxes slot) 0 ≡ Some pdu → AreCounted lists outboxes before
      → IsOneMore after granted before → AreCounted lists (outboxes_after_send outboxes slot) after
  counted_sent before after first are more k below =
      cancelled _ _ (cond (is_this granted (slot_at k)) 1 0) (sym (more k below) ∙ are k below ∙ grants_sent first (slot_at k))
    where
      cancelled : (m n d : ℕ) → m + d ≡ n + d → m ≡ n
      cancelled m n d e = omega arith

  -- the count of the slot that the PDU grants is not 0
  pub some_wait : (counts : List ℕ) → slice_get (box outboxes slot) 0 ≡ Some pdu → AreCounted lists outboxes counts → (k : ℕ) → k < 32
      → is_this granted (slot_at k) ≡ true → 1 ≤ slice_index_or counts k 0
  some_wait counts first are k below this =
      at_least _ _ (are k below ∙ grants_sent first (slot_at k)
      ∙ ap (λ b. grants_of lists (outboxes_after_send outboxes slot) (slot_at k) + cond b 1 0) this)
    where
      at_least : (m n : ℕ) → m ≡ n + 1 → 1 ≤ m
      at_least m n e = omega arith

-- the count of a slot is not 0 exactly if a grant of it waits
pub counted_granted : (lists : ListSection) (outboxes : List (List Pdu)) (counts : List ℕ) (slot : Slot) (k : ℕ) → IsSlot slot
    → k ≡ place slot → AreCounted lists outboxes counts → nat_lt 0 (slice_index_or counts k 0) ≡ is_granted lists outboxes slot
counted_granted lists outboxes counts slot k is at are =
    ap (nat_lt 0) (are k (omega (arith, is.0, is.1)) ∙ ap (grants_of lists outboxes) (ap slot_at at ∙ slot_at-place slot is))
    ∙ sym (granted_count lists outboxes slot)

few_there : (outboxes : List (List Pdu)) (k : ℕ) → All (λ box. length box ≤ 64) outboxes → length (slice_index_or outboxes k []) ≤ 64
few_there outboxes k few = either (cases_lt k (length outboxes))
  where
    either : (k < length outboxes) ⊎ (length outboxes ≤ k) → length (slice_index_or outboxes k []) ≤ 64
    either (inl within) = All-get_or (λ (box : List Pdu). length box ≤ 64) outboxes k [] within few
    either (inr beyond) = omega (arith, ap length (get_or_past outboxes k [] beyond))

-- a count is at most the number of PDUs that wait for the control slot
pub few_counted : (lists : ListSection) (outboxes : List (List Pdu)) (counts : List ℕ) (k : ℕ) → k < 32
    → All (λ box. length box ≤ 64) outboxes → AreCounted lists outboxes counts → slice_index_or counts k 0 ≤ 64
few_counted lists outboxes counts k below few are = omega (
  arith,
  are k below,
  in_few (row_with lists.carriers ((slot_at k).carrier)) (slot_at k) (box outboxes (control_slot lists)),
  few_there outboxes (place (control_slot lists)) few,
)

-- ---- the outboxes of a carrier's slots are emptied

-- each element of equal ones, and the same beyond them
pub same_anywhere : {A : Type 0} (x : A) (n k : ℕ) → slice_index_or (replicate n x) k x ≡ x
same_anywhere x zero k = refl
same_anywhere x (suc n) zero = refl
same_anywhere x (suc n) (suc k) = same_anywhere x n k

-- no grant waits if no PDU waits for the control slot
uncounted : (lists : ListSection) (outboxes : List (List Pdu)) → box outboxes (control_slot lists) ≡ []
    → AreCounted lists outboxes (replicate 32 0)
uncounted lists outboxes none k below =
    let row = row_with lists.carriers ((slot_at k).carrier) in
    same_anywhere 0 32 k ∙ sym (ap (counted row (slot_at k)) none ∙ in_none row (slot_at k))

pub emptied_control : (lists : ListSection) (outboxes : List (List Pdu)) (c : ℕ) → c ≡ lists.control → 2 * c + 1 < length outboxes
    → AreCounted lists (outboxes_without_carrier outboxes c) (replicate 32 0)
emptied_control lists outboxes c is within = uncounted lists (outboxes_without_carrier outboxes c) gone
  where
    first : 2 * c ≡ place (control_slot lists)
    first = omega (arith, is)

    gone : box (outboxes_without_carrier outboxes c) (control_slot lists) ≡ []
    gone =
        get_or-set_other (slice_set outboxes (2 * c) []) (2 * c + 1) (place (control_slot lists)) [] []
        (λ same. absurd (omega (arith, same)))
        ∙ subst (λ n. slice_index_or (slice_set outboxes (2 * c) []) n [] ≡ []) first (get_or-set_same outboxes (2 * c) [] [] (omega arith))

pub emptied_other : (lists : ListSection) (outboxes : List (List Pdu)) (counts : List ℕ) (c : ℕ) → c ≢ lists.control
    → AreCounted lists outboxes counts → AreCounted lists (outboxes_without_carrier outboxes c) counts
emptied_other lists outboxes counts c apart are k below =
    are k below ∙ sym (ap (counted (row_with lists.carriers ((slot_at k).carrier)) (slot_at k)) stays)
  where
    stays : box (outboxes_without_carrier outboxes c) (control_slot lists) ≡ box outboxes (control_slot lists)
    stays =
        get_or-set_other (slice_set outboxes (2 * c) []) (2 * c + 1) (place (control_slot lists)) [] []
        (λ same. absurd (omega (arith, same)))
        ∙ get_or-set_other outboxes (2 * c) (place (control_slot lists)) [] [] (λ same. apart (omega (arith, same)))

-- outboxes of which one was changed
outboxes-set : (outboxes : List (List Pdu)) (i : ℕ) (xs : List Pdu) → length xs ≤ 64 → AreOutboxes outboxes
    → AreOutboxes (slice_set outboxes i xs)
outboxes-set outboxes i xs few h = record {
  size = length-set outboxes i xs ∙ h.size;
  few = All-set (λ (box : List Pdu). length box ≤ 64) outboxes i xs few h.few;
}

-- ---- outboxes and counts by the places and the outbox that the code names

-- an element that exists, for any default value
read_there : {X : Type 0} (xs : List X) (i : ℕ) (x d : X) → i < length xs → x ≡ slice_index_or xs i x → x ≡ slice_index_or xs i d
read_there [] i x d h e = absurd (omega arith)
read_there (y ∷ ys) zero x d h e = e
read_there (y ∷ ys) (suc i) x d h e = read_there ys i x d (omega arith) e

-- a PDU was added, or removed
module _ (lists : ListSection) (outboxes : List (List Pdu)) (counts : List ℕ) (slot : Slot) (pdu : Pdu) (i : ℕ) (now : List Pdu)
    (are_lists : IsListSection lists) (is : IsSlot slot) (at : i ≡ place slot) (there : now ≡ slice_index_or outboxes i now)
    (kept : AreOutboxes outboxes) (are : AreCounted lists outboxes counts) where
  within : place slot < length outboxes
  within = omega (arith, kept.size, is.0, is.1)

  box_is : now ≡ box outboxes slot
  box_is = read_there outboxes i now [] (omega (arith, within, at)) there ∙ ap (λ n. slice_index_or outboxes n []) at

  pub pushed_kept : (new : List Pdu) → new ≡ now ++ pdu ∷ [] → length (box outboxes slot) < 64 → AreOutboxes (slice_set outboxes i new)
  pushed_kept new e room =
      let more : length new ≡ length (box outboxes slot) + 1 =
      ap length (e ∙ ap (λ (xs : List Pdu). xs ++ pdu ∷ []) box_is) ∙ length-append (box outboxes slot) (pdu ∷ []) in
      outboxes-set outboxes i new (omega (arith, more)) kept

  pub pushed_counted : (new : List Pdu) (after : List ℕ) → new ≡ now ++ pdu ∷ [] → IsOneMore counts (slot_counted lists slot pdu) after
      → AreCounted lists (slice_set outboxes i new) after
  pushed_counted new after e more =
      let same : slice_set outboxes i new ≡ outboxes_with_pdu outboxes slot pdu =
      λ k. slice_set outboxes (at k) ((e ∙ ap (λ (xs : List Pdu). xs ++ pdu ∷ []) box_is) k) in
      subst (λ (bs : List (List Pdu)). AreCounted lists bs after) (sym same)
      (counted_queued lists are_lists outboxes slot pdu is within counts after are more)

  pub taken_kept : (new : List Pdu) → new ≡ drop 1 now → AreOutboxes (slice_set outboxes i new)
  taken_kept new e =
      let fewer : length new ≡ length (box outboxes slot) - 1 =
      ap length (e ∙ ap (drop 1) box_is) ∙ length-drop 1 (box outboxes slot) in
      outboxes-set outboxes i new (omega (arith, fewer, few_there outboxes (place slot) kept.few)) kept

  pub taken_counted : (new : List Pdu) (after : List ℕ) → new ≡ drop 1 now → slice_get (box outboxes slot) 0 ≡ Some pdu
      → IsOneMore after (slot_counted lists slot pdu) counts → AreCounted lists (slice_set outboxes i new) after
  taken_counted new after e first more =
      let same : slice_set outboxes i new ≡ outboxes_after_send outboxes slot =
      λ k. slice_set outboxes (at k) ((e ∙ ap (drop 1) box_is) k) in
      subst (λ (bs : List (List Pdu)). AreCounted lists bs after) (sym same)
      (counted_sent lists are_lists outboxes slot pdu is within counts after first are more)

  pub taken_some : slice_get (box outboxes slot) 0 ≡ Some pdu → (k : ℕ) → k < 32
      → is_this (slot_counted lists slot pdu) (slot_at k) ≡ true → 1 ≤ slice_index_or counts k 0
  taken_some first = some_wait lists are_lists outboxes slot pdu is within counts first are

-- the outboxes of a carrier's slots are emptied
module _ (lists : ListSection) (outboxes : List (List Pdu)) (counts : List ℕ) (i c : ℕ) (first second : List Pdu) (at : i ≡ c)
    (none : first ≡ []) (no_more : second ≡ []) (within : c < 16) (kept : AreOutboxes outboxes) where
  emptied_as : slice_set (slice_set outboxes (2 * i) first) (2 * i + 1) second ≡ outboxes_without_carrier outboxes c
  emptied_as = λ k. slice_set (slice_set outboxes (2 * at k) (none k)) (2 * at k + 1) (no_more k)

  pub cleared_kept : AreOutboxes (slice_set (slice_set outboxes (2 * i) first) (2 * i + 1) second)
  cleared_kept = outboxes-set (slice_set outboxes (2 * i) first) (2 * i + 1) second (empty_few second no_more)
      (outboxes-set outboxes (2 * i) first (empty_few first none) kept)
    where
      empty_few : (xs : List Pdu) → xs ≡ [] → length xs ≤ 64
      empty_few xs e = omega (arith, ap length e)

  pub cleared_control : c ≡ lists.control
      → AreCounted lists (slice_set (slice_set outboxes (2 * i) first) (2 * i + 1) second) (replicate 32 0)
  cleared_control is = subst (λ (bs : List (List Pdu)). AreCounted lists bs (replicate 32 0)) (sym emptied_as)
      (emptied_control lists outboxes c is (omega (arith, kept.size)))

  pub cleared_other : c ≢ lists.control → AreCounted lists outboxes counts
      → AreCounted lists (slice_set (slice_set outboxes (2 * i) first) (2 * i + 1) second) counts
  cleared_other apart are = subst (λ (bs : List (List Pdu)). AreCounted lists bs counts) (sym emptied_as)
      (emptied_other lists outboxes counts c apart are)

-- ---- no PDU waits at first

pub first_kept : (outboxes : List (List Pdu)) → outboxes ≡ replicate 32 [] → AreOutboxes outboxes
first_kept outboxes e = record {
  size = ap (λ (bs : List (List Pdu)). length bs) e;
  few = subst (All (λ (box : List Pdu). length box ≤ 64)) (sym e)
      (All-replicate (λ (box : List Pdu). length box ≤ 64) 32 [] (omega arith));
}

pub first_counted : (lists : ListSection) (outboxes : List (List Pdu)) → outboxes ≡ replicate 32 []
    → AreCounted lists outboxes (replicate 32 0)
first_counted lists outboxes e = uncounted lists outboxes
    (ap (λ (bs : List (List Pdu)). box bs (control_slot lists)) e ∙ same_anywhere [] 32 (place (control_slot lists)))
