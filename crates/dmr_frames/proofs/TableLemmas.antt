-- The table of frames: the frame of each type octet, and the octets of a body that are faults.
use Rattle.std.proofs.Common.{◌≡◌, ◌==◌, ℕ, zero, suc, ◌+◌, ◌-◌, ◌%◌, ◌<◌, ◌≤◌, nat_lt, cond, Bool, true, false, Some, None, List, [], ◌∷◌}
use Rattle.std.proofs.Common.{◌++◌, length, take, drop, get_or, replicate, refl, sym, ap, ◌∙◌, arith, ⊎_elim, length-append}
use Rattle.std.proofs.Common.{take-append-drop, subst}
use Rattle.std.proofs.Math.Seq.{get_or-append_seam}
use Rattle.std.proofs.lemmas.Bool.{cases_lt, eqb-true, le-ltb}
use Rattle.std.proofs.lemmas.List.{get_or_append_left}
use Rattle.dmr_frames.specs.declared.frame.Cause.{Cause}
use Rattle.dmr_frames.specs.declared.frame.Cause.TheVariants.{BadSlot, BadPad}
use Rattle.dmr_frames.specs.declared.table.Field.{Field}
use Rattle.dmr_frames.specs.declared.table.Field.TheVariants as field
use Rattle.dmr_frames.specs.declared.table.FrameKind.{FrameKind}
use Rattle.dmr_frames.specs.declared.table.FrameKind.TheVariants as kind
use Rattle.dmr_frames.specs.declared.version.Version.{Version}
use Rattle.dmr_frames.specs.Versions.{is_since}
use Rattle.dmr_frames.specs.Table.{frame_row, carrier_kind, carrier_kinds, kind_among, field_length, body_length, field_fault, fields_fault}
use Rattle.dmr_frames.specs.Table.{body_fault}
use Rattle.dmr_frames.specs.Stream.{fault_at}
use Rattle.dmr_frames.specs.Shape.{AreSmall, AreFitting, IsBegun, IsWhole}
use Rattle.std.proofs.lemmas.Option.{same_Some, none-some}

pub none_small : AreSmall []
none_small = λ k. omega arith

pub small-tail : (x : ℕ) (xs : List ℕ) → AreSmall (x ∷ xs) → AreSmall xs
small-tail x xs h = λ k. h (suc k)

pub small-cons : (x : ℕ) (xs : List ℕ) → x < 256 → AreSmall xs → AreSmall (x ∷ xs)
small-cons x xs lt h zero = lt
small-cons x xs lt h (suc k) = h k

pub small-front : (xs ys : List ℕ) → AreSmall (xs ++ ys) → AreSmall xs
small-front [] ys h = λ k. omega arith
small-front (x ∷ xs) ys h = small-cons x xs (h 0) (small-front xs ys (small-tail x (xs ++ ys) h))

pub small-take : (n : ℕ) (xs : List ℕ) → AreSmall xs → AreSmall (take n xs)
small-take n xs h = let P : List ℕ → Type 0 = λ ys. AreSmall ys in small-front (take n xs) (drop n xs)
    (subst P (sym (take-append-drop n xs)) h)

pub small-append : (xs ys : List ℕ) → AreSmall xs → AreSmall ys → AreSmall (xs ++ ys)
small-append [] ys h k = k
small-append (x ∷ xs) ys h k = small-cons x (xs ++ ys) (h 0) (small-append xs ys (small-tail x xs h) k)

pub small-zeros : (n : ℕ) → AreSmall (replicate n 0)
small-zeros zero = λ k. omega arith
small-zeros (suc n) = small-cons 0 (replicate n 0) (omega arith) (small-zeros n)

-- ---- the frame that has a type octet

-- each of these frames has the property
abbrev pub AreAll : (FrameKind → Type 0) → List FrameKind → Type 0
AreAll P [] = Unit {0}
AreAll P (k ∷ kinds) = P k × AreAll P kinds

-- the frame of a type octet, of these: it has that octet, is one of these, and exists in the version
pub among_is : (P : FrameKind → Type 0) (v : Version) (kinds : List FrameKind) (x : ℕ) (k : FrameKind) → AreAll P kinds →
    kind_among v kinds x ≡ Some k → (x ≡ (frame_row k).octet) × P k × (is_since (frame_row k).since v ≡ true)
among_is P v [] x k all e = absurd (none-some k e)
among_is P v (j ∷ kinds) x k all e =
    at (x == (frame_row j).octet) (is_since (frame_row j).since v) (λ d. among_is P v kinds x k all.1 d) refl refl e
  where
    at : (a b : Bool) → (kind_among v kinds x ≡ Some k → (x ≡ (frame_row k).octet) × P k × (is_since (frame_row k).since v ≡ true)) →
        (x == (frame_row j).octet) ≡ a → is_since (frame_row j).since v ≡ b →
        cond a (cond b (Some j) None) (kind_among v kinds x) ≡ Some k → (x ≡ (frame_row k).octet) × P k ×
        (is_since (frame_row k).since v ≡ true)
    at true true later ea eb e =
        let Q : FrameKind → Type 0 = λ i. (x ≡ (frame_row i).octet) × P i × (is_since (frame_row i).since v ≡ true) in
        subst Q (same_Some j k e) (eqb-true x (frame_row j).octet ea, all.0, eb)
    at true false later ea eb e = absurd (none-some k e)
    at false b later ea eb e = later e

-- a type octet belongs to one frame, in whichever version
among_same : (v w : Version) (kinds : List FrameKind) (x : ℕ) (i j : FrameKind) → kind_among v kinds x ≡ Some i →
    kind_among w kinds x ≡ Some j → i ≡ j
among_same v w [] x i j d e = absurd (none-some i d)
among_same v w (k ∷ kinds) x i j d e = at (x == (frame_row k).octet) (is_since (frame_row k).since v) (is_since (frame_row k).since w)
    (λ d e. among_same v w kinds x i j d e) d e
  where
    at : (a b c : Bool) → (kind_among v kinds x ≡ Some i → kind_among w kinds x ≡ Some j → i ≡ j) →
        cond a (cond b (Some k) None) (kind_among v kinds x) ≡ Some i → cond a (cond c (Some k) None) (kind_among w kinds x) ≡ Some j →
        i ≡ j
    at true true true later d e = sym (same_Some k i d) ∙ same_Some k j e
    at true true false later d e = absurd (none-some j e)
    at true false c later d e = absurd (none-some i d)
    at false b c later d e = later d e

pub kind_same : (v w : Version) (x : ℕ) (i j : FrameKind) → carrier_kind v x ≡ Some i → carrier_kind w x ≡ Some j → i ≡ j
kind_same v w x i j d e = among_same v w carrier_kinds x i j d e

-- ---- octets that are never a fault

-- octets of these fields are never a fault
abbrev pub AreFree : List Field → Type 0
AreFree [] = Unit {0}
AreFree (f ∷ fields) = ((place x : ℕ) → field_fault f place x ≡ None) × AreFree fields

pub free_none : (b : Bool) (fields : List Field) (place x : ℕ) → AreFree fields → fields_fault b fields place x ≡ None
free_none b [] place x all = refl
free_none b (f ∷ fields) place x all = at (nat_lt place (field_length b f)) (free_none b fields (place - field_length b f) x all.1)
  where
    at : (c : Bool) → fields_fault b fields (place - field_length b f) x ≡ None →
        cond c (field_fault f place x) (fields_fault b fields (place - field_length b f) x) ≡ None
    at true later = all.0 place x
    at false later = later

-- a place after a field is one of the fields after it
after_field : (b : Bool) (f : Field) (fields : List Field) (place n x : ℕ) → field_length b f + n ≡ place →
    fields_fault b (f ∷ fields) place x ≡ fields_fault b fields n x
after_field b f fields place n x e =
    let past : nat_lt place (field_length b f) ≡ false = le-ltb place (field_length b f) (omega (arith, e)) in
    let left : place - field_length b f ≡ n = omega (arith, e) in
    rw (past, left) refl

-- a place after the slot of an RX is one of its word
pub plain_word : (i x : ℕ) → body_fault false kind.Rx (suc i) x ≡ fields_fault false (field.Word ∷ []) i x
plain_word i x = after_field false field.Number (field.Slot ∷ field.Word ∷ []) (suc i) (suc i) x (omega arith)
    ∙ after_field false field.Slot (field.Word ∷ []) (suc i) i x (omega arith)

pub numbered_word : (i x : ℕ) → body_fault true kind.Rx (suc (suc i)) x ≡ fields_fault true (field.Word ∷ []) i x
numbered_word i x = after_field true field.Number (field.Slot ∷ field.Word ∷ []) (suc (suc i)) (suc i) x (omega arith)
    ∙ after_field true field.Slot (field.Word ∷ []) (suc i) i x (omega arith)

pub fitting-append : (b : Bool) (k : FrameKind) (body rest : List ℕ) → AreFitting b k body →
    ((i : ℕ) → length body ≤ i → i < length (body ++ rest) → body_fault b k i (get_or (body ++ rest) i 0) ≡ None) →
    AreFitting b k (body ++ rest)
fitting-append b k body rest h g i lt =
    let P : ℕ → Type 0 = λ x. body_fault b k i x ≡ None in
    ⊎_elim (λ (inside : i < length body). subst P (sym (get_or_append_left body rest 0 i inside)) (h i inside))
    (λ (past : length body ≤ i). g i past lt) (cases_lt i (length body))

pub fitting-one : (b : Bool) (k : FrameKind) (body : List ℕ) (x : ℕ) → AreFitting b k body → body_fault b k (length body) x ≡ None →
    AreFitting b k (body ++ x ∷ [])
fitting-one b k body x h e = fitting-append b k body (x ∷ []) h (λ i past lt.
    let P : ℕ → Type 0 = λ n. body_fault b k n (get_or (body ++ x ∷ []) n 0) ≡ None in
    let Q : ℕ → Type 0 = λ y. body_fault b k (length body) y ≡ None in
    let at : length body ≡ i = omega (arith, length-append body (x ∷ [])) in
    subst P at (subst Q (sym (get_or-append_seam body x [] 0)) e))

pub fitting-front : (b : Bool) (k : FrameKind) (body rest : List ℕ) → AreFitting b k (body ++ rest) → AreFitting b k body
fitting-front b k body rest h i lt =
    let P : ℕ → Type 0 = λ x. body_fault b k i x ≡ None in
    subst P (get_or_append_left body rest 0 i lt) (h i (omega (arith, lt, length-append body rest)))

-- its last octet makes it whole
pub whole-last : (b : Bool) (k : FrameKind) (body : List ℕ) (x : ℕ) → IsBegun b k body → x < 256 → body_fault b k (length body) x ≡ None →
    body_length b k ≤ length body + 1 → IsWhole b k (body ++ x ∷ [])
whole-last b k body x h lt none le = record {
  all = omega (arith, length-append body (x ∷ []), le, h.short);
  small = small-append body (x ∷ []) h.small (small-cons x [] lt none_small);
  fitting = fitting-one b k body x h.fitting none;
}

-- ---- which fault an octet is

slot_cause : (x : ℕ) (cause : Cause) → cond (nat_lt x 2) None (Some BadSlot) ≡ Some cause → Some BadSlot ≡ Some cause
slot_cause x cause e = at (nat_lt x 2) e
  where
    at : (b : Bool) → cond b None (Some BadSlot) ≡ Some cause → Some BadSlot ≡ Some cause
    at true e = absurd (none-some cause e)
    at false e = e

word_cause : (b : Bool) (i x : ℕ) (cause : Cause) → fields_fault b (field.Word ∷ []) i x ≡ Some cause → (i ≡ 24) ×
    (Some BadPad ≡ Some cause)
word_cause b i x cause e = at (nat_lt i 25) (i == 24) (x % 16 == 0) refl e
  where
    at : (a b c : Bool) → (i == 24) ≡ b → cond a (cond b (cond c None (Some BadPad)) None) None ≡ Some cause → (i ≡ 24) ×
        (Some BadPad ≡ Some cause)
    at false b c eb e = absurd (none-some cause e)
    at true false c eb e = absurd (none-some cause e)
    at true true true eb e = absurd (none-some cause e)
    at true true false eb e = (eqb-true i 24 eb, e)

pub rx_cause : (b : Bool) (place x : ℕ) (cause : Cause) → body_fault b kind.Rx place x ≡ Some cause →
    fault_at b (suc (suc place)) ≡ Some cause
rx_cause false zero x cause e = slot_cause x cause e
rx_cause false (suc i) x cause e = let is : (i ≡ 24) × (Some BadPad ≡ Some cause) =
    word_cause false i x cause (sym (plain_word i x) ∙ e) in ap (λ (n : ℕ). fault_at false (suc (suc (suc n)))) is.0 ∙ is.1
rx_cause true zero x cause e = absurd (none-some cause e)
rx_cause true (suc zero) x cause e = slot_cause x cause e
rx_cause true (suc (suc i)) x cause e = let is : (i ≡ 24) × (Some BadPad ≡ Some cause) =
    word_cause true i x cause (sym (numbered_word i x) ∙ e) in ap (λ (n : ℕ). fault_at true (suc (suc (suc (suc n))))) is.0 ∙ is.1

pub active_cause : (b : Bool) (place x : ℕ) (cause : Cause) → body_fault b kind.Active place x ≡ Some cause →
    fault_at b (suc (suc place)) ≡ Some cause
active_cause b zero x cause e = slot_cause x cause e
active_cause b (suc i) x cause e = absurd (none-some cause (sym (after_field b field.Slot [] (suc i) i x (omega arith)) ∙ e))

pub free_cause : (b : Bool) (k : FrameKind) (place x : ℕ) (cause : Cause) → AreFree (frame_row k).body →
    body_fault b k place x ≡ Some cause → fault_at b (suc (suc place)) ≡ Some cause
free_cause b k place x cause free e = absurd (none-some cause (sym (free_none b (frame_row k).body place x free) ∙ e))
