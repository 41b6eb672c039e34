-- The octets that a cutter keeps of an open line, the lines of streams, and streams in pieces.
use Rattle.std.proofs.Common.{◌≡◌, ◌≢◌, ℕ, ◌-◌, ◌<◌, Bool, true, false, cond, List, [], ◌∷◌, ◌++◌, length, eqb, ltb, take, slice_index_or}
use Rattle.std.proofs.Common.{refl, sym, ap, ◌∙◌, arith, map, append_assoc, length-append, length-take-le, All, Result, Ok, Err, ◌↔◌}
use Rattle.std.specs.Result.{IsOk, OnOk, OnErr}
use Rattle.std.specs.List.{flat_map, fold, scan}
use Rattle.std.proofs.lemmas.Bool.{ltb-true, ltb-false, lt-ltb, ne_eqb}
use Rattle.std.proofs.lemmas.List.{take_all, take_at, append-nil, take-append-le, get_or_push, length_push, map-append}
use Rattle.std.proofs.lemmas.List.Elements.{All-nil, All-push}
use Rattle.std.proofs.lemmas.List.Folds.{fold_along}
use Rattle.std.proofs.lemmas.List.Splits.{slice_split_at, slice_split_none}
use Rattle.std.proofs.lemmas.List.Sums.{fold-append}
use Rattle.arrayvec.specs.ArrayVec.{ArrayVec}
use Rattle.dmr_pdu.proofs.Laws.{items-append}
use Rattle.dmr_console.specs.declared.line_cutter.LineStep.{LineStep}
use Rattle.dmr_console.specs.declared.line_cutter.LineStep.TheVariants.{Line, TooLong}
use Rattle.dmr_console.specs.Lines.{parts_of, all_but_last, last_of, without_cr, line_step_of, lines_in, open_in, first_octets_of_line}
use Rattle.dmr_console.specs.Steps.{line_step_at, open_line_after_octet, line_produced, line_steps_from, open_line_after}

-- with 81 octets, no more are kept
pub kept_full : (begun : List ℕ) (x : ℕ) → length begun ≡ 81 → first_octets_of_line (begun ++ x ∷ []) ≡ begun
kept_full begun x h = take_at begun (x ∷ []) 81 h

-- with fewer, the next octet is kept
pub kept_room : (begun : List ℕ) (x : ℕ) → length begun < 81 → first_octets_of_line (begun ++ x ∷ []) ≡ begun ++ x ∷ []
kept_room begun x h = take_all 81 (begun ++ x ∷ []) (omega (arith, h, length-append begun (x ∷ [])))

-- the open line after an octet other than LF, which is pushed if there is room
pub left_other : {E : Type 0} (old : List ℕ) (begun new : ArrayVec ℕ) (x : ℕ) (r : Result (Unit {0}) E) → begun.items ≡ old → (x ≡ 10 → ⊥) →
    (IsOk r ↔ (length begun.items < 81)) → OnOk r (new.items ≡ begun.items ++ x ∷ []) → OnErr r (new ≡ begun) →
    OnErr r (length begun.items ≡ 81) → new.items ≡ open_line_after_octet old x
left_other old begun new x (Ok u) is other room pushed same full =
    let left : open_line_after_octet old x ≡ first_octets_of_line (old ++ x ∷ []) = rw (ne_eqb x 10 other) refl in
    pushed ∙ sym (kept_room begun.items x (room.0 refl)) ∙ ap (λ (xs : List ℕ). first_octets_of_line (xs ++ x ∷ [])) is ∙ sym left
left_other old begun new x (Err e) is other room pushed same full =
    let left : open_line_after_octet old x ≡ first_octets_of_line (old ++ x ∷ []) = rw (ne_eqb x 10 other) refl in
    ap (λ (v : ArrayVec ℕ). v.items) same ∙ sym (kept_full begun.items x full)
    ∙ ap (λ (xs : List ℕ). first_octets_of_line (xs ++ x ∷ [])) is ∙ sym left

-- ---- streams, octet by octet: the lines that have ended, and the open one

-- the open line after an octet, and the line that the octet ends
abbrev next : List ℕ → ℕ → List ℕ
next begun x = cond (eqb x 10) [] (begun ++ x ∷ [])

abbrev ended : List ℕ → ℕ → List (List ℕ)
ended begun x = cond (eqb x 10) (begun ∷ []) []

-- the lines that octets end
abbrev all_ended : List ℕ → List ℕ → List (List ℕ)
all_ended begun xs = flat_map (λ lines. lines) (scan next ended begun xs)

-- no octet is an LF
abbrev Inside : List ℕ → Type 0
Inside octets = All (λ x. eqb x 10 ≡ false) octets

nothing_inside : Inside []
nothing_inside = All-nil (λ x. eqb x 10 ≡ false)

next_inside : (begun : List ℕ) (x : ℕ) (b : Bool) → eqb x 10 ≡ b → Inside begun → Inside (next begun x)
next_inside begun x true e h = rw e nothing_inside
next_inside begun x false e h = rw e (All-push (λ y. eqb y 10 ≡ false) begun x h e)

all_inside : (begun xs : List ℕ) → Inside begun → Inside (fold next begun xs)
all_inside begun [] h = h
all_inside begun (x ∷ xs) h = all_inside (next begun x) xs (next_inside begun x (eqb x 10) refl h)

-- the parts of octets that follow an open line
abbrev AreParts : List ℕ → List ℕ → Type 0
AreParts begun xs = Inside begun → parts_of (begun ++ xs) ≡ all_ended begun xs ++ fold next begun xs ∷ []

one_part : (begun : List ℕ) (x : ℕ) (xs : List ℕ) (b : Bool) → eqb x 10 ≡ b → ((p : List ℕ) → AreParts p xs) → AreParts begun (x ∷ xs)
one_part begun x xs true e more h =
    slice_split_at (λ y. eqb y 10) begun x xs h e ∙ rw e (ap (λ (ps : List (List ℕ)). begun ∷ ps) (more [] nothing_inside))
one_part begun x xs false e more h =
    ap parts_of (sym (append_assoc begun (x ∷ []) xs)) ∙ rw e (more (begun ++ x ∷ []) (All-push (λ y. eqb y 10 ≡ false) begun x h e))

parts_are : (xs begun : List ℕ) → AreParts begun xs
parts_are [] begun h = ap parts_of (append-nil begun) ∙ slice_split_none (λ x. eqb x 10) begun h
parts_are (x ∷ xs) begun h = one_part begun x xs (eqb x 10) refl (parts_are xs) h

-- so these are the lines of the stream, and its open line
stream_is : (begun xs : List ℕ) → Inside begun → (lines_in (begun ++ xs) ≡ map line_step_of (all_ended begun xs)) ×
    (open_in (begun ++ xs) ≡ fold next begun xs)
stream_is begun xs h =
    let front : List (List ℕ) = all_ended begun xs in
    let last : List ℕ = fold next begun xs in
    let before : length (front ++ last ∷ []) - 1 ≡ length front = omega (arith, length_push front last) in (
      ap (λ (ps : List (List ℕ)). map line_step_of (all_but_last ps)) (parts_are xs begun h)
          ∙ ap (map line_step_of) (ap (λ (n : ℕ). take n (front ++ last ∷ [])) before ∙ take_at front (last ∷ []) (length front) refl),
      ap last_of (parts_are xs begun h) ∙ get_or_push front last [] (length (front ++ last ∷ []) - 1) (sym before),
    )

-- ---- the octets that are kept decide what the line is

line_kept_by : (begun : List ℕ) (b : Bool) → ltb 80 (length begun) ≡ b → line_step_of (first_octets_of_line begun) ≡ line_step_of begun
line_kept_by begun true e =
    let more : 80 < length begun = ltb-true 80 (length begun) e in
    let len : length (first_octets_of_line begun) ≡ 81 = length-take-le 81 begun (omega (arith, more)) in
    let left : line_step_of (first_octets_of_line begun) ≡ TooLong =
    rw (lt-ltb 80 (length (first_octets_of_line begun)) (omega (arith, len))) refl in
    let right : line_step_of begun ≡ TooLong = rw e refl in
    left ∙ sym right
line_kept_by begun false e = ap line_step_of (take_all 81 begun (omega (arith, ltb-false 80 (length begun) e)))

line_kept : (begun : List ℕ) → line_step_of (first_octets_of_line begun) ≡ line_step_of begun
line_kept begun = line_kept_by begun (ltb 80 (length begun)) refl

kept_more_by : (begun : List ℕ) (x : ℕ) (b : Bool) → ltb 81 (length begun) ≡ b →
    first_octets_of_line (first_octets_of_line begun ++ x ∷ []) ≡ first_octets_of_line (begun ++ x ∷ [])
kept_more_by begun x true e =
    let more : 81 < length begun = ltb-true 81 (length begun) e in
    let len : length (first_octets_of_line begun) ≡ 81 = length-take-le 81 begun (omega (arith, more)) in
    kept_full (first_octets_of_line begun) x len ∙ sym (take-append-le 81 begun (x ∷ []) (omega (arith, more)))
kept_more_by begun x false e = ap (λ (p : List ℕ). first_octets_of_line (p ++ x ∷ [])) (take_all 81 begun (ltb-false 81 (length begun) e))

kept_more : (begun : List ℕ) (x : ℕ) → first_octets_of_line (first_octets_of_line begun ++ x ∷ []) ≡ first_octets_of_line (begun ++ x ∷ [])
kept_more begun x = kept_more_by begun x (ltb 81 (length begun)) refl

produced_by : (a : LineStep) (b : Bool) (line : List ℕ) → line_produced (cond b TooLong (Line (record { items = line }))) ≡ cond b TooLong
    (Line (record { items = line })) ∷ []
produced_by a true line = refl
produced_by a false line = refl

produced_line : (octets : List ℕ) → line_produced (line_step_of octets) ≡ line_step_of octets ∷ []
produced_line octets = produced_by TooLong (ltb 80 (length octets)) (without_cr octets)

-- ---- the cutter agrees with the stream, with what it keeps of an open line

left_kept : (begun : List ℕ) (x : ℕ) (b : Bool) → eqb x 10 ≡ b → open_line_after_octet (first_octets_of_line begun) x ≡ first_octets_of_line
    (next begun x)
left_kept begun x true e = rw e refl
left_kept begun x false e = rw e (kept_more begun x)

produced_kept : (begun : List ℕ) (x : ℕ) (b : Bool) → eqb x 10 ≡ b → line_produced
    (line_step_at (first_octets_of_line begun) x) ≡ map line_step_of (ended begun x)
produced_kept begun x true e = rw e (ap line_produced (line_kept begun) ∙ produced_line begun)
produced_kept begun x false e = rw e refl

from_is : (begun xs : List ℕ) → line_steps_from (first_octets_of_line begun) xs ≡ map line_step_of (all_ended begun xs)
from_is begun [] = refl
from_is begun (x ∷ xs) =
    (λ i. produced_kept begun x (eqb x 10) refl i ++ line_steps_from (left_kept begun x (eqb x 10) refl i) xs)
    ∙ ap (λ (ls : List LineStep). map line_step_of (ended begun x) ++ ls) (from_is (next begun x) xs)
    ∙ sym (map-append line_step_of (ended begun x) (all_ended (next begun x) xs))

rest_is : (begun xs : List ℕ) → open_line_after (first_octets_of_line begun) xs ≡ first_octets_of_line (fold next begun xs)
rest_is begun xs =
    let Keeps : List ℕ → List ℕ → Type 0 = λ a b. a ≡ first_octets_of_line b in
    fold_along open_line_after_octet next Keeps
    (λ a b x e. ap (λ (c : List ℕ). open_line_after_octet c x) e ∙ left_kept b x (eqb x 10) refl)
    (first_octets_of_line begun) begun xs refl

-- the octets one by one produce the lines of the stream, and leave its open line
pub lines_whole : (octets : List ℕ) → line_steps_from [] octets ≡ lines_in octets
lines_whole octets = from_is [] octets ∙ sym (stream_is [] octets nothing_inside).0

pub rest_whole : (octets : List ℕ) → open_line_after [] octets ≡ first_octets_of_line (open_in octets)
rest_whole octets = rest_is [] octets ∙ ap first_octets_of_line (sym (stream_is [] octets nothing_inside).1)

-- one more octet
pub one_more : (octets begun new : List ℕ) (x : ℕ) (r : LineStep) → begun ≡ first_octets_of_line (open_in octets) →
    r ≡ line_step_at begun x → new ≡ open_line_after_octet begun x →
    (lines_in (octets ++ x ∷ []) ≡ lines_in octets ++ line_produced r) × (new ≡ first_octets_of_line (open_in (octets ++ x ∷ [])))
one_more octets begun new x r is step left =
    let at : open_line_after [] octets ≡ begun = rest_whole octets ∙ sym is in (
      sym (lines_whole (octets ++ x ∷ [])) ∙ items-append open_line_after_octet line_step_at line_produced [] octets (x ∷ [])
          ∙ (λ i. lines_whole octets i ++ line_steps_from (at i) (x ∷ []))
          ∙ ap (λ (ls : List LineStep). lines_in octets ++ ls)
          (append-nil (line_produced (line_step_at begun x)) ∙ ap line_produced (sym step)),
      left ∙ sym (sym (rest_whole (octets ++ x ∷ [])) ∙ fold-append open_line_after_octet [] octets (x ∷ [])
          ∙ ap (λ (p : List ℕ). open_line_after_octet p x) at),
    )

-- ---- laws

inside : (octets : List ℕ) → All (λ x. x ≢ 10) octets → Inside octets
inside octets h = λ k d lt. ne_eqb (slice_index_or octets k d) 10 (h k d lt)

pub line_before_lf : (octets more : List ℕ) → All (λ octet. octet ≢ 10) octets →
    (lines_in (octets ++ 10 ∷ more) ≡ line_step_of octets ∷ lines_in more) × (open_in (octets ++ 10 ∷ more) ≡ open_in more)
line_before_lf octets more h =
    let whole = stream_is octets (10 ∷ more) (inside octets h) in
    let rest = stream_is [] more nothing_inside in
    (whole.0 ∙ ap (λ (ls : List LineStep). line_step_of octets ∷ ls) (sym rest.0), whole.1 ∙ sym rest.1)

pub open_without_lf : (octets : List ℕ) → All (λ octet. octet ≢ 10) octets → (lines_in octets ≡ []) × (open_in octets ≡ octets)
open_without_lf octets h =
    let parts : parts_of octets ≡ octets ∷ [] = slice_split_none (λ x. eqb x 10) octets (inside octets h) in
    (ap (λ (ps : List (List ℕ)). map line_step_of (all_but_last ps)) parts, ap last_of parts)

pub lines_in_pieces : (a b : List ℕ) → (lines_in (a ++ b) ≡ lines_in a ++ lines_in (open_in a ++ b)) ×
    (open_in (a ++ b) ≡ open_in (open_in a ++ b))
lines_in_pieces a b =
    let rest : List ℕ = fold next [] a in
    let whole = stream_is [] (a ++ b) nothing_inside in
    let first = stream_is [] a nothing_inside in
    let second = stream_is rest b (all_inside [] a nothing_inside) in (
      whole.0 ∙ ap (map line_step_of) (items-append next ended (λ lines. lines) [] a b)
          ∙ map-append line_step_of (all_ended [] a) (all_ended rest b)
          ∙ sym ((λ i. first.0 i ++ lines_in (first.1 i ++ b)) ∙ ap (λ (ls : List LineStep). map line_step_of (all_ended [] a) ++ ls)
          second.0),
      whole.1 ∙ fold-append next [] a b ∙ sym (ap (λ (begun : List ℕ). open_in (begun ++ b)) first.1 ∙ second.1),
    )
