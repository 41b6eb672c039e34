-- A record and its stored form, as an entry and its octets are added.
use Rattle.std.proofs.Common.{suc, ◌≡◌, ℕ, ◌+◌, ◌-◌, ◌<◌, ◌≤◌, List, [], ◌∷◌, ◌++◌, Bool, true, false, ◌&&◌, nat_lt, nat_le, length, take}
use Rattle.std.proofs.Common.{drop, map, refl, sym, ◌∙◌, ap, arith, length-append, length-drop, length-take-le}
use Rattle.std.proofs.lemmas.List.Sums.{sum_by-cons, sum_by_push}
use Rattle.std.proofs.lemmas.List.{take-append-le, drop-append-le, take-append-drop, take-take}
use Rattle.dmr_wire.specs.declared.wire.Got.TheVariants as got
use Rattle.dmr_wire.specs.declared.wire.Put.TheVariants as put
use Rattle.dmr_wire.specs.declared.port.Connect.TheVariants as connect
use Rattle.dmr_wire.specs.declared.port.Waited.TheVariants as waited
use Rattle.dmr_wire.specs.declared.recording.RecordEntry.{RecordEntry}
use Rattle.dmr_wire.specs.declared.recording.RecordEntry.TheVariants as entry
use Rattle.dmr_wire.specs.declared.recording.Recording.TheInside.{Inside}
use Rattle.dmr_wire.specs.Answers.{Answer, Came, Took}
use Rattle.dmr_wire.specs.Recording.{Recording, octets_of_answer, count_in, octets_taken, taken_in, has_room_for, recording_with}
use Rattle.dmr_wire.specs.Entries.{entry_of_answer, came_with, taken_with, answer_of, answers_of_entries, IsStored}

-- ---- one entry

-- octets after those of the entry change nothing
answer_of-after : (e : RecordEntry) (c cs t ts : List ℕ) → came_with e ≤ length c → taken_with e ≤ length t →
    answer_of e (c ++ cs) (t ++ ts) ≡ answer_of e c t
answer_of-after (entry.Read (got.Octets n)) c cs t ts h k = ap Came (take-append-le n c cs h)
answer_of-after (entry.Write (put.Octets n)) c cs t ts h k = ap Took (take-append-le n t ts k)
answer_of-after other c cs t ts h k = refl

-- its own octets are enough
answer_of-take : (e : RecordEntry) (octets : List ℕ) → answer_of e (take (came_with e) octets)
    (take (taken_with e) octets) ≡ answer_of e octets octets
answer_of-take (entry.Read (got.Octets n)) octets = ap Came (take-take n n octets (omega arith))
answer_of-take (entry.Write (put.Octets n)) octets = ap Took (take-take n n octets (omega arith))
answer_of-take other octets = refl

-- In the lemmas below the cases of a connect and of a wait are named so that the last line is one for each of the
-- others.

-- the entry of its answer is the entry itself
entry_of_answer-answer_of : (e : RecordEntry) (c t : List ℕ) → came_with e ≤ length c → taken_with e ≤ length t →
    entry_of_answer (answer_of e c t) ≡ e
entry_of_answer-answer_of (entry.Read (got.Octets n)) c t h k = ap (λ m. entry.Read (got.Octets m)) (length-take-le n c h)
entry_of_answer-answer_of (entry.Write (put.Octets n)) c t h k = ap (λ m. entry.Write (put.Octets m)) (length-take-le n t k)
entry_of_answer-answer_of (entry.Connect connect.Ready) c t h k = refl
entry_of_answer-answer_of (entry.Wait waited.Again) c t h k = refl
entry_of_answer-answer_of other c t h k = refl

-- the number of octets of its answer
pub octets_of_answer-answer_of : (e : RecordEntry) (c t : List ℕ) → came_with e ≤ length c → taken_with e ≤ length t →
    length (octets_of_answer (answer_of e c t)) ≡ came_with e + taken_with e
octets_of_answer-answer_of (entry.Read (got.Octets n)) c t h k = let e = length-take-le n c h in omega (arith, e)
octets_of_answer-answer_of (entry.Write (put.Octets n)) c t h k = let e = length-take-le n t k in omega (arith, e)
octets_of_answer-answer_of (entry.Connect connect.Ready) c t h k = refl
octets_of_answer-answer_of (entry.Wait waited.Again) c t h k = refl
octets_of_answer-answer_of other c t h k = refl

-- the octets that were taken with it
octets_taken-answer_of : (e : RecordEntry) (c t : List ℕ) → octets_taken (answer_of e c t) ≡ take (taken_with e) t
octets_taken-answer_of (entry.Read (got.Octets n)) c t = refl
octets_taken-answer_of (entry.Write (put.Octets n)) c t = refl
octets_taken-answer_of (entry.Connect connect.Ready) c t = refl
octets_taken-answer_of (entry.Wait waited.Again) c t = refl
octets_taken-answer_of other c t = refl

-- ---- what is stored after an entry

came_first : (e : RecordEntry) (es : List RecordEntry) (c t : List ℕ) → IsStored (e ∷ es) c t → came_with e ≤ length c
came_first e es c t s = let all = sum_by-cons came_with e es in omega (arith, all, s.came_all)

taken_first : (e : RecordEntry) (es : List RecordEntry) (c t : List ℕ) → IsStored (e ∷ es) c t → taken_with e ≤ length t
taken_first e es c t s = let all = sum_by-cons taken_with e es in omega (arith, all, s.taken_all)

stored_rest : (e : RecordEntry) (es : List RecordEntry) (c t : List ℕ) → IsStored (e ∷ es) c t →
    IsStored es (drop (came_with e) c) (drop (taken_with e) t)
stored_rest e es c t s =
    let came = sum_by-cons came_with e es in
    let taken = sum_by-cons taken_with e es in record {
      came_all = omega (arith, came, s.came_all, length-drop (came_with e) c);
      taken_all = omega (arith, taken, s.taken_all, length-drop (taken_with e) t);
    }

-- ---- all answers

pub length-answers_of : (es : List RecordEntry) (c t : List ℕ) → length (answers_of_entries es c t) ≡ length es
length-answers_of [] c t = refl
length-answers_of (e ∷ es) c t = ap suc (length-answers_of es (drop (came_with e) c) (drop (taken_with e) t))

pub count_in-answers_of : (es : List RecordEntry) (c t : List ℕ) → IsStored es c t →
    count_in (answers_of_entries es c t) ≡ length c + length t
count_in-answers_of [] c t s = omega (arith, s.came_all, s.taken_all)
count_in-answers_of (e ∷ es) c t s =
    let rest = count_in-answers_of es (drop (came_with e) c) (drop (taken_with e) t) (stored_rest e es c t s) in
    let came = came_first e es c t s in
    let taken = taken_first e es c t s in
    let one = octets_of_answer-answer_of e c t came taken in
    let all = sum_by-cons (λ a. length (octets_of_answer a)) (answer_of e c t)
    (answers_of_entries es (drop (came_with e) c) (drop (taken_with e) t)) in
    omega (arith, all, one, rest, came, taken, length-drop (came_with e) c, length-drop (taken_with e) t)

pub taken_in-answers_of : (es : List RecordEntry) (c t : List ℕ) → IsStored es c t → taken_in (answers_of_entries es c t) ≡ t
taken_in-answers_of [] c [] s = refl
taken_in-answers_of [] c (x ∷ t) s = absurd (omega (arith, s.taken_all))
taken_in-answers_of (e ∷ es) c t s =
    let rest = taken_in-answers_of es (drop (came_with e) c) (drop (taken_with e) t) (stored_rest e es c t s) in
    ap (λ xs. xs ++ taken_in (answers_of_entries es (drop (came_with e) c) (drop (taken_with e) t))) (octets_taken-answer_of e c t)
    ∙ ap (λ xs. take (taken_with e) t ++ xs) rest
    ∙ take-append-drop (taken_with e) t

pub entries-answers_of : (es : List RecordEntry) (c t : List ℕ) → IsStored es c t → map entry_of_answer (answers_of_entries es c t) ≡ es
entries-answers_of [] c t s = refl
entries-answers_of (e ∷ es) c t s =
    let rest = entries-answers_of es (drop (came_with e) c) (drop (taken_with e) t) (stored_rest e es c t s) in
    let one = entry_of_answer-answer_of e c t (came_first e es c t s) (taken_first e es c t s) in
    ap (λ d. d ∷ map entry_of_answer (answers_of_entries es (drop (came_with e) c) (drop (taken_with e) t))) one ∙ ap (λ ds. e ∷ ds) rest

-- ---- one more entry, with its octets appended

answers_of_entries-append : (es ds : List RecordEntry) (c cs t ts : List ℕ) → IsStored es c t →
    answers_of_entries (es ++ ds) (c ++ cs) (t ++ ts) ≡ answers_of_entries es c t ++ answers_of_entries ds cs ts
answers_of_entries-append [] ds [] cs [] ts s = refl
answers_of_entries-append [] ds (x ∷ c) cs t ts s = absurd (omega (arith, s.came_all))
answers_of_entries-append [] ds [] cs (x ∷ t) ts s = absurd (omega (arith, s.taken_all))
answers_of_entries-append (e ∷ es) ds c cs t ts s =
    let n = came_with e in
    let m = taken_with e in
    let came : n ≤ length c = came_first e es c t s in
    let taken : m ≤ length t = taken_first e es c t s in
    let rest = answers_of_entries-append es ds (drop n c) cs (drop m t) ts (stored_rest e es c t s) in
    ap (λ a. a ∷ answers_of_entries (es ++ ds) (drop n (c ++ cs)) (drop m (t ++ ts))) (answer_of-after e c cs t ts came taken)
    ∙ ap (λ xs. answer_of e c t ∷ answers_of_entries (es ++ ds) xs (drop m (t ++ ts))) (drop-append-le n c cs came)
    ∙ ap (λ xs. answer_of e c t ∷ answers_of_entries (es ++ ds) (drop n c ++ cs) xs) (drop-append-le m t ts taken)
    ∙ ap (λ answers. answer_of e c t ∷ answers) rest

pub answers_of_entries-push : (es : List RecordEntry) (e : RecordEntry) (c t octets : List ℕ) → IsStored es c t
    → answers_of_entries (es ++ e ∷ []) (c ++ take (came_with e) octets)
    (t ++ take (taken_with e) octets) ≡ answers_of_entries es c t ++ answer_of e octets octets ∷ []
answers_of_entries-push es e c t octets s =
    answers_of_entries-append es (e ∷ []) c (take (came_with e) octets) t (take (taken_with e) octets) s
    ∙ ap (λ a. answers_of_entries es c t ++ a ∷ []) (answer_of-take e octets)

pub stored_push : (es : List RecordEntry) (e : RecordEntry) (c t octets : List ℕ) → IsStored es c t →
    came_with e + taken_with e ≤ length octets
    → IsStored (es ++ e ∷ []) (c ++ take (came_with e) octets) (t ++ take (taken_with e) octets)
stored_push es e c t octets s h =
    let came = take (came_with e) octets in
    let taken = take (taken_with e) octets in record {
      came_all = omega (
        arith,
        s.came_all,
        sum_by_push came_with es e,
        length-append c came,
        length-take-le (came_with e) octets (omega (arith, h)),
      );
      taken_all = omega (
        arith,
        s.taken_all,
        sum_by_push taken_with es e,
        length-append t taken,
        length-take-le (taken_with e) octets (omega (arith, h)),
      );
    }

-- ---- a record with its stored form

-- the remaining room
pub has_room_for-stored : (room : ℕ) (es : List RecordEntry) (c t : List ℕ) (is_over : Bool) (n : ℕ) → IsStored es c t →
    length c + length t ≤ room
    → has_room_for (record { room = room; answers = answers_of_entries es c t; is_over = is_over }) n ≡ nat_lt (length es) room && nat_le n
    (room - length c - length t)
has_room_for-stored room es c t is_over n s h = grind (arith, h, length-answers_of es c t, count_in-answers_of es c t s)

-- if there is room for one more answer, there is room for its entry and its octets
pub room_for_an_answer : (a : Inside) (r : Recording) (n : ℕ) → IsStored a.entries.items a.came.items a.taken.items
    → record { room = a.room; answers = answers_of_entries a.entries.items a.came.items a.taken.items; is_over = a.is_over } ≡ r →
    true ≡ has_room_for r n
    → (length a.entries.items < a.room) × (length a.came.items + length a.taken.items + n ≤ a.room)
room_for_an_answer a r n s v h =
    let entries = length-answers_of a.entries.items a.came.items a.taken.items in
    let octets = count_in-answers_of a.entries.items a.came.items a.taken.items s in
    let room : true ≡ has_room_for (record
    { room = a.room; answers = answers_of_entries a.entries.items a.came.items a.taken.items; is_over = a.is_over }) n = h
    ∙ ap (λ q. has_room_for q n) (sym v) in
    (grind (arith, entries, room), grind (arith, octets, room))

-- if the record is not over and has room for the answer, the answer is kept
pub recording_with-kept : (r : Recording) (a : Answer) → r.is_over ≡ false → has_room_for r (length (octets_of_answer a)) ≡ true →
    record r { answers = r.answers ++ a ∷ [] } ≡ recording_with r a
recording_with-kept r a h k = grind (arith, h, k)
