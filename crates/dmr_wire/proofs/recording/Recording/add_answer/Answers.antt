use Rattle.std.proofs.Common.{◌≡◌, ◌+◌, ◌≤◌, List, ◌∷◌, [], ◌++◌, false, length, take, arith, sym, ◌∙◌, ap, length-append, length-take-le}
use Rattle.std.proofs.lemmas.Grind.{common_steps}
use Rattle.dmr_wire.specs.Answers.{Answer}
use Rattle.dmr_wire.specs.Recording.{Recording, octets_of_answer, has_room_for}
use Rattle.dmr_wire.specs.Entries.{IsStored, came_with, taken_with, answer_of, answers_of_entries}
use Rattle.dmr_wire.proofs.RecordingLemmas.{room_for_an_answer, octets_of_answer-answer_of, answers_of_entries-push, stored_push}
use Rattle.dmr_wire.proofs.RecordingLemmas.{recording_with-kept}
use Rattle.dmr_wire.proofs.recording.Recording.add_answer.Goals as goal

pub unwrap-requires : goal.unwrap-requires
unwrap-requires c =
    let a = c.self.inside in
    let room = room_for_an_answer a _ _ c.self.invariant.0 c.self.view_is c.if-not-has_room.ensures in
    c.extend_from_slice.ensures.succeeds (omega (arith, room, c.self.invariant, a.came.ok.0))

pub unwrap-requires-2 : goal.unwrap-requires-2
unwrap-requires-2 c =
    let a = c.self.inside in
    let room = room_for_an_answer a _ _ c.self.invariant.0 c.self.view_is c.if-not-has_room.ensures in
    c.extend_from_slice-2.ensures.succeeds (omega (arith, room, c.self.invariant, a.taken.ok.0))

pub push_reserved-requires : goal.push_reserved-requires
push_reserved-requires c =
    let a = c.self.inside in
    let room = room_for_an_answer a _ _ c.self.invariant.0 c.self.view_is c.if-not-has_room.ensures in
    omega (arith, room, c.self.invariant, a.entries.ok.0)

-- the octets are appended to the stored ones
came_stored : (c : goal.After-push_reserved) → c.extend_from_slice.new.self.items ≡ c.self.inside.came.items ++ take
    (came_with c.args.entry) c.args.octets.now
came_stored c = grind (arith, common_steps, c.extend_from_slice.ensures.items, c.unwrap.ensures, c.count_came.ensures)

taken_stored : (c : goal.After-push_reserved) → c.extend_from_slice-2.new.self.items ≡ c.self.inside.taken.items ++ take
    (taken_with c.args.entry) c.args.octets.now
taken_stored c = grind (arith, common_steps, c.extend_from_slice-2.ensures.items, c.unwrap-2.ensures, c.count_taken.ensures)

pub invariant_of-self-2 : goal.invariant_of-self-2
invariant_of-self-2 c =
    let a = c.self.inside in
    let i = c.self.invariant in
    let octets = c.args.octets.now in
    let room = room_for_an_answer a _ _ i.0 c.self.view_is c.if-not-has_room.ensures in
    let stored : IsStored c.push_reserved.new.self.items c.extend_from_slice.new.self.items c.extend_from_slice-2.new.self.items =
    rw (c.push_reserved.ensures.items, came_stored c, taken_stored c)
    (stored_push a.entries.items c.args.entry a.came.items a.taken.items octets i.0 c.requires) in
    let came = ap length (came_stored c) ∙ length-append a.came.items (take (came_with c.args.entry) octets) in
    let taken = ap length (taken_stored c) ∙ length-append a.taken.items (take (taken_with c.args.entry) octets) in
    let count_came = ap (λ n. length (take n octets)) c.count_came.ensures in
    let count_taken = ap (λ n. length (take n octets)) c.count_taken.ensures in (
      stored,
      omega (arith, c.push_reserved.ensures.len, room.0, a.entries.ok.0),
      omega (arith, room.1, came, taken, count_came, count_taken, c.extend_from_slice.new.self.ok.0, c.extend_from_slice-2.new.self.ok.0),
      omega (arith, c.push_reserved.ensures.capacity, i.3),
      omega (arith, i.4, c.extend_from_slice.ensures.capacity),
      omega (arith, i.5, c.extend_from_slice-2.ensures.capacity),
    )

pub returns : goal.returns
returns c =
    let a = c.self.inside in
    let e = c.args.entry in
    let octets = c.args.octets.now in
    let answer = answer_of e octets octets in
    let answers = answers_of_entries a.entries.items a.came.items a.taken.items in
    let kept : answers_of_entries c.push_reserved.new.self.items c.extend_from_slice.new.self.items
    c.extend_from_slice-2.new.self.items ≡ answers ++ answer ∷ [] =
    rw (c.push_reserved.ensures.items, came_stored c, taken_stored c)
    (answers_of_entries-push a.entries.items e a.came.items a.taken.items octets c.self.invariant.0) in
    let not_over : c.args.self.now.is_over ≡ false = sym (ap (λ (r : Recording). r.is_over) c.self.view_is) ∙ c.if-self.false in
    let count : length (take c.count_came.result octets) + length (take c.count_taken.result octets) ≡ length (octets_of_answer answer) =
    let came : came_with e ≤ length octets = omega (arith, c.requires) in
    let taken : taken_with e ≤ length octets = omega (arith, c.requires) in
    omega (
      arith,
      octets_of_answer-answer_of e octets octets came taken,
      length-take-le (came_with e) octets came,
      length-take-le (taken_with e) octets taken,
      ap (λ n. length (take n octets)) c.count_came.ensures,
      ap (λ n. length (take n octets)) c.count_taken.ensures,
    ) in
    let room = sym (c.if-not-has_room.ensures ∙ ap (has_room_for c.args.self.now) count) in
    ap (λ (xs : List Answer). let r : Recording = record { room = a.room; answers = xs; is_over = a.is_over } in r) kept
    ∙ ap (λ (r : Recording). let q : Recording = record r { answers = r.answers ++ answer ∷ [] } in q) c.self.view_is
    ∙ recording_with-kept c.args.self.now answer not_over room
