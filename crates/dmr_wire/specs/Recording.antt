-- A record that is kept as long as there is room for its answers and for their octets.
use Rattle.std.specs.Prelude.{ℕ, ◌+◌, List, [], ◌∷◌, ◌++◌, Bool, false, true, not, ◌&&◌}
use Rattle.std.specs.Prelude.{if◌then◌else◌, nat_lt, nat_le, Option, Some, None, length, sum_by}
use Rattle.std.specs.List.{flat_map}
use Rattle.dmr_wire.specs.Answers.{Answer, Came, Took}

-- the octets that came or were taken with an answer
abbrev pub octets_of_answer : Answer → List ℕ
octets_of_answer (Came octets) = octets
octets_of_answer (Took octets) = octets
octets_of_answer other = []

-- the number of octets that came or were taken with answers, in all
abbrev pub count_in : List Answer → ℕ
count_in answers = sum_by (λ a. length (octets_of_answer a)) answers

-- the octets that were taken with an answer
abbrev pub octets_taken : Answer → List ℕ
octets_taken (Took octets) = octets
octets_taken other = []

-- the octets that were taken with answers, in order
abbrev pub taken_in : List Answer → List ℕ
taken_in answers = flat_map octets_taken answers

-- the answers that are kept, oldest first; and whether one had no room, which ended the record
pub record Recording : Type 0 where
  pub room : ℕ
  pub answers : List Answer
  pub is_over : Bool

-- an empty record, with room for `room` answers and for `room` octets
abbrev pub empty_recording : ℕ → Recording
empty_recording room = record { room = room; answers = []; is_over = false }

-- the record that is reported: none after the first answer that had no room
abbrev pub reported_by : Recording → Option (List Answer)
reported_by recording = if recording.is_over then None else Some recording.answers

-- whether there is room for one more answer, with this many octets
abbrev pub has_room_for : Recording → ℕ → Bool
has_room_for recording count =
    nat_lt (length recording.answers) recording.room
    && nat_le (count_in recording.answers + count) recording.room

-- the record after one more answer
abbrev pub recording_with : Recording → Answer → Recording
recording_with recording answer =
    if not recording.is_over && has_room_for recording (length (octets_of_answer answer))
    then record recording { answers = recording.answers ++ answer ∷ [] }
    else record recording { is_over = true }
