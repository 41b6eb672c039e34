-- Worked values of the answers of a port in memory, and of its record.
use Rattle.std.proofs.Common.{◌≡◌, [], ◌∷◌, Some, None, map, refl}
use Rattle.dmr_wire.specs.declared.wire.Got.TheVariants as got
use Rattle.dmr_wire.specs.declared.wire.Put.TheVariants as put
use Rattle.dmr_wire.specs.declared.port.Connect.TheVariants as connect
use Rattle.dmr_wire.specs.declared.port.Waited.TheVariants as waited
use Rattle.dmr_wire.specs.declared.script.Reading.TheVariants.{Feed, Says}
use Rattle.dmr_wire.specs.declared.step.Step.TheVariants as step
use Rattle.dmr_wire.specs.declared.recording.RecordEntry.TheVariants as entry
use Rattle.dmr_wire.specs.Answers.{Opened, Came, InputEnded, ReadInterrupted, Took, WriteBlocked, Again, Silent, of_read, of_write}
use Rattle.dmr_wire.specs.Recording.{taken_in, empty_recording, recording_with, reported_by}
use Rattle.dmr_wire.specs.Entries.{entry_of_answer, answers_of_entries}
use Rattle.dmr_wire.specs.Memory.{next_got, next_octets, reads_left, next_put}
use Rattle.dmr_wire.specs.Script.{feed_of, memory_of}

-- ---- answers

three_of_four : of_read (got.Octets 3) (1 ∷ 2 ∷ 3 ∷ 9 ∷ []) ≡ Came (1 ∷ 2 ∷ 3 ∷ [])
three_of_four = refl

interrupted : of_read got.Interrupted (9 ∷ 9 ∷ []) ≡ ReadInterrupted
interrupted = refl

two_taken : of_write (put.Octets 2) (1 ∷ 2 ∷ 3 ∷ []) ≡ Took (1 ∷ 2 ∷ [])
two_taken = refl

none_taken : of_write (put.Octets 0) (1 ∷ []) ≡ Took []
none_taken = refl

-- the octets in the order in which they were taken
all_taken : taken_in (Opened ∷ Took (1 ∷ 2 ∷ []) ∷ Came (9 ∷ []) ∷ Took (4 ∷ []) ∷ Silent ∷ []) ≡ 1 ∷ 2 ∷ 4 ∷ []
all_taken = refl

-- ---- reads and writes

first_that_fit : next_got (Feed (1 ∷ 2 ∷ 3 ∷ []) ∷ Feed (4 ∷ []) ∷ []) 2 ≡ got.Octets 2
first_that_fit = refl

first_octets : next_octets (Feed (1 ∷ 2 ∷ 3 ∷ []) ∷ Feed (4 ∷ []) ∷ []) 2 ≡ 1 ∷ 2 ∷ []
first_octets = refl

others_left : reads_left (Feed (1 ∷ 2 ∷ 3 ∷ []) ∷ Feed (4 ∷ []) ∷ []) 2 ≡ Feed (3 ∷ []) ∷ Feed (4 ∷ []) ∷ []
others_left = refl

-- a read does not continue into the next feed
not_joined : next_octets (Feed (3 ∷ []) ∷ Feed (4 ∷ []) ∷ []) 2 ≡ 3 ∷ []
not_joined = refl

used_up : reads_left (Feed (3 ∷ []) ∷ Feed (4 ∷ []) ∷ []) 1 ≡ Feed (4 ∷ []) ∷ []
used_up = refl

fault_then_feed : reads_left (Says got.Fault ∷ Feed (4 ∷ []) ∷ []) 8 ≡ Feed (4 ∷ []) ∷ []
fault_then_feed = refl

no_more : next_got [] 8 ≡ got.End
no_more = refl

shorter_slice : next_put (put.Octets 9 ∷ []) 3 ≡ put.Octets 3
shorter_slice = refl

partial_write : next_put (put.Octets 1 ∷ []) 3 ≡ put.Octets 1
partial_write = refl

blocked : next_put (put.Block ∷ put.Octets 1 ∷ []) 3 ≡ put.Block
blocked = refl

all_without_steps : next_put [] 3 ≡ put.Octets 3
all_without_steps = refl

-- ---- steps

by_kind : memory_of (step.Wait waited.Again ∷ step.Read got.Block ∷ step.Connect connect.Ready ∷ step.Read
    (got.Octets 2) ∷ step.Read got.End ∷ []) 7
    ≡ record {
      connects = connect.Ready ∷ [];
      reads = Says got.Block ∷ Says got.End ∷ [];
      writes = [];
      waits = waited.Again ∷ [];
      recording = empty_recording 7;
    }
by_kind = refl

empty_feed : feed_of [] ≡ None
empty_feed = refl

-- ---- the record and its room

nothing_yet : reported_by (empty_recording 2) ≡ Some []
nothing_yet = refl

two_answers : reported_by (recording_with (recording_with (empty_recording 2) Opened) (Came (5 ∷ 6 ∷ []))) ≡ Some
    (Opened ∷ Came (5 ∷ 6 ∷ []) ∷ [])
two_answers = refl

three_answers : reported_by (recording_with (recording_with (recording_with (empty_recording 2) Opened) InputEnded) Again) ≡ None
three_answers = refl

three_octets : reported_by (recording_with (recording_with (empty_recording 2) (Came (5 ∷ 6 ∷ []))) (Took (7 ∷ []))) ≡ None
three_octets = refl

-- after an answer that had no room, the record is not reported even if the next answer would fit
never_again : reported_by (recording_with (recording_with (empty_recording 2) (Took (5 ∷ 6 ∷ 7 ∷ []))) WriteBlocked) ≡ None
never_again = refl

-- the octets taken before that remain
taken_till_then : taken_in (recording_with (recording_with (empty_recording 2) (Took (5 ∷ []))) (Took (6 ∷ 7 ∷ []))).answers ≡ 5 ∷ []
taken_till_then = refl

-- ---- entries

stored : answers_of_entries (entry.Read (got.Octets 2) ∷ entry.Write (put.Octets 1) ∷ entry.Read got.End ∷ entry.Write (put.Octets 2) ∷ [])
    (1 ∷ 2 ∷ []) (7 ∷ 8 ∷ 9 ∷ [])
    ≡ Came (1 ∷ 2 ∷ []) ∷ Took (7 ∷ []) ∷ InputEnded ∷ Took (8 ∷ 9 ∷ []) ∷ []
stored = refl

without_octets : map entry_of_answer (Came (1 ∷ 2 ∷ []) ∷ Took [] ∷ Opened ∷ []) ≡ entry.Read (got.Octets 2) ∷ entry.Write
    (put.Octets 0) ∷ entry.Connect connect.Ready ∷ []
without_octets = refl
