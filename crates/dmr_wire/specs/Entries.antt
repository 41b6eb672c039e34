-- The record as it is stored: its entries, all octets that came, and all that were taken.
use Rattle.std.specs.Prelude.{◌≡◌, ℕ, List, [], ◌∷◌, length, drop, sum_by}
use Rattle.dmr_wire.specs.declared.wire.Got.TheVariants as got
use Rattle.dmr_wire.specs.declared.wire.Put.TheVariants as put
use Rattle.dmr_wire.specs.declared.port.Connect.TheVariants as connect
use Rattle.dmr_wire.specs.declared.port.Waited.TheVariants as waited
use Rattle.dmr_wire.specs.declared.recording.RecordEntry.{RecordEntry}
use Rattle.dmr_wire.specs.declared.recording.RecordEntry.TheVariants as entry
use Rattle.dmr_wire.specs.Answers.{Answer, Opened, NotYet, Finished, Came, InputEnded}
use Rattle.dmr_wire.specs.Answers.{ReadInterrupted, ReadBlocked, ReadFailed, Took, WriteInterrupted}
use Rattle.dmr_wire.specs.Answers.{WriteBlocked, WriteFailed, Again, Silent, of_read, of_write}
use Rattle.dmr_wire.specs.Answers.{of_connect, of_wait}

-- the entry of an answer: it has the number of the answer's octets instead of the octets
abbrev pub entry_of_answer : Answer → RecordEntry
entry_of_answer Opened = entry.Connect connect.Ready
entry_of_answer NotYet = entry.Connect connect.NotYet
entry_of_answer Finished = entry.Connect connect.Finished
entry_of_answer (Came octets) = entry.Read (got.Octets (length octets))
entry_of_answer InputEnded = entry.Read got.End
entry_of_answer ReadInterrupted = entry.Read got.Interrupted
entry_of_answer ReadBlocked = entry.Read got.Block
entry_of_answer ReadFailed = entry.Read got.Fault
entry_of_answer (Took octets) = entry.Write (put.Octets (length octets))
entry_of_answer WriteInterrupted = entry.Write put.Interrupted
entry_of_answer WriteBlocked = entry.Write put.Block
entry_of_answer WriteFailed = entry.Write put.Fault
entry_of_answer Again = entry.Wait waited.Again
entry_of_answer Silent = entry.Wait waited.Silent

-- the number of octets that came with an entry
abbrev pub came_with : RecordEntry → ℕ
came_with (entry.Read (got.Octets n)) = n
came_with other = 0

-- the number of octets that were taken with an entry
abbrev pub taken_with : RecordEntry → ℕ
taken_with (entry.Write (put.Octets n)) = n
taken_with other = 0

-- the answer of an entry, whose octets are the first of those that came, or of those that were taken
abbrev pub answer_of : RecordEntry → List ℕ → List ℕ → Answer
answer_of (entry.Connect answer) came taken = of_connect answer
answer_of (entry.Read answer) came taken = of_read answer came
answer_of (entry.Write answer) came taken = of_write answer taken
answer_of (entry.Wait answer) came taken = of_wait answer

-- the answers of entries, each with its octets
abbrev pub answers_of_entries : List RecordEntry → List ℕ → List ℕ → List Answer
answers_of_entries [] came taken = []
answers_of_entries (e ∷ entries) came taken =
    answer_of e came taken
    ∷ answers_of_entries entries (drop (came_with e) came) (drop (taken_with e) taken)

-- the octets are exactly those of the entries
pub record IsStored (entries : List RecordEntry) (came taken : List ℕ) : Type 0 where
  pub came_all : sum_by came_with entries ≡ length came
  pub taken_all : sum_by taken_with entries ≡ length taken
