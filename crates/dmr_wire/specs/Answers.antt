-- The answers of a port, and the record of them that it reports.
use Rattle.std.specs.Prelude.{◌≡◌, ℕ, ◌≤◌, List, ◌++◌, Option, Some, take}
use Rattle.dmr_wire.specs.declared.wire.Got.{Got}
use Rattle.dmr_wire.specs.declared.wire.Got.TheVariants as got
use Rattle.dmr_wire.specs.declared.wire.Put.{Put}
use Rattle.dmr_wire.specs.declared.wire.Put.TheVariants as put
use Rattle.dmr_wire.specs.declared.port.Connect.{Connect}
use Rattle.dmr_wire.specs.declared.port.Connect.TheVariants as connect
use Rattle.dmr_wire.specs.declared.port.Waited.{Waited}
use Rattle.dmr_wire.specs.declared.port.Waited.TheVariants as waited

-- an answer of a port to a connect, a read, a write or a wait, with the octets that came or were taken
pub data Answer : Type 0 where
  Opened : Answer
  NotYet : Answer
  Finished : Answer
  Came : (octets : List ℕ) → Answer
  InputEnded : Answer
  ReadInterrupted : Answer
  ReadBlocked : Answer
  ReadFailed : Answer
  Took : (octets : List ℕ) → Answer
  WriteInterrupted : Answer
  WriteBlocked : Answer
  WriteFailed : Answer
  Again : Answer
  Silent : Answer

-- the answer of a read that left these octets in the slice
abbrev pub of_read : Got → List ℕ → Answer
of_read (got.Octets n) octets = Came (take n octets)
of_read got.End octets = InputEnded
of_read got.Interrupted octets = ReadInterrupted
of_read got.Block octets = ReadBlocked
of_read got.Fault octets = ReadFailed

-- the answer of a write of these octets
abbrev pub of_write : Put → List ℕ → Answer
of_write (put.Octets n) octets = Took (take n octets)
of_write put.Interrupted octets = WriteInterrupted
of_write put.Block octets = WriteBlocked
of_write put.Fault octets = WriteFailed

-- the answer of a connect
abbrev pub of_connect : Connect → Answer
of_connect connect.Ready = Opened
of_connect connect.NotYet = NotYet
of_connect connect.Finished = Finished

-- the answer of a wait
abbrev pub of_wait : Waited → Answer
of_wait waited.Again = Again
of_wait waited.Silent = Silent

-- a read that returns octets returns at least one, and at most as many as the slice holds
abbrev pub GotWithin : Got → ℕ → Type 0
GotWithin (got.Octets n) len = (1 ≤ n) × (n ≤ len)
GotWithin other len = Unit {0}

-- a write takes at most as many octets as the slice holds
abbrev pub PutWithin : Put → ℕ → Type 0
PutWithin (put.Octets n) len = n ≤ len
PutWithin other len = Unit {0}

-- the port gave these answers between two moments: if it reports a record at the second, that is the record of the
-- first with these answers appended
pub record Reports (before : Option (List Answer)) (answers : List Answer)
    (after : Option (List Answer)) : Type 0 where
  pub follows : (whole : List Answer) → after ≡ Some whole
      → (begun : List Answer) × (before ≡ Some begun) × (whole ≡ begun ++ answers)
