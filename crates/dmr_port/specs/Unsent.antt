-- The octets that are written to a connection, and the reads between.
use Rattle.std.specs.Prelude.{◌≡◌, ℕ, Bool, List, [], ◌++◌, Option}
use Rattle.dmr_wire.specs.declared.wire.Got.{Got}
use Rattle.dmr_wire.specs.declared.wire.Put.{Put}
use Rattle.dmr_wire.specs.declared.wire.Put.TheVariants as put
use Rattle.dmr_wire.specs.Answers.{Answer}
use Rattle.dmr_port.specs.Record.{Carries, Reads}

-- octets pass in order: of those kept before, and then those written, the sockets took the first, and the others are
-- kept now
pub record PassesOctets (before : Option (List Answer)) (waiting octets : List ℕ)
    (after : Option (List Answer)) (waiting' : List ℕ) : Type 0 where
  pub sent : List ℕ
  pub carries : Carries before [] sent after
  pub split : waiting ++ octets ≡ sent ++ waiting'

-- octets that are kept are sent, and then the connection is read
pub record ReadsAfterSending (is_carrier : Bool) (first : List ℕ) (before : Option (List Answer))
    (waiting : List ℕ) (result : Got) (octets first' : List ℕ) (after : Option (List Answer))
    (waiting' : List ℕ) : Type 0 where
  pub between : Option (List Answer)
  pub passes : PassesOctets before waiting [] between waiting'
  pub reads : Reads is_carrier first between result octets first' after

-- the number of octets that a write took
abbrev pub count_put : Put → ℕ
count_put (put.Octets n) = n
count_put other = 0
