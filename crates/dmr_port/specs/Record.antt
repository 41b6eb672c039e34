-- What a port's record has to do with what its sockets answered: of each connection, the octets that came and those
-- that were taken.
use Rattle.std.specs.Prelude.{◌≡◌, ◌≢◌, ◌⊎◌, ◌++◌, ◌||◌, Bool, true, false, not, ℕ, List, [], ◌∷◌}
use Rattle.std.specs.Prelude.{Option, Some, None, take}
use Rattle.dmr_wire.specs.declared.wire.Got.{Got}
use Rattle.dmr_wire.specs.declared.wire.Got.TheVariants as got
use Rattle.dmr_wire.specs.Answers.{Answer, Opened, Came, InputEnded, ReadInterrupted, ReadBlocked}
use Rattle.dmr_wire.specs.Answers.{ReadFailed, Reports}
use Rattle.dmr_wire.specs.Recording.{octets_taken}
use Rattle.dmr_port.specs.FirstOctets.{begins_http}

-- the octets of a connection, in order: those that came, and those that were taken
pub record Traffic : Type 0 where
  pub came : List ℕ
  pub taken : List ℕ

-- a connection that has just begun
abbrev pub no_traffic : Traffic
no_traffic = record { came = []; taken = [] }

-- more octets of the newest connection
abbrev pub with_octets : List ℕ → List ℕ → List Traffic → List Traffic
with_octets came taken [] = []
with_octets came taken (newest ∷ earlier) =
    record { came = newest.came ++ came; taken = newest.taken ++ taken } ∷ earlier

-- the octets that came with an answer
abbrev pub octets_came : Answer → List ℕ
octets_came (Came octets) = octets
octets_came other = []

-- the connections after one more answer, the newest first
abbrev pub traffic_then : List Traffic → Answer → List Traffic
traffic_then traffic Opened = no_traffic ∷ traffic
traffic_then traffic answer = with_octets (octets_came answer) (octets_taken answer) traffic

-- the connections after more answers
abbrev pub traffic_after : List Traffic → List Answer → List Traffic
traffic_after traffic [] = traffic
traffic_after traffic (answer ∷ answers) = traffic_after (traffic_then traffic answer) answers

-- the connections of a record, the newest first
abbrev pub traffic_of : List Answer → List Traffic
traffic_of answers = traffic_after [] answers

-- the answers between two moments: on the newest connection these octets came, and these were taken
pub record Carries (before : Option (List Answer)) (came taken : List ℕ)
    (after : Option (List Answer)) : Type 0 where
  pub answers : List Answer
  pub log : Reports before answers after
  pub carried : (traffic : List Traffic)
      → traffic_after traffic answers ≡ with_octets came taken traffic

-- the first eight octets of a connection after the answer to a read, or after none
abbrev pub first_after : List ℕ → List Answer → List ℕ
first_after first [] = first
first_after first (Came octets ∷ answers) = take 8 (first ++ octets)
first_after first (answer ∷ answers) = first

-- a read returned what the sockets answered to a read, if they were asked: octets that came, or the end. It returned
-- the end, too, if octets came that complete a request of HTTP to the operators' port; `first` are those before them
abbrev pub IsReadFrom : Bool → List ℕ → Got → List ℕ → List Answer → Type 0
IsReadFrom is_carrier first (got.Octets n) octets answers =
    (answers ≡ Came (take n octets) ∷ [])
    × (is_carrier || not (begins_http (take 8 (first ++ take n octets))) ≡ true)
IsReadFrom is_carrier first got.End octets answers =
    (answers ≡ InputEnded ∷ [])
    ⊎ ((withheld : List ℕ) × (answers ≡ Came withheld ∷ []) × (is_carrier ≡ false)
    × (begins_http (take 8 (first ++ withheld)) ≡ true))
IsReadFrom is_carrier first got.Interrupted octets answers = answers ≡ ReadInterrupted ∷ []
IsReadFrom is_carrier first got.Block octets answers =
    (answers ≡ []) ⊎ (answers ≡ ReadBlocked ∷ [])
IsReadFrom is_carrier first got.Fault octets answers =
    (answers ≡ []) ⊎ (answers ≡ ReadFailed ∷ [])

-- a read, and what the sockets answered meanwhile. The connection's first octets before it, and after it, are `first`
-- and `first'`
pub record Reads (is_carrier : Bool) (first : List ℕ) (before : Option (List Answer))
    (result : Got) (octets first' : List ℕ) (after : Option (List Answer)) : Type 0 where
  pub answers : List Answer
  pub log : Reports before answers after
  pub from : IsReadFrom is_carrier first result octets answers
  pub begins : first' ≡ first_after first answers

-- of the octets that came on a connection these were given to the link: all of them. On the operators' port those that
-- complete a request of HTTP, and those after them, are withheld
pub record WereGiven (is_carrier : Bool) (came given : List ℕ) : Type 0 where
  pub withheld : List ℕ
  pub whole : came ≡ given ++ withheld
  pub http : withheld ≢ [] → (is_carrier ≡ false) × (begins_http (take 8 came) ≡ true)
  pub admitted : is_carrier || not (begins_http (take 8 given)) ≡ true

-- the connection that is served, as its sockets' log and as the port's record have it: the sockets took what the port
-- took, except for what is kept
pub record IsServedAlike (is_carrier : Bool) (first unsent : List ℕ)
    (sockets port : Traffic) : Type 0 where
  pub given : WereGiven is_carrier sockets.came port.came
  pub begins : first ≡ take 8 sockets.came
  pub taken : port.taken ≡ sockets.taken ++ unsent

-- a connection that has ended: what was kept was dropped, and the sockets took no octet after it
pub record HasEndedAlike (is_carrier : Bool) (sockets port : Traffic) : Type 0 where
  pub dropped : List ℕ
  pub given : WereGiven is_carrier sockets.came port.came
  pub taken : port.taken ≡ sockets.taken ++ dropped

-- connections that have ended, each as the log and as the record have it
abbrev pub HaveEndedAlike : Bool → List Traffic → List Traffic → Type 0
HaveEndedAlike is_carrier [] [] = Unit {0}
HaveEndedAlike is_carrier (s ∷ sockets) (p ∷ port) =
    HasEndedAlike is_carrier s p × HaveEndedAlike is_carrier sockets port
HaveEndedAlike is_carrier sockets port = ⊥

-- all connections, the newest first. If one is served, with these first octets and these that are kept, it is the
-- newest
abbrev pub AreAlike : Bool → Option (List ℕ) → List ℕ → List Traffic → List Traffic → Type 0
AreAlike is_carrier None unsent sockets port = HaveEndedAlike is_carrier sockets port
AreAlike is_carrier (Some first) unsent (s ∷ sockets) (p ∷ port) =
    IsServedAlike is_carrier first unsent s p × HaveEndedAlike is_carrier sockets port
AreAlike is_carrier (Some first) unsent sockets port = ⊥

-- the port's record agrees with the log of its sockets, if both are known
pub record Agrees (is_carrier : Bool) (first : Option (List ℕ)) (unsent : List ℕ)
    (log reported : Option (List Answer)) : Type 0 where
  pub agrees : (logged answered : List Answer) → log ≡ Some logged → reported ≡ Some answered
      → AreAlike is_carrier first unsent (traffic_of logged) (traffic_of answered)
