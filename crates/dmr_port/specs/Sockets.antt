-- What the calls of a port's sockets do to the connection that is served and to the newcomers that wait, and what they
-- find.
use Rattle.std.specs.Prelude.{◌≡◌, ℕ, ◌+◌, ◌≤◌, ◌++◌, Bool, List, [], ◌∷◌, take, remove, slice_set}
use Rattle.std.specs.Prelude.{Option, option_map}
use Rattle.dmr_wire.specs.declared.wire.Put.{Put}
use Rattle.dmr_wire.specs.declared.wire.Put.TheVariants as put
use Rattle.dmr_wire.specs.Answers.{Answer}
use Rattle.dmr_port.specs.declared.sockets.Accepted.{Accepted}
use Rattle.dmr_port.specs.declared.sockets.Accepted.TheVariants as accepted
use Rattle.dmr_port.specs.declared.sockets.Peeked.{Peeked}
use Rattle.dmr_port.specs.declared.sockets.Peeked.TheVariants as peeked
use Rattle.dmr_port.specs.declared.sockets.Ready.{Ready}

-- what a wait found, whether it was for sending, and the time at its end
pub record Found : Type 0 where
  pub ready : Ready
  pub sends : Bool
  pub ended : ℕ

-- sockets, as contracts see them: whether there is a connection that is served, the number of newcomers, and the time.
-- Also, if they are known, the answers of the connection, what the latest wait found, and the octets that each newcomer
-- has shown
pub record SocketState : Type 0 where
  pub is_open : Bool
  pub waiting : ℕ
  pub log : Option (List Answer)
  pub clock : ℕ
  pub found : Option Found
  pub shown : Option (List (List ℕ))

-- time may pass, and newcomers may come, show octets and go. The connection stays as it was, and so does what the
-- latest wait found
pub record KeepsConnection (old new : SocketState) : Type 0 where
  pub connection : new.is_open ≡ old.is_open
  pub log : new.log ≡ old.log
  pub clock : old.clock ≤ new.clock
  pub found : new.found ≡ old.found

-- time may pass, and the connection may change. The newcomers stay as they were, and so does what the latest wait found
pub record KeepsNewcomers (old new : SocketState) : Type 0 where
  pub waiting : new.waiting ≡ old.waiting
  pub shown : new.shown ≡ old.shown
  pub clock : old.clock ≤ new.clock
  pub found : new.found ≡ old.found

-- the number of newcomers after an accept: one more if one came
abbrev pub waiting_after : ℕ → Accepted → ℕ
waiting_after waiting (accepted.Came from) = waiting + 1
waiting_after waiting other = waiting

-- a look finds at least one octet, and at most as many as the slice holds
abbrev pub PeekedWithin : Peeked → ℕ → Type 0
PeekedWithin (peeked.Octets n) len = (1 ≤ n) × (n ≤ len)
PeekedWithin other len = Unit {0}

-- those of these octets that a write took
abbrev pub taken_by : Put → List ℕ → List ℕ
taken_by (put.Octets n) octets = take n octets
taken_by other octets = []

-- what the latest wait found, after one more
abbrev pub found_after : Ready → Bool → ℕ → Option Found → Option Found
found_after ready sends ended found =
    option_map (λ (_ : Found). record { ready = ready; sends = sends; ended = ended }) found

-- the octets that each newcomer has shown, after an accept: the newest none
abbrev pub shown_after_accept : Accepted → Option (List (List ℕ)) → Option (List (List ℕ))
shown_after_accept (accepted.Came from) shown =
    option_map (λ (octets : List (List ℕ)). octets ++ [] ∷ []) shown
shown_after_accept other shown = shown

-- after a look at the newcomer at a place
abbrev pub shown_after_peek : ℕ → Peeked → List ℕ → Option (List (List ℕ))
    → Option (List (List ℕ))
shown_after_peek place (peeked.Octets n) first shown =
    option_map (λ (octets : List (List ℕ)). slice_set octets place (take n first)) shown
shown_after_peek place other first shown = shown

-- without the newcomer at a place
abbrev pub shown_without : ℕ → Option (List (List ℕ)) → Option (List (List ℕ))
shown_without place shown = option_map (λ (octets : List (List ℕ)). remove octets place) shown
