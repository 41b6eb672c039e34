-- A port, as its callers see it.
use Rattle.std.specs.Prelude.{◌≡◌, ◌↔◌, ◌⊎◌, ℕ, ◌-◌, ◌≤◌, min, ◌++◌, ◌==◌, ◌||◌, if◌then◌else◌}
use Rattle.std.specs.Prelude.{Bool, true, false, not, List, [], ◌∷◌, length, take, Option, Some, None}
use Rattle.std.specs.Prelude.{IsTrue, nat_eq}
use Rattle.std.specs.Option.{option_or}
use Rattle.dmr_wire.specs.declared.wire.Got.{Got}
use Rattle.dmr_wire.specs.declared.wire.Got.TheVariants as got
use Rattle.dmr_wire.specs.declared.port.Waited.{Waited}
use Rattle.dmr_wire.specs.declared.port.Waited.TheVariants.{Again, Silent}
use Rattle.dmr_wire.specs.declared.wire.Put.{Put}
use Rattle.dmr_wire.specs.declared.wire.Put.TheVariants as put
use Rattle.dmr_wire.specs.Answers.{Answer}
use Rattle.dmr_port.specs.declared.cause.CloseCause.{CloseCause}
use Rattle.dmr_port.specs.declared.cause.CloseCause.TheVariants.{EndOfInput, Http, NotRead, ReadFault}
use Rattle.dmr_port.specs.declared.cause.CloseCause.TheVariants.{WriteFault}
use Rattle.dmr_port.specs.declared.patience.Patience.{Patience}
use Rattle.dmr_port.specs.declared.served.Served.{Served}
use Rattle.dmr_port.specs.declared.settings.PortSettings.{PortSettings}
use Rattle.dmr_port.specs.declared.sockets.Ready.{Ready}
use Rattle.dmr_port.specs.Budget.{Gives, Window, fresh_window}
use Rattle.dmr_port.specs.FirstOctets.{IsHello, begins_http}
use Rattle.dmr_port.specs.Newcomers.{IsClaimedAs}
use Rattle.dmr_port.specs.Patience.{new_patience, patience_after_octets, patience_after_wait}
use Rattle.dmr_port.specs.Served.{cause_of_served}
use Rattle.dmr_port.specs.Settings.{is_carrier}
use Rattle.dmr_port.specs.Record.{Agrees, Traffic, no_traffic, traffic_of}
use Rattle.dmr_port.specs.Sockets.{Found, SocketState}
use Rattle.dmr_port.specs.Unsent.{PassesOctets, ReadsAfterSending}

-- the connection that is served: how long the port has waited for it, its first eight octets, and why it ended, if that
-- is known
pub record Connection : Type 0 where
  pub patience : Patience
  pub first : List ℕ
  pub ended : Option CloseCause

-- the connection that callers see
abbrev pub connection_of : Served → Connection
connection_of s = record { patience = s.patience; first = s.first.octets.items; ended = s.ended }

-- how long octets have been kept for a connection
abbrev pub unread_of : Connection → ℕ
unread_of c = c.patience.unread

-- a connection that has just begun
abbrev pub new_connection : Bool → Connection
new_connection is_carrier = record { patience = new_patience is_carrier; first = []; ended = None }

-- the first octets of the connection; none without one
abbrev pub first_of : Option Connection → List ℕ
first_of None = []
first_of (Some c) = c.first

-- the first octets of the connection, if there is one
abbrev pub first_if_served : Option Connection → Option (List ℕ)
first_if_served None = None
first_if_served (Some c) = Some c.first

-- a port: its settings, its connection, if there is one, the octets that are kept for the connection, and what the
-- sockets answered, if that is known. Also the number of newcomers, the octets that were given in the window, and who
-- sees the port's answers. Of time, what the clock says, and up to when waits have been counted. Of the sockets, if
-- that is known, what the latest wait found, and the octets that each newcomer has shown
pub record PortState (W : Type 0) : Type 0 where
  pub settings : PortSettings
  pub connection : Option Connection
  pub unsent : List ℕ
  pub log : Option (List Answer)
  pub waiting : ℕ
  pub window : Window
  pub witness : W
  pub clock : ℕ
  pub counted : ℕ
  pub found : Option Found
  pub shown : Option (List (List ℕ))

-- a port that has done nothing, over these sockets
abbrev pub empty_port : {W : Type 0} → PortSettings → SocketState → W → PortState W
empty_port settings sockets witness =
    record {
      settings = settings;
      connection = None;
      unsent = [];
      log = sockets.log;
      waiting = 0;
      window = fresh_window 0;
      witness = witness;
      clock = sockets.clock;
      counted = 0;
      found = sockets.found;
      shown = sockets.shown;
    }

-- the port is the first one, except that time may have passed
pub record IsLater {W : Type 0} (old new : PortState W) : Type 0 where
  pub port : new ≡ record old { clock = new.clock }
  pub clock : old.clock ≤ new.clock

-- time may pass, and the port serves its connection. The newcomers stay as they were, and so does what waits found
pub record OnlyServes {W : Type 0} (old new : PortState W) : Type 0 where
  pub settings : new.settings ≡ old.settings
  pub waiting : new.waiting ≡ old.waiting
  pub shown : new.shown ≡ old.shown
  pub clock : old.clock ≤ new.clock
  pub counted : new.counted ≡ old.counted
  pub found : new.found ≡ old.found

-- the port's record agrees with the log of its sockets
abbrev pub PortAgrees : {W : Type 0} → (W → Option (List Answer)) → PortState W → Type 0
PortAgrees reported port =
    Agrees (is_carrier port.settings.whose) (first_if_served port.connection) port.unsent port.log
    (reported port.witness)

-- the sockets' newest connection is one on which no octet came, and none was taken, if their log is known
pub record HasBegun (log : Option (List Answer)) : Type 0 where
  pub begun : (answers : List Answer) → log ≡ Some answers
      → (earlier : List Traffic) × (traffic_of answers ≡ no_traffic ∷ earlier)

-- a port whose connection has just begun: nothing came, nothing is kept, and nothing was taken
pub record IsFresh {W : Type 0} (port : PortState W) : Type 0 where
  pub begun : port.connection ≡ Some (new_connection (is_carrier port.settings.whose))
  pub unsent : port.unsent ≡ []
  pub log : HasBegun port.log

-- these octets pass in order, after those that are kept
abbrev pub Passes : {W : Type 0} → PortState W → List ℕ → PortState W → Type 0
Passes old octets new = PassesOctets old.log old.unsent octets new.log new.unsent

-- those that are kept pass in order, and then a read returned what the sockets answered
abbrev pub PassesThenReads : {W : Type 0} → PortState W → Got → List ℕ → PortState W → Type 0
PassesThenReads old result octets new =
    ReadsAfterSending (is_carrier old.settings.whose) (first_of old.connection) old.log old.unsent
    result octets (first_of new.connection) new.log new.unsent

-- the number of octets that came
abbrev pub count_of : Got → ℕ
count_of (got.Octets n) = n
count_of other = 0

-- octets came. The connection is no longer waited for with a HELLO if its first six octets are one. If octets were
-- kept, they have been sent. On the operators' port the octets do not complete a request of HTTP
pub record HasReadOctets (is_carrier : Bool) (old : Connection) (octets : List ℕ)
    (new : Connection) : Type 0 where
  pub first : new.first ≡ take 8 (old.first ++ octets)
  pub unread : ℕ
  pub has_hello : Bool
  pub hello : IsTrue has_hello ↔ IsHello (take 6 new.first)
  pub patience : new.patience ≡ patience_after_octets octets has_hello (not is_carrier)
      (record old.patience { unread = unread })
  pub admitted : is_carrier || not (begins_http new.first) ≡ true
  pub ended : new.ended ≡ old.ended

-- no octet came, and the connection goes on. If octets were kept, they may have been sent
pub record HasReadNothing (old new : Connection) : Type 0 where
  pub first : new.first ≡ old.first
  pub unread : ℕ
  pub patience : new.patience ≡ record old.patience { unread = unread }
  pub ended : new.ended ≡ old.ended

-- the connection after a read, which left these octets in the slice. The input has ended, or a request of HTTP ended
-- the connection to the operators' port. A fault is that of a read, or of a write of kept octets
abbrev pub HasReadFrom : Bool → Connection → Got → List ℕ → Connection → Type 0
HasReadFrom is_carrier old (got.Octets n) octets new =
    HasReadOctets is_carrier old (take n octets) new
HasReadFrom is_carrier old got.End octets new =
    (new.ended ≡ Some EndOfInput)
    ⊎ ((is_carrier ≡ false) × (begins_http new.first ≡ true) × (new.ended ≡ Some Http))
HasReadFrom is_carrier old got.Fault octets new =
    (new.ended ≡ Some ReadFault) ⊎ (new.ended ≡ Some WriteFault)
HasReadFrom is_carrier old other octets new = HasReadNothing old new

-- a read of the connection that is served, between these times: what came of it, and that the window allowed its octets
pub record ReadsInWindow (is_carrier : Bool) (before : ℕ) (window : Window) (old : Served)
    (result : Got) (octets : List ℕ) (after : ℕ) (window' : Window) (new : Served) : Type 0 where
  pub budget : Gives before window (count_of result) window' after
  pub reads : HasReadFrom is_carrier (connection_of old) result octets (connection_of new)

-- a read of a port. Without a connection it fails
abbrev pub HasRead : Bool → Option Connection → Got → List ℕ → Option Connection → Type 0
HasRead is_carrier None result octets None = result ≡ got.Fault
HasRead is_carrier (Some old) result octets (Some new) =
    HasReadFrom is_carrier old result octets new
HasRead is_carrier old result octets new = ⊥

-- the link's answer to a write: it would block if there was no room for an octet
abbrev pub answer_of_write : Put → Put
answer_of_write (put.Octets n) = if n == 0 then put.Block else put.Octets n
answer_of_write other = other

-- the connection after a write. It ends if it failed, or if there was no room to keep octets
abbrev pub connection_after_write : Put → Connection → Connection
connection_after_write put.Block c = record c { ended = Some NotRead }
connection_after_write put.Fault c = record c { ended = Some WriteFault }
connection_after_write other c = c

-- octets are kept for the connection
abbrev pub keeps_octets : List ℕ → Bool
keeps_octets unsent = not (nat_eq (length unsent) 0)

-- the answer of a wait after which the connection is given up for a cause, or for none
abbrev pub waited_by : Option CloseCause → Waited
waited_by None = Again
waited_by (Some cause) = Silent

-- a wait with a connection, which counts as this many milliseconds. After it the connection is given up by the rules,
-- or goes on. `ready`: it could then be read, or written if octets are kept. `is_claimed`: a newcomer claims its place
pub record HasWaitedFor (silence milliseconds : ℕ) (keeps ready is_claimed : Bool)
    (old new : Connection) (result : Waited) : Type 0 where
  pub patience : new.patience ≡ patience_after_wait milliseconds keeps old.patience
  pub first : new.first ≡ old.first
  pub waited : result ≡ waited_by (cause_of_served silence keeps ready is_claimed new.patience)
  pub ended : new.ended
      ≡ option_or (cause_of_served silence keeps ready is_claimed new.patience) old.ended

-- the same, if there is a connection: without one a wait is silent
abbrev pub HasWaitedIf : ℕ → ℕ → Bool → Bool → Bool → Option Connection → Option Connection
    → Waited → Type 0
HasWaitedIf silence milliseconds keeps ready is_claimed None None result = result ≡ Silent
HasWaitedIf silence milliseconds keeps ready is_claimed (Some old) (Some new) result =
    HasWaitedFor silence milliseconds keeps ready is_claimed old new result
HasWaitedIf silence milliseconds keeps ready is_claimed old new result = ⊥

-- the sockets' latest wait, for sending or not, found this, if that is known. It ended between these times
pub record IsFinding (before : ℕ) (ready : Ready) (sends : Bool) (counted : ℕ)
    (found : Option Found) : Type 0 where
  pub finding : (f : Found) → found ≡ Some f
      → (before ≤ f.ended) × (f.ended ≤ counted) × (f.ready ≡ ready) × (f.sends ≡ sends)

-- a wait of a port. It counts as the time since waits were last counted, at most as 100 ms. What is kept for the
-- connection, and what was given in the window, stays as it was
pub record HasWaited {W : Type 0} (old new : PortState W) (result : Waited) : Type 0 where
  pub port : IsLater (record old {
    connection = new.connection;
    waiting = new.waiting;
    witness = new.witness;
    counted = new.counted;
    found = new.found;
    shown = new.shown;
  }) new
  pub ready : Ready
  pub is_claimed : Bool
  pub after : old.clock ≤ new.counted
  pub before : new.counted ≤ new.clock
  pub finding : IsFinding old.clock ready (keeps_octets old.unsent) new.counted new.found
  pub claim : IsClaimedAs old.settings new.shown is_claimed
  pub judged : HasWaitedIf old.settings.silence (min (new.counted - old.counted) 100)
      (keeps_octets old.unsent) ready.connection is_claimed old.connection new.connection result

-- the cause is kept, unless the connection has one
abbrev pub with_cause : CloseCause → Connection → Connection
with_cause cause c = record c { ended = option_or c.ended (Some cause) }
