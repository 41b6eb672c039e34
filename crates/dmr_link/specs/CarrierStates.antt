-- The state of a carrier's connections.
use Rattle.std.specs.Prelude.{ℕ, Bool, true, false, Option, Some, None}
use Rattle.dmr_link.specs.declared.connection.CarrierIdentity.{CarrierIdentity}
use Rattle.dmr_link.specs.declared.connection.Connection.{Connection}
use Rattle.dmr_link.specs.declared.connection.Connection.TheVariants.{Closed, Waiting, Running}
use Rattle.dmr_link.specs.declared.carrier_state.CarrierState.{CarrierState}

-- the state of a carrier: its connection, and the number of the next TX, if TX are numbered
abbrev pub state_on : CarrierIdentity → Connection → Option ℕ → CarrierState
state_on who k next = record { who = who; connection = k; numbering = next }

-- whether a connection is open
abbrev pub is_open : Connection → Bool
is_open Closed = false
is_open (Waiting rest) = true
is_open (Running rest newest) = true

-- the carrier's number, if the carrier is up
abbrev pub up_by : CarrierIdentity → Connection → Option ℕ
up_by who (Running rest newest) = Some who.carrier
up_by who other = None
