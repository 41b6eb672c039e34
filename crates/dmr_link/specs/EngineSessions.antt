-- The states of carriers that an engine keeps, by carrier number. Its contracts see their connections and the numbers
-- of their next TX. Only the engine's type and contracts inside this crate name these definitions; nothing above
-- depends on them.
use Rattle.std.specs.Prelude.{◌≡◌, ◌<◌, ℕ, List, Option, Some, None, length, map, replicate}
use Rattle.std.specs.Prelude.{slice_index_or}
use Rattle.dmr_pdu.specs.Slots.{carriers_of_site}
use Rattle.dmr_plan.specs.declared.settings.Settings.{Settings}
use Rattle.dmr_link.specs.declared.connection.CarrierIdentity.{CarrierIdentity}
use Rattle.dmr_link.specs.declared.connection.Connection.{Connection}
use Rattle.dmr_link.specs.declared.connection.Connection.TheVariants.{Closed}
use Rattle.dmr_link.specs.declared.carrier_state.CarrierState.{CarrierState}
use Rattle.dmr_core.specs.State.{SiteState as Site}
use Rattle.dmr_link.specs.CarrierStates.{state_on}
use Rattle.dmr_link.specs.Numbering.{next_after_frames}
use Rattle.dmr_link.specs.Session.{frames_said}
use Rattle.dmr_link.specs.Steps.{notices_of_octets, connection_after_octets}
use Rattle.dmr_link.specs.Identities.{greatest_of, who_of}
use Rattle.dmr_link.specs.Sound.{IsConnectionSound, IsNumberingOf}

-- the connection of a carrier's state; closed if there is no state
abbrev pub connection_in : Option CarrierState → Connection
connection_in None = Closed
connection_in (Some state) = state.connection

-- the number of the next TX of a carrier's state, if it has one
abbrev pub next_in : Option CarrierState → Option ℕ
next_in None = None
next_in (Some state) = state.numbering

-- the carrier that a state is of
abbrev pub carrier_in : Option CarrierState → Option CarrierIdentity
carrier_in None = None
carrier_in (Some state) = Some state.who

-- the state of a carrier after octets, on this site
abbrev pub carrier_after : Site → CarrierState → List ℕ → CarrierState
carrier_after site s octets =
    state_on s.who (connection_after_octets s.who s.connection octets)
    (next_after_frames s.numbering
    (frames_said site.plan site.facts (notices_of_octets s.who s.connection octets)))

-- the connection of a state is sound, and its next TX has a number of the connection's version
abbrev pub IsStateSound : CarrierState → Type 0
IsStateSound s =
    IsConnectionSound s.who.greatest s.connection × IsNumberingOf s.connection s.numbering

-- the states of a plan's carriers: each carrier of the plan has one, which is its own and sound, and other numbers have
-- none
pub record AreCarrierStates (plan : Settings) (states : List (Option CarrierState)) : Type 0 where
  pub sixteen : length states ≡ carriers_of_site
  pub own : (carrier : ℕ) → carrier < carriers_of_site
      → carrier_in (slice_index_or states carrier None) ≡ who_of plan carrier
  pub sound : (carrier : ℕ)
      → IsConnectionSound (greatest_of plan) (connection_in (slice_index_or states carrier None))
  pub numbered : (carrier : ℕ)
      → IsNumberingOf (connection_in (slice_index_or states carrier None))
      (next_in (slice_index_or states carrier None))

-- no state has a connection, or a number for the next TX
abbrev pub AreUnconnected : List (Option CarrierState) → Type 0
AreUnconnected states =
    (map connection_in states ≡ replicate carriers_of_site Closed)
    × (map next_in states ≡ replicate carriers_of_site None)
