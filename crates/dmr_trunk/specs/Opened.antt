-- What serving opens: the ports of a plan, its stations, and the service with which its first term begins.
use Rattle.std.specs.Prelude.{◌≡◌, ◌*◌, ℕ, List, [], ◌∷◌, ◌++◌, false, None, IsSomeAnd, if◌then◌else◌}
use Rattle.dmr_plan.specs.declared.carriers.CarrierRow.{CarrierRow}
use Rattle.dmr_plan.specs.declared.settings.Settings.{Settings}
use Rattle.dmr_plan.specs.Carriers.{row_with}
use Rattle.dmr_core.specs.Facts.{has_carrier}
use Rattle.dmr_core.specs.Restored.{facts_with, restored}
use Rattle.dmr_link.specs.declared.desk.OpenGate.{OpenGate}
use Rattle.dmr_link.specs.declared.link_state.LinkState.{LinkState}
use Rattle.dmr_link.specs.declared.stream.Peer.{Peer}
use Rattle.dmr_link.specs.declared.stream.Peer.TheVariants.{Carrier, Operator}
use Rattle.dmr_link.specs.Identities.{greatest_of}
use Rattle.dmr_link.specs.Sessions.{HasPast}
use Rattle.dmr_port.specs.declared.whose.Whose.{Whose}
use Rattle.dmr_port.specs.declared.whose.Whose.TheVariants as whose
use Rattle.dmr_port.specs.declared.witness.NoWitness.{NoWitness}
use Rattle.dmr_port.specs.PortState.{PortState, empty_port}
use Rattle.dmr_desk.specs.declared.service.Service.{Service}
use Rattle.dmr_desk.specs.declared.station.ConsoleStation.{ConsoleStation}
use Rattle.dmr_desk.specs.declared.station.Station.{Station}
use Rattle.dmr_desk.specs.Refusing.{carrier_numbers}
use Rattle.dmr_desk.specs.Service.{start_at}
use Rattle.dmr_desk.specs.Term.{Start}
use Rattle.dmr_trunk.specs.declared.pacer.ClockPacer.{ClockPacer}

-- the plan's port for this owner, as it is opened: it has done nothing. Its sockets know nothing but a time, and nobody
-- sees its answers
abbrev pub IsNewPort : Settings → Whose → PortState NoWitness → Type 0
IsNewPort plan owner port =
    port ≡ empty_port (record { whose = owner; greatest = greatest_of plan; silence = plan.serving.silence })
    (record {
      is_open = false;
      waiting = 0;
      log = None;
      clock = port.clock;
      found = None;
      shown = None;
    }) (record {})

-- a link of this peer that has had no connection
pub record IsNewLink (peer : Peer) (link : LinkState) : Type 0 where
  pub who : link.who ≡ peer
  pub past : HasPast link []

-- the station of a carrier with this number and channel, as it is opened. Its link is served up to the plan's version
pub record IsNewStation (plan : Settings) (number lpcn : ℕ)
    (station : Station (PortState NoWitness) OpenGate) : Type 0 where
  pub link : IsNewLink (Carrier (record {
    carrier = number;
    lpcn = lpcn;
    greatest = greatest_of plan;
  })) station.link
  pub port : IsNewPort plan (whose.Carrier number lpcn) station.port

-- the station of the plan's carrier with this number, as it is opened, on the channel of the carrier's row
abbrev pub IsNewStationOf : Settings → ℕ → Station (PortState NoWitness) OpenGate → Type 0
IsNewStationOf plan number station =
    IsSomeAnd (row_with plan.lists.carriers number)
    (λ (row : CarrierRow). IsNewStation plan number row.lpcn station)

-- a station for each carrier with one of these numbers, in their order
abbrev pub AreNewStations : Settings → List ℕ → List (Station (PortState NoWitness) OpenGate)
    → Type 0
AreNewStations plan [] [] = Unit {0}
AreNewStations plan (number ∷ numbers) (station ∷ stations) =
    IsNewStationOf plan number station × AreNewStations plan numbers stations
AreNewStations plan numbers stations = ⊥

-- the console, as it is opened
abbrev pub IsNewConsole : Settings → ConsoleStation (PortState NoWitness) → Type 0
IsNewConsole plan console =
    IsNewLink Operator console.link × IsNewPort plan whose.Console console.port

-- a service of the program
abbrev pub ProgramService : Type 0 → Type 0
ProgramService R = Service (PortState NoWitness) OpenGate (ClockPacer R) (PortState NoWitness)

-- the service with which the first term of a plan's site begins, if these radios were registered before
pub record IsFirstService {R : Type 0} (plan : Settings) (radios : List ℕ)
    (service : ProgramService R) : Type 0 where
  -- nothing has happened on the site, but those radios are registered that the plan lists
  pub site : service.site ≡ record { plan = plan; facts = facts_with (restored plan radios) }
  -- a station for each carrier of the plan, by number
  pub stations : AreNewStations plan (carrier_numbers plan) service.stations.items
  -- the clock, which was not asked yet
  pub ticks : service.pacer.ticks ≡ record { tick = plan.serving.tick_ms * 1000000; from = None }
  pub console : IsNewConsole plan service.console

-- a term of the program begins so. Its ports, its gates and its clock report no record
abbrev pub start_of : {P G T C : Type 0} → Service P G T C → Start
start_of service = start_at (λ port. None) (λ gate. None) (λ pacer. None) (λ port. None)
    service.site.plan.serving.term_entries service

-- ---- on the way

-- these numbers, and this one if the plan has a carrier with it
abbrev pub with_number : Settings → List ℕ → ℕ → List ℕ
with_number plan numbers number =
    if has_carrier plan number then numbers ++ number ∷ [] else numbers
