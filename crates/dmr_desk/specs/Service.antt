-- How a term begins from a service, and how it has ended.
use Rattle.std.specs.Prelude.{◌≡◌, ℕ, List, Option, None, Some, map, slice_get}
use Rattle.dmr_wire.specs.Answers.{Answer}
use Rattle.dmr_link.specs.Passages.{Passage}
use Rattle.dmr_desk.specs.declared.ending.Ending.TheVariants.{GateShut}
use Rattle.dmr_desk.specs.declared.service.Service.{Service}
use Rattle.dmr_desk.specs.declared.station.ConsoleStation.{ConsoleStation}
use Rattle.dmr_desk.specs.declared.station.Station.{Station}
use Rattle.dmr_desk.specs.declared.term.Term.{Term}
use Rattle.dmr_desk.specs.Pace.{Paced}
use Rattle.dmr_desk.specs.Term.{Start, End, start_of_term, end_of_term}
use Rattle.dmr_desk.specs.Work.{StationState, station_state}

-- the states of stations, by what their ports and gates report
abbrev pub states_of : {P G : Type 0} → (P → Option (List Answer)) → (G → Option (List Passage))
    → List (Station P G) → List StationState
states_of reported passed stations =
    map (λ s. station_state s.link (reported s.port) (passed s.gate)) stations

-- the state of the console, by what its port reports
abbrev pub console_of : {C : Type 0} → (C → Option (List Answer)) → ConsoleStation C → StationState
console_of reported console = station_state console.link (reported console.port) None

-- a term with this limit begins so, from a service
abbrev pub start_at : {P G T C : Type 0} → (P → Option (List Answer)) → (G → Option (List Passage))
    → (T → Option Paced) → (C → Option (List Answer)) → ℕ → Service P G T C → Start
start_at reported passed paced of_console limit service = start_of_term service.site limit
    (states_of reported passed service.stations.items) (paced service.pacer)
    (console_of of_console service.console)

-- a term ended so
abbrev pub end_at : {P G T C : Type 0} → (P → Option (List Answer)) → (G → Option (List Passage))
    → (T → Option Paced) → (C → Option (List Answer)) → Term (Station P G) T (ConsoleStation C)
    → End
end_at reported passed paced of_console term = end_of_term term.report term.ends.items
    (states_of reported passed term.stations.items) (paced term.pacer)
    (console_of of_console term.console)

-- each carrier's worker that ended because its gate was shut has a gate that was
abbrev pub AreShut : {P G T C : Type 0} → (G → G → Type 0)
    → Term (Station P G) T (ConsoleStation C) → Type 0
AreShut {G = G} shuts term = (k : ℕ) (s : _) → slice_get term.stations.items k ≡ Some s
    → slice_get term.ends.items k ≡ Some GateShut → (before : G) × shuts before s.gate
