-- The workers of a term: a step, the whole work of each, and the work of all. `Ghosts` of a trait is what an
-- implementation of it shows to contracts, such as the state of a station.
use Rattle.std.specs.Prelude.{◌≡◌, ◌≤◌, ◌+◌, ℕ, List, [], ◌∷◌, Option, Some, length, map, slice_get}
use Rattle.std.specs.Prelude.{vec_capacity}
use Rattle.dmr_link.specs.declared.desk.Desk.{Ghosts as Desk}
use Rattle.dmr_desk.specs.declared.actors.LinkWork.{LinkWork}
use Rattle.dmr_desk.specs.declared.actors.TickerWork.{TickerWork}
use Rattle.dmr_desk.specs.declared.ending.Ending.{Ending}
use Rattle.dmr_desk.specs.declared.ending.Ending.TheVariants.{GateShut}
use Rattle.dmr_desk.specs.declared.pace.Pacer.{Ghosts as Pacer}
use Rattle.dmr_desk.specs.declared.station.Serving.{Ghosts as Serving}
use Rattle.dmr_desk.specs.declared.term.HandedBack.{HandedBack}
use Rattle.dmr_desk.specs.declared.term.Term.{Term}
use Rattle.dmr_desk.specs.declared.threads.AllWork.{AllWork}
use Rattle.dmr_desk.specs.Seats.{Opened}
use Rattle.dmr_desk.specs.Term.{HasTicked, HasWorked, Start, End, IsTerm, start_of_term, end_of_term}
use Rattle.dmr_desk.specs.Work.{IsNextStep, WorkState, moment}

-- the moment at which a station and a desk are so
abbrev pub moment_of : {S D : Type 0} → Serving S → Desk D → S → D → WorkState
moment_of serving its station desk =
    moment (serving.state station) (its.calls desk) (its.questions desk)

-- work that had come to the first station and desk has come to the second, or has ended with this ending
abbrev pub Goes : {S D : Type 0} → (WorkState → WorkState → Type 0) → Serving S → Desk D → S → D → S → D
    → Option Ending → Type 0
Goes HasCome serving its s d t e ending = (m : WorkState) → HasCome m (moment_of serving its s d)
    → IsNextStep m (moment_of serving its t e) ending

-- ---- the work of one

-- a link's worker, as this actor and from this station, did its work. It ended at a shut gate only if the station's was
pub record IsWorkDone {S L : Type 0} (serving : Serving S) (actor : ℕ) (station : S)
    (work : LinkWork S L) : Type 0 where
  pub own : work.seat.actor ≡ actor
  pub worked : HasWorked (serving.state station) (serving.state work.station) work.seat.deposits
      work.ending
  pub shut : work.ending ≡ GateShut → serving.shut work.station

-- the ticker, as this actor and with this pacer, did its work
pub record IsTicked {T L : Type 0} (pacing : Pacer T) (actor : ℕ) (pacer : T)
    (work : TickerWork T L) : Type 0 where
  pub own : work.seat.actor ≡ actor
  pub ticked : HasTicked (pacing.paced pacer) (pacing.paced work.pacer) work.seat.deposits work.ending

-- ---- the work of all

-- the workers of these stations, as the actors from this number on, did their work
abbrev pub AllDone : {S L : Type 0} → Serving S → ℕ → List S → List (LinkWork S L) → Type 0
AllDone serving actor [] [] = Unit {0}
AllDone serving actor (s ∷ ss) (w ∷ ws) =
    IsWorkDone serving actor s w × AllDone serving (actor + 1) ss ws
AllDone serving actor ss ws = ⊥

-- the workers of these stations did their work, then, by number, the ticker and the console's worker
pub record AllWorked {S T C L : Type 0} (serving : Serving S) (pacing : Pacer T) (its : Serving C)
    (stations : List S) (pacer : T) (console : C) (all : AllWork S T C L) : Type 0 where
  pub carriers : AllDone serving 0 stations all.carriers.items
  pub ticker : IsTicked pacing (length stations) pacer all.ticker
  pub last : IsWorkDone its (length stations + 1) console all.console

-- there is room to hand back the results of the workers of this many stations, and nothing yet
pub record HasRoom {S L : Type 0} (stations : ℕ) (back : HandedBack S L) : Type 0 where
  pub few : stations ≤ 16
  pub no_stations : back.stations.items ≡ []
  pub no_seats : back.seats.items ≡ []
  pub no_ends : back.ends.items ≡ []
  pub for_stations : stations ≤ vec_capacity back.stations
  pub for_seats : stations + 2 ≤ vec_capacity back.seats

-- ---- a term of these workers

-- a term at this desk begins so
abbrev pub start_of : {S T C : Type 0} → Serving S → Pacer T → Serving C → Opened → List S → T → C → Start
start_of serving pacing its desk stations pacer console = start_of_term desk.site desk.limit
    (map serving.state stations) (pacing.paced pacer) (its.state console)

-- a term ended so
abbrev pub end_of : {S T C : Type 0} → Serving S → Pacer T → Serving C → Term S T C → End
end_of serving pacing its term = end_of_term term.report term.ends.items
    (map serving.state term.stations.items) (pacing.paced term.pacer) (its.state term.console)

-- the term at this desk with this start. A link's worker ended at a shut gate only if the station's was
pub record IsTermAt {S T C : Type 0} (serving : Serving S) (pacing : Pacer T) (its : Serving C)
    (desk : Opened) (stations : List S) (pacer : T) (console : C) (term : Term S T C) : Type 0 where
  pub is_term : IsTerm (start_of serving pacing its desk stations pacer console)
      (end_of serving pacing its term)
  pub shut : (k : ℕ) (s : S) → slice_get term.stations.items k ≡ Some s
      → slice_get term.ends.items k ≡ Some GateShut → serving.shut s
  pub open_to : slice_get term.ends.items (length stations + 1) ≡ Some GateShut
      → its.shut term.console
