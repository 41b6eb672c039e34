-- A term: each actor's part, and the whole.
use Rattle.std.specs.Prelude.{◌≡◌, ℕ, ◌+◌, ◌≤◌, ◌<◌, ◌==◌, ◌&&◌, Bool, true, false, List, [], ◌∷◌}
use Rattle.std.specs.Prelude.{Option, Some, length, reverse, slice_get, All}
use Rattle.dmr_core.specs.State.{SiteState}
use Rattle.dmr_core.specs.Journal.{IsLegal}
use Rattle.dmr_core.specs.declared.entry.Entry.{Entry}
use Rattle.dmr_link.specs.Runs.{IsSafe}
use Rattle.dmr_link.specs.declared.desk.Deposit.{Deposit}
use Rattle.dmr_desk.specs.declared.ending.Ending.{Ending}
use Rattle.dmr_desk.specs.declared.ending.Ending.TheVariants as ending
use Rattle.dmr_desk.specs.declared.report.Report.{Report}
use Rattle.dmr_desk.specs.Audited.{count_of_deposits}
use Rattle.dmr_desk.specs.Pace.{Paced, Ticks}
use Rattle.dmr_desk.specs.BookState.{site_after_entries}
use Rattle.dmr_desk.specs.Seats.{SeatState}
use Rattle.dmr_desk.specs.Views.{view_of}
use Rattle.dmr_desk.specs.Work.{StationState, work_state, WorksUntil}

-- ---- each actor's part

-- a link's worker did its work from one state of its station to another, with a new desk that took these events
abbrev pub HasWorked : StationState → StationState → List Deposit → Ending → Type 0
HasWorked s t view e = WorksUntil (work_state s []) (work_state t view) e

-- the ticker did its work, with a new desk that took these events
abbrev pub HasTicked : Option Paced → Option Paced → List Deposit → Ending → Type 0
HasTicked before after view e = Ticks before [] after view e

-- ---- the whole

-- the arguments of a term
pub record Start : Type 0 where
  pub site : SiteState
  pub limit : ℕ
  pub stations : List StationState
  pub pacer : Option Paced
  pub console : StationState

-- the results of a term
pub record End : Type 0 where
  pub site : SiteState
  pub journal : List Entry
  pub views : List (List Deposit)
  pub ends : List Ending
  pub stations : List StationState
  pub pacer : Option Paced
  pub console : StationState

-- the start of a term from these arguments
abbrev pub start_of_term : SiteState → ℕ → List StationState → Option Paced → StationState → Start
start_of_term site limit stations pacer console =
    record { site = site; limit = limit; stations = stations; pacer = pacer; console = console }

-- the end of a term with these results
abbrev pub end_of_term : Report → List Ending → List StationState → Option Paced → StationState
    → End
end_of_term report ends stations pacer console = record {
  site = report.site;
  journal = report.journal;
  views = report.views.items;
  ends = ends;
  stations = stations;
  pacer = pacer;
  console = console;
}

-- what a term came to when its workers had ended: a legal, safe journal, a view for each actor, and each actor's part.
-- The actors are the stations, in their order, then the ticker, then the console. Whether the views are the journal's
-- lists is not said
pub record HasEnded (start : Start) (end : End) : Type 0 where
  -- the journal is legal from the site of the start, safe, and has at most `limit` entries; the end's site is in the
  -- state that it leads to
  pub legal : IsLegal start.site.plan start.site.facts (reverse end.journal)
  pub safe : IsSafe start.site.plan start.site.facts (reverse end.journal)
  pub within : length end.journal ≤ start.limit
  pub site : end.site ≡ site_after_entries start.site end.journal
  -- each actor has a view. The journal is as long as all views, and no entry belongs to another actor
  pub actors : length end.views ≡ length start.stations + 2
  pub counted : length end.journal ≡ count_of_deposits end.views
  pub nobody : All (λ (entry : Entry). entry.actor < length end.views) end.journal
  -- each station was returned, and each actor has ended
  pub handed_back : length end.stations ≡ length start.stations
  pub all_ended : length end.ends ≡ length start.stations + 2
  -- each actor did its part, and its view is the list of its desk's deposits
  pub carriers : (k : ℕ) (s t : StationState) (e : Ending) (view : List Deposit)
      → slice_get start.stations k ≡ Some s → slice_get end.stations k ≡ Some t
      → slice_get end.ends k ≡ Some e → slice_get end.views k ≡ Some view
      → HasWorked s t view e
  pub ticker : (e : Ending) (view : List Deposit)
      → slice_get end.ends (length start.stations) ≡ Some e
      → slice_get end.views (length start.stations) ≡ Some view
      → HasTicked start.pacer end.pacer view e
  pub console : (e : Ending) (view : List Deposit)
      → slice_get end.ends (length start.stations + 1) ≡ Some e
      → slice_get end.views (length start.stations + 1) ≡ Some view
      → HasWorked start.console end.console view e

-- the work of a whole term: it has ended so, and each view is the journal's list for its actor
pub record HasRun (start : Start) (end : End) : Type 0 where
  pub ended : HasEnded start end
  pub views : (k : ℕ) → k < length end.views → slice_get end.views k ≡ Some (view_of k end.journal)

-- A TERM: all this was done, and a worker ended because the term was over only if the journal was at its limit
pub record IsTerm (start : Start) (end : End) : Type 0 where
  pub run : HasRun start end
  pub over : (k : ℕ) → slice_get end.ends k ≡ Some ending.TermOver
      → length end.journal ≡ start.limit

-- ---- on the way

-- a seat of this actor, without deposits
abbrev pub IsNew : ℕ → SeatState → Type 0
IsNew actor seat = (seat.actor ≡ actor) × (seat.deposits ≡ [])

-- seats of the actors from this number on, without deposits
abbrev pub AreNew : ℕ → List SeatState → Type 0
AreNew actor [] = Unit {0}
AreNew actor (seat ∷ seats) = IsNew actor seat × AreNew (actor + 1) seats

-- the same, as tests
abbrev pub is_none : List Deposit → Bool
is_none [] = true
is_none (deposit ∷ deposits) = false

abbrev pub is_new : ℕ → SeatState → Bool
is_new actor seat = (seat.actor == actor) && is_none seat.deposits

abbrev pub are_new : ℕ → List SeatState → Bool
are_new actor [] = true
are_new actor (seat ∷ seats) = is_new actor seat && are_new (actor + 1) seats
