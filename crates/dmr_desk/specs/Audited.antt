-- The result of closing a desk: its report, or why there is none.
use Rattle.std.specs.Prelude.{◌≡◌, ◌≢◌, ◌⊎◌, ◌<◌, ◌≤◌, ◌+◌, ◌-◌, ℕ, List, [], ◌∷◌, length, reverse}
use Rattle.std.specs.Prelude.{slice_get, Option, Some, None, Contains}
use Rattle.dmr_core.specs.declared.entry.Entry.{Entry}
use Rattle.dmr_link.specs.Runs.{IsSafe}
use Rattle.dmr_link.specs.declared.desk.Deposit.{Deposit}
use Rattle.dmr_desk.specs.declared.report.Report.{Report}
use Rattle.dmr_desk.specs.declared.fault.CloseFault.{CloseFault}
use Rattle.dmr_desk.specs.declared.fault.CloseFault.TheVariants.{SeatMissing, Differs}
use Rattle.dmr_desk.specs.BookState.{AreOfActors, IsSoundBook, site_after_entries}
use Rattle.dmr_desk.specs.Limits.{most_actors}
use Rattle.dmr_desk.specs.Seats.{SeatState, Opened, HasSeat, NoneMissing}
use Rattle.dmr_desk.specs.Views.{view_of, Follows}

-- seats and views are equally many; each actor that has a view has a seat, and each seat's deposits are its actor's
-- view
pub record AreGathered (seats : List SeatState) (views : List (List Deposit)) : Type 0 where
  pub as_many : length views ≡ length seats
  pub has : (actor : ℕ) → actor < length views → HasSeat seats actor
  pub each : (seat : SeatState) → Contains seats seat
      → slice_get views seat.actor ≡ Some seat.deposits

-- the view of each actor below a number is the journal's list for it
abbrev pub SameBelow : ℕ → List (List Deposit) → List Entry → Type 0
SameBelow n views journal =
    (actor : ℕ) → actor < n → slice_get views actor ≡ Some (view_of actor journal)

-- the view of this actor differs from the journal's list for it, and it is the least such actor
abbrev pub IsDiffering : List (List Deposit) → List Entry → ℕ → Type 0
IsDiffering views journal actor =
    (actor < length views) × (slice_get views actor ≢ Some (view_of actor journal))
    × SameBelow actor views journal

-- an actor below the number has no seat among these, and each actor of a lower number has one
abbrev pub IsLeastMissing : List SeatState → ℕ → ℕ → Type 0
IsLeastMissing seats actors actor =
    (actor < actors) × ¬ HasSeat seats actor × NoneMissing seats actor

-- the number of deposits in these views together
abbrev pub count_of_deposits : List (List Deposit) → ℕ
count_of_deposits [] = 0
count_of_deposits (view ∷ views) = length view + count_of_deposits views

-- the number of deposits from these seats together
abbrev pub deposits_of_seats : List SeatState → ℕ
deposits_of_seats [] = 0
deposits_of_seats (seat ∷ seats) = length seat.deposits + deposits_of_seats seats

-- a journal that a desk may have kept after this many deposits: it is legal from the desk's site, within the desk's
-- limit, has one entry for each deposit, and each entry is of an actor of the desk
pub record IsJournalFor (desk : Opened) (deposits : ℕ) (journal : List Entry) : Type 0 where
  pub kept : IsSoundBook (record { opening = desk.site; limit = desk.limit; entries = journal })
  pub counted : length journal ≡ deposits
  pub known : AreOfActors desk.actors journal

-- what a desk kept that was closed with these seats: its journal, whose acts are safe; its site, in the state that the
-- journal leads to; and a view for each of its actors, which has the deposits of the actor's seat. Whether the views
-- are the journal's lists is not said
pub record IsKept (desk : Opened) (seats : List SeatState) (report : Report) : Type 0 where
  pub journal : IsJournalFor desk (deposits_of_seats seats) report.journal
  pub safe : IsSafe desk.site.plan desk.site.facts (reverse report.journal)
  pub site : report.site ≡ site_after_entries desk.site report.journal
  pub gathered : AreGathered seats report.views.items
  pub counted : count_of_deposits report.views.items ≡ deposits_of_seats seats
  pub actors : length report.views.items ≡ desk.actors

-- the report of a desk that was closed with these seats: each view is the journal's list for its actor
pub record IsAudited (desk : Opened) (seats : List SeatState) (report : Report) : Type 0 where
  pub kept : IsKept desk seats report
  pub same : SameBelow (length report.views.items) report.views.items report.journal

-- why a desk has no report, and what it kept. A seat is missing, or a view differs from the journal's list. Either fault
-- names the least such actor
abbrev pub IsUnreported : Opened → List SeatState → CloseFault → Option Report → Type 0
IsUnreported desk seats (SeatMissing actor) None = IsLeastMissing seats desk.actors actor
IsUnreported desk seats (Differs actor) (Some report) =
    IsKept desk seats report × IsDiffering report.views.items report.journal actor
IsUnreported desk seats fault kept = ⊥

-- the same, if it is not known what the desk kept
abbrev pub IsFault : Opened → List SeatState → CloseFault → Type 0
IsFault desk seats fault = (kept : Option Report) × IsUnreported desk seats fault kept

-- a seat of a list, and the list without it
pub record IsOutOf (seats : List SeatState) (seat : SeatState)
    (left : List SeatState) : Type 0 where
  pub one_less : length left + 1 ≡ length seats
  pub had : Contains seats seat
  pub keeps : (other : SeatState) → Contains left other → Contains seats other
  pub others : (other : SeatState) → Contains seats other → (other ≡ seat) ⊎ Contains left other
  pub counted : deposits_of_seats left + length seat.deposits ≡ deposits_of_seats seats

-- ---- on the way

-- the view of each actor from one number to below another is the journal's list for it
abbrev pub SameBetween : ℕ → ℕ → List (List Deposit) → List Entry → Type 0
SameBetween from to views journal =
    (actor : ℕ) → from ≤ actor → actor < to → slice_get views actor ≡ Some (view_of actor journal)

-- each actor from one number to below another has a view, and is one that a desk may have
pub record AreAmongViews (from to : ℕ) (views : List (List Deposit)) : Type 0 where
  pub order : from ≤ to
  pub within : to ≤ length views
  pub few : to ≤ most_actors

-- the least actor, from one number to below another, whose view differs from the journal's list for it; None: none does
abbrev pub IsFirstDiffering : ℕ → ℕ → List (List Deposit) → List Entry → Option ℕ → Type 0
IsFirstDiffering from to views journal None = SameBetween from to views journal
IsFirstDiffering from to views journal (Some actor) =
    (from ≤ actor) × (actor < to) × (slice_get views actor ≢ Some (view_of actor journal))
    × SameBetween from actor views journal

-- the least actor whose view differs from the journal's list for it
abbrev pub IsLeastDiffering : Report → Option ℕ → Type 0
IsLeastDiffering report = IsFirstDiffering 0 (length report.views.items) report.views.items report.journal

-- the view of each actor from one number to below another follows the first entries of the journal, this many
abbrev pub AllFollow : ℕ → ℕ → List (List Deposit) → List Entry → ℕ → List (Option ℕ) → Type 0
AllFollow from to views journal place turns =
    (actor : ℕ) (view : List Deposit) → from ≤ actor → actor < to
    → slice_get views actor ≡ Some view → (turn : Option ℕ) × (slice_get turns actor ≡ Some turn)
    × Follows view actor journal place turn

-- a list has the actors of the journal's entries from one place to below another, in order
abbrev pub HasActors : ℕ → ℕ → List Entry → List ℕ → Type 0
HasActors start end journal actors =
    (place : ℕ) (entry : Entry) → start ≤ place → place < end → slice_get journal place ≡ Some entry
    → slice_get actors (place - start) ≡ Some entry.actor
