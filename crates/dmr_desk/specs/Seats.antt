-- Seats, and their desk.
use Rattle.std.specs.Prelude.{◌≡◌, ◌<◌, ◌++◌, ℕ, zero, suc, false, List, [], ◌∷◌, None, Contains}
use Rattle.dmr_plan.specs.declared.settings.Settings.{Settings}
use Rattle.dmr_core.specs.Facts.{no_facts}
use Rattle.dmr_core.specs.declared.event.Event.{Event}
use Rattle.dmr_core.specs.declared.act.Acts.{Acts}
use Rattle.dmr_core.specs.State.{SiteState}
use Rattle.dmr_link.specs.declared.desk.Deposit.{Deposit}

-- a seat: its actor, and its deposits, oldest first
pub record SeatState : Type 0 where
  pub actor : ℕ
  pub deposits : List Deposit

-- the seat with one more deposit, the newest: an event and its answer
abbrev pub seat_with_deposit : SeatState → Event → Acts → SeatState
seat_with_deposit seat event acts = record {
  actor = seat.actor;
  deposits = seat.deposits ++ record { event = event; acts = acts } ∷ [];
}

-- settings that no site file yields; it does not matter which
pub no_settings : Settings
no_settings = search (zero, false, None, [])

-- a desk: the site when it was opened, the limit of its journal, and the number of its actors
pub record Opened : Type 0 where
  pub site : SiteState
  pub limit : ℕ
  pub actors : ℕ

-- the desk of this site, this limit and this number of actors
abbrev pub opened : SiteState → ℕ → ℕ → Opened
opened site limit actors = record { site = site; limit = limit; actors = actors }

-- a desk that no call opens: a ledger names it if the call that makes the ledger picks no desk
abbrev pub unopened : Opened
unopened = opened (record { plan = no_settings; facts = no_facts }) 0 0

-- this actor has a seat among these
abbrev pub HasSeat : List SeatState → ℕ → Type 0
HasSeat seats actor = (seat : SeatState) × Contains seats seat × (seat.actor ≡ actor)

-- each actor below this number has a seat
abbrev pub NoneMissing : List SeatState → ℕ → Type 0
NoneMissing seats actors = (actor : ℕ) → actor < actors → HasSeat seats actor

-- the seats of the actors below a number, in order, without deposits
abbrev pub empty_seats : ℕ → List SeatState
empty_seats zero = []
empty_seats (suc n) = empty_seats n ++ record { actor = n; deposits = [] } ∷ []
