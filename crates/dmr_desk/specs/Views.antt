-- A journal's list for an actor, and a view that is compared with it entry by entry.
use Rattle.std.specs.Prelude.{◌≡◌, ◌≢◌, ◌≤◌, ◌==◌, ℕ, List, length, filter, map, drop, Option, Some}
use Rattle.std.specs.Prelude.{None}
use Rattle.dmr_core.specs.declared.entry.Entry.{Entry}
use Rattle.dmr_link.specs.declared.desk.Deposit.{Deposit}

-- the event and the answer of an entry
abbrev pub deposit_in : Entry → Deposit
deposit_in entry = record { event = entry.event; acts = entry.acts }

-- the events of an actor and their answers, in the journal's order
abbrev pub view_of : ℕ → List Entry → List Deposit
view_of actor entries = map deposit_in (filter (λ (entry : Entry). entry.actor == actor) entries)

-- ---- on the way

-- the deposits from the n-th on are the list of the entries from the i-th on, exactly if all deposits are the list of
-- all entries
pub record IsRest (deposits : List Deposit) (actor : ℕ) (journal : List Entry)
    (n i : ℕ) : Type 0 where
  pub down : deposits ≡ view_of actor journal → drop n deposits ≡ view_of actor (drop i journal)
  pub up : drop n deposits ≡ view_of actor (drop i journal) → deposits ≡ view_of actor journal

-- the first entries, this many, have confirmed N of an actor's deposits, or else show that the deposits are not the
-- journal's list
abbrev pub Follows : List Deposit → ℕ → List Entry → ℕ → Option ℕ → Type 0
Follows deposits actor journal place (Some turn) =
    (turn ≤ length deposits) × IsRest deposits actor journal turn place
Follows deposits actor journal place None = deposits ≢ view_of actor journal
