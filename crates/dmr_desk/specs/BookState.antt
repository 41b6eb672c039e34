-- A book: the site at its opening, and the entries since then, oldest first.
use Rattle.std.specs.Prelude.{◌<◌, ◌≤◌, ◌++◌, ◌∷◌, [], ℕ, List, length, reverse, All}
use Rattle.dmr_core.specs.declared.event.Event.{Event}
use Rattle.dmr_core.specs.declared.act.Acts.{Acts}
use Rattle.dmr_core.specs.declared.entry.Entry.{Entry}
use Rattle.dmr_core.specs.State.{SiteState, IsSite}
use Rattle.dmr_core.specs.Facts.{facts_after}
use Rattle.dmr_core.specs.Journal.{IsLegal, answer_after_entries}

-- a book as contracts see it
pub record BookState : Type 0 where
  pub opening : SiteState  -- the site when the book was opened
  pub limit : ℕ  -- the most entries that it may have
  pub entries : List Entry  -- oldest first

-- the book of this site and this limit, without entries
abbrev pub empty_book : SiteState → ℕ → BookState
empty_book site limit = record { opening = site; limit = limit; entries = [] }

-- the site in the state that the entries lead to
abbrev pub site_after_entries : SiteState → List Entry → SiteState
site_after_entries opening entries =
    record { plan = opening.plan; facts = facts_after opening.plan opening.facts (reverse entries) }

-- the pages with one more entry, the newest: an actor's event and its answer
abbrev pub book_with_entry : BookState → ℕ → Event → Acts → BookState
book_with_entry pages actor event acts = record {
  opening = pages.opening;
  limit = pages.limit;
  entries = pages.entries ++ record { actor = actor; event = event; acts = acts } ∷ [];
}

-- the answer to an event after the entries
abbrev pub answer_to : BookState → Event → Acts
answer_to pages event =
    answer_after_entries pages.opening.plan pages.opening.facts (reverse pages.entries) event

-- each entry is of an actor below this number
abbrev pub AreOfActors : ℕ → List Entry → Type 0
AreOfActors actors entries = All (λ (entry : Entry). entry.actor < actors) entries

-- every book was opened with a site, its journal is legal from there, and it has at most `limit` entries
pub record IsSoundBook (pages : BookState) : Type 0 where
  pub site : IsSite pages.opening
  pub legal : IsLegal pages.opening.plan pages.opening.facts (reverse pages.entries)
  pub within : length pages.entries ≤ pages.limit
