-- All terms as one: one journal, and for each actor one list of events. Lists of terms have the newest term first.
use Rattle.std.specs.Prelude.{◌≡◌, ◌≤◌, ℕ, ◌+◌, List, [], ◌∷◌, ◌++◌, Option, length, map}
use Rattle.std.specs.Prelude.{slice_index_or}
use Rattle.dmr_core.specs.declared.entry.Entry.{Entry}
use Rattle.dmr_wire.specs.Answers.{Answer}
use Rattle.dmr_link.specs.declared.desk.Deposit.{Deposit}
use Rattle.dmr_link.specs.declared.stream.Peer.{Peer}
use Rattle.dmr_link.specs.Happenings.{Happening, answers_in, deposits_in}
use Rattle.dmr_link.specs.Sessions.{Session, HasPast, Happens}
use Rattle.dmr_desk.specs.Meaning.{in_record, read_on}
use Rattle.dmr_desk.specs.Pace.{Paced, Answered, AreTicks}
use Rattle.dmr_desk.specs.Term.{End}
use Rattle.dmr_desk.specs.Work.{StationState, WorkState, work_state, sides_at, Step, happened_of}
use Rattle.dmr_desk.specs.Work.{past_after, deposits_of_sessions, IsOrderly}

-- ---- the journal

-- the journal of all terms with these ends, oldest entry first
abbrev pub joined_journal : List End → List Entry
joined_journal [] = []
joined_journal (end ∷ earlier) = joined_journal earlier ++ end.journal

-- the views of an actor in all terms with these ends, oldest deposit first
abbrev pub joined_view : ℕ → List End → List Deposit
joined_view actor [] = []
joined_view actor (end ∷ earlier) = joined_view actor earlier ++ slice_index_or end.views actor []

-- ---- a link's worker: its steps, term by term

-- the connections after the steps of all terms
abbrev pub past_after_terms : List Session → List (List Step) → List Session
past_after_terms past [] = past
past_after_terms past (steps ∷ earlier) = past_after (past_after_terms past earlier) steps

-- what happened in all terms, oldest first
abbrev pub happened_of_terms : List (List Step) → List Happening
happened_of_terms [] = []
happened_of_terms (steps ∷ earlier) = happened_of_terms earlier ++ happened_of steps

-- the steps of each term are in order, from the connections that the terms before it left
abbrev pub AreOrderly : Peer → List Session → List (List Step) → Type 0
AreOrderly who past [] = Unit {0}
AreOrderly who past (steps ∷ earlier) =
    IsOrderly who (past_after_terms past earlier) steps × AreOrderly who past earlier

-- these steps, term by term, lead from moment `m` to moment `n`
pub record WentOn (m : WorkState) (n : WorkState) (terms : List (List Step)) : Type 0 where
  pub who : n.at.link.who ≡ m.at.link.who
  -- the reports of port, desk and gate continue with exactly what happened
  pub happens : Happens (sides_at m.at m.calls) (happened_of_terms terms) (sides_at n.at n.calls)
  -- if connections agreed with the link's state before (`HasPast`), they agree with it after these steps
  pub stands : (past : List Session) → HasPast m.at.link past
      → HasPast n.at.link (past_after_terms past terms)
  -- the desks' deposits in these steps, in one list, are those of these connections since
  pub view : (past : List Session) → HasPast m.at.link past
      → deposits_of_sessions (past_after_terms past terms)
      ≡ deposits_of_sessions past ++ deposits_in (happened_of_terms terms)
  pub orderly : (past : List Session) → HasPast m.at.link past → AreOrderly m.at.link.who past terms

-- a link's worker did its work in this many terms, from one state of its station to another; the desks took these
-- events, in this order
abbrev pub HasWorkedOn : ℕ → StationState → StationState → List Deposit → Type 0
HasWorkedOn count s t view =
    (terms : List (List Step)) × (length terms ≡ count)
    × WentOn (work_state s []) (work_state t view) terms

-- ---- a port's record, term by term

-- the answers of a port in the steps of each term
abbrev pub answers_of_terms : List (List Step) → List (List Answer)
answers_of_terms terms = map (λ (steps : List Step). answers_in (happened_of steps)) terms

-- the answers of all terms, oldest first
abbrev pub joined_answers : List (List Answer) → List Answer
joined_answers [] = []
joined_answers (answers ∷ earlier) = joined_answers earlier ++ answers

-- the connections after a record was read on from `past`, term by term
abbrev pub read_terms : List Session → List (List Answer) → List Session
read_terms past [] = map in_record past
read_terms past (answers ∷ earlier) = read_on (read_terms past earlier) answers

-- ---- the ticker

-- the desks took these events of the ticker in this many terms: ticks alone, each of which the pacer gave. The pacer
-- gave at most one more for each term
pub record HasTickedOn (count : ℕ) (before after : Option Paced)
    (view : List Deposit) : Type 0 where
  pub given : ℕ
  pub gave : Answered before after given
  pub ticks : AreTicks view
  pub at_least : length view ≤ given
  pub at_most : given ≤ length view + count
