-- Terms in a row: each begins with what the one before it left.
use Rattle.std.specs.Prelude.{◌≡◌, ℕ, ◌<◌, List, [], ◌∷◌, ◌++◌, Option, Some, length}
use Rattle.dmr_core.specs.declared.entry.Entry.{Entry}
use Rattle.dmr_desk.specs.declared.fault.TermFault.{TermFault}
use Rattle.dmr_desk.specs.Opening.{IsLimit}
use Rattle.dmr_desk.specs.Refusing.{AreStations, IsTermFault}
use Rattle.dmr_desk.specs.Term.{Start, End, IsTerm, start_of_term}

-- ---- a chain of terms, newest first

-- the start of the term that follows a term with this end: the site, the stations, the pacer and the console are as
-- that term left them
abbrev pub next_start : ℕ → End → Start
next_start limit end = start_of_term end.site limit end.stations end.pacer end.console

-- the start of the term that follows terms with these ends
abbrev pub start_after : Start → List End → Start
start_after start [] = start
start_after start (end ∷ earlier) = next_start start.limit end

-- TERMS: each of these ends is that of a term which began with what the term before it left; the first began at `start`
abbrev pub AreTerms : Start → List End → Type 0
AreTerms start [] = Unit {0}
AreTerms start (end ∷ earlier) = IsTerm (start_after start earlier) end × AreTerms start earlier

-- ---- a run of terms

-- the journals of terms with these ends, oldest first
abbrev pub journals_of : List End → List (List Entry)
journals_of [] = []
journals_of (end ∷ earlier) = journals_of earlier ++ end.journal ∷ []

-- an observer saw these journals between two moments, oldest first: if it reports a record at the second, that is the
-- record of the first with these journals appended
pub record Sees (before : Option (List (List Entry))) (journals : List (List Entry))
    (after : Option (List (List Entry))) : Type 0 where
  pub follows : (whole : List (List Entry)) → after ≡ Some whole
      → (begun : List (List Entry)) × (before ≡ Some begun) × (whole ≡ begun ++ journals)

-- a term can begin so: there is one station for each carrier of the plan, by number, and a journal may have the limit
-- `limit`
abbrev pub Fits : Start → Type 0
Fits start = AreStations start.site.plan start.stations × IsLimit start.limit

-- this many terms have run from `start`, and another would begin at `next`. The observer saw the journal of each term,
-- and no other. If any has run, `start` fits
pub record HaveRun (start : Start) (terms : ℕ) (next : Start)
    (before after : Option (List (List Entry))) : Type 0 where
  pub ends : List End
  pub are : AreTerms start ends
  pub count : length ends ≡ terms
  pub next_is : next ≡ start_after start ends
  pub seen : Sees before (journals_of ends) after
  pub fits : 0 < terms → Fits start

-- this many terms have run from `start`, fewer than `terms`, and for this reason there is not another
pub record HaveStopped (start : Start) (terms done : ℕ) (fault : TermFault)
    (before after : Option (List (List Entry))) : Type 0 where
  pub next : Start
  pub run : HaveRun start done next before after
  pub fewer : done < terms
  pub why : IsTermFault next fault
