-- What a store has kept.
use Rattle.std.specs.Prelude.{◌≡◌, ℕ, List, [], ◌∷◌, ◌++◌, Option, Some, fold}
use Rattle.dmr_keeper.specs.declared.calls.EndedCall.{EndedCall}
use Rattle.dmr_keeper.specs.declared.carriers.CarrierCounts.{CarrierCounts}
use Rattle.dmr_keeper.specs.declared.changes.Change.{Change}
use Rattle.dmr_keeper.specs.declared.counts.TermCounts.{TermCounts}
use Rattle.dmr_keeper.specs.declared.notes.TimedOccurrence.{TimedOccurrence}
use Rattle.dmr_keeper.specs.declared.time.TermTime.{TermTime}
use Rattle.dmr_keeper.specs.declared.time.TimedRecords.{TimedRecords}

-- the records of all terms so far, oldest term first
pub record Kept : Type 0 where
  pub calls : List EndedCall
  pub changes : List Change
  pub notes : List TimedOccurrence
  pub counts : List TermCounts  -- one for each term
  pub carriers : List CarrierCounts  -- those of each term, lowest carrier first
  pub times : List TermTime  -- one for each term
  pub registered : List ℕ  -- the radios after the last term, in the order of joining

-- before the first term
abbrev pub nothing_kept : Kept
nothing_kept = record {
  calls = [];
  changes = [];
  notes = [];
  counts = [];
  carriers = [];
  times = [];
  registered = [];
}

-- after the records of one more term
abbrev pub kept_with : Kept → TimedRecords → Kept
kept_with kept term = record {
  calls = kept.calls ++ term.records.calls.items;
  changes = kept.changes ++ term.records.changes.items;
  notes = kept.notes ++ term.records.notes.items;
  counts = kept.counts ++ term.records.counts ∷ [];
  carriers = kept.carriers ++ term.records.carriers.items;
  times = kept.times ++ term.time ∷ [];
  registered = term.records.after.registered;
}

-- after the records of more terms, oldest term first
abbrev pub kept_with_all : Kept → List TimedRecords → Kept
kept_with_all kept terms = fold kept_with kept terms

-- between two moments a store kept the records of these terms, oldest term first, and no others. So if it reports at the
-- second moment, it has kept what it had kept at the first, and these
pub record Keeps (before : Option Kept) (terms : List TimedRecords)
    (after : Option Kept) : Type 0 where
  pub follows : (whole : Kept) → after ≡ Some whole
      → (begun : Kept) × (before ≡ Some begun) × (whole ≡ kept_with_all begun terms)
