-- The records of a term in the database.
use Rattle.std.specs.Prelude.{◌≡◌, ◌⊎◌, ℕ, List, Result, Ok, Err}
use Rattle.sqlite.specs.Store.{Ghosts}
use Rattle.sqlite.specs.Effect.{Database}
use Rattle.sqlite.specs.Tree.{Trees}
use Rattle.sqlite.specs.Steps.{FailsToCommit}
use Rattle.sqlite.specs.declared.error.Error.{Error}
use Rattle.sqlite.specs.Held.{Held, state}
use Rattle.dmr_keeper.specs.declared.time.TimedRecords.{TimedRecords}
use Rattle.dmr_records.specs.declared.fault.FileFault.{FileFault}
use Rattle.dmr_records.specs.Faults.{fault_of}
use Rattle.dmr_records.specs.Statements.{Statement, put_term, put_rest, row_number, row_of_term}
use Rattle.dmr_records.specs.Ran.{begun, Executed, ExecutedAll, Failed, IsUndone, RanAll, Within}

-- the statement of the term's row
abbrev pub first_statement : TimedRecords → Statement
first_statement term = put_term term.time term.records.after.ticks term.records.counts

module _ {S : Type 0} (g : Ghosts S) where
  -- the statements of the other rows, if this is the state after that of the term's row: they have the number that the
  -- row was given
  abbrev pub later_statements : ℕ → TimedRecords → Held S → List Statement
  later_statements most term first =
      put_rest most (row_of_term (row_number (state g first).last_rowid) term) term.records

  -- the statements of a term were executed, up to the first that failed: first that of the term's row, and then those
  -- of the other rows
  abbrev pub ExecutesTerm : ℕ → TimedRecords → Held S → Held S → Result (Unit {0}) Error
      → Type 0
  ExecutesTerm most term old new outcome =
      ((e : Error) × (outcome ≡ Err e) × Failed g (first_statement term) old new e)
      ⊎ ((first : Held S) × Executed g (first_statement term) old first
      × ExecutedAll g (later_statements most term first) first new outcome)

  -- the same, as calls ran them
  abbrev pub RunsTerm : ℕ → TimedRecords → Held S → Held S → Result (Unit {0}) Error → Type 0
  RunsTerm most term old new outcome =
      ((e : Error) × (outcome ≡ Err e) × Within g old new (Failed g (first_statement term) old new e))
      ⊎ ((first : Held S) × Within g old first (Executed g (first_statement term) old first)
      × RanAll g (later_statements most term first) first new outcome)

  -- the database is what a transaction of this connection makes by executing these statements
  pub record HoldsTerm (most : ℕ) (term : TimedRecords) (old : Held S)
      (db : Database) : Type 0 where
    pub last : Held S
    pub executed : ExecutesTerm most term (begun old) last (Ok tt)
    pub is : db ≡ (state g last).now

  -- a crash may leave these trees: those of such a database
  abbrev pub MayLeave : ℕ → TimedRecords → Held S → Trees → Type 0
  MayLeave most term old trees =
      (db : Database) × HoldsTerm most term old db × (trees ≡ db.trees)

  -- the transaction failed with this error: a statement did, and the transaction was rolled back, or else the commit did
  abbrev pub FailsToWrite : ℕ → TimedRecords → Held S → Held S → Error → Type 0
  FailsToWrite most term old new e = (last : Held S)
      × ((ExecutesTerm most term (begun old) last (Err e) × IsUndone g last new)
      ⊎ (ExecutesTerm most term (begun old) last (Ok tt)
      × FailsToCommit (state g last) (state g new) e))

  -- with this fault, the records were not written
  abbrev pub IsNotWritten : ℕ → TimedRecords → Held S → Held S → FileFault → Type 0
  IsNotWritten most term old new fault =
      (e : Error) × FailsToWrite most term old new e × (fault ≡ fault_of e)
