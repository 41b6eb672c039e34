-- The tables of the file, and how a database gets them.
use Rattle.std.specs.Prelude.{◌≡◌, ◌≢◌, ◌⊎◌, ℕ, ◌==◌, nat_le, ℤ, pos, ◌<ℤ◌, List, [], ◌∷◌, ◌++◌}
use Rattle.std.specs.Prelude.{filter, flat_map, length, codes, decimal, Option, None, Some, Ok, Err}
use Rattle.std.specs.Prelude.{IsTrue, if◌then◌else◌}
use Rattle.sqlite.specs.Store.{Ghosts}
use Rattle.sqlite.specs.Effect.{Database}
use Rattle.sqlite.specs.Tree.{Trees}
use Rattle.sqlite.specs.Order.{Row, column}
use Rattle.sqlite.specs.declared.error.Error.{Error}
use Rattle.sqlite.specs.declared.error.Error.TheVariants.{SqliteFailure}
use Rattle.sqlite.specs.declared.error.ErrorCode.TheVariants.{OutOfMemory}
use Rattle.sqlite.specs.declared.types.Value.{Value}
use Rattle.sqlite.specs.declared.types.Value.TheVariants.{Int}
use Rattle.sqlite.specs.Values.{IsInt}
use Rattle.sqlite.specs.Reading.{IsReadError}
use Rattle.sqlite.specs.State.{QueriesRowInside}
use Rattle.sqlite.specs.Steps.{FailsToCommit}
use Rattle.sqlite.specs.Batch.{ExecutesAllInside}
use Rattle.sqlite.specs.Held.{Held, state}
use Rattle.dmr_records.specs.declared.fault.FileFault.{FileFault}
use Rattle.dmr_records.specs.declared.fault.FileFault.TheVariants.{Newer, NotRecords}
use Rattle.dmr_records.specs.Faults.{fault_of}
use Rattle.dmr_records.specs.Ran.{begun, IsUndone}
use Rattle.dmr_records.specs.Sql.{Column, copy_rows, create_table, drop_table, integer_or_null, key}
use Rattle.dmr_records.specs.Statements.{call_columns, carrier_columns, event_columns}
use Rattle.dmr_records.specs.Statements.{registration_columns, term_columns, version}
use Rattle.dmr_records.specs.Statements.{version_before}
use Prim.Native.String.{String}

-- the query that counts the tables and indexes of a database
abbrev pub count_tables : List ℕ
count_tables = codes "SELECT count(*) FROM sqlite_schema"

-- the query for the version of the tables
abbrev pub select_version : List ℕ
select_version = codes "SELECT max(version) FROM schema_version"

-- a table: its name, its columns, and what is said of more than one of them
pub record Table : Type 0 where
  pub name : List ℕ
  pub columns : List Column
  pub together : List (List ℕ)

abbrev pub table_of : String → List Column → Table
table_of name columns = record { name = codes name; columns = columns; together = [] }

abbrev pub all_tables : List Table
all_tables =
    table_of "schema_version" (key "version" ∷ [])
    ∷ table_of "terms" (key "number" ∷ term_columns)
    ∷ table_of "calls" (key "number" ∷ call_columns)
    ∷ table_of "events" (key "number" ∷ event_columns)
    ∷ record (table_of "carriers" carrier_columns) {
      together = codes "PRIMARY KEY (term, carrier)" ∷ [];
    }
    ∷ table_of "registrations" registration_columns
    ∷ table_of "removed"
    (integer_or_null "calls" ∷ integer_or_null "events" ∷ integer_or_null "terms" ∷ [])
    ∷ []

-- the statement that makes a table
abbrev pub made : Table → List ℕ
made t = create_table t.name t.columns t.together

-- the statements that make the tables
abbrev pub tables : List ℕ
tables =
    flat_map made all_tables
    ++ codes "INSERT INTO removed (calls, events, terms) VALUES (0, 0, 0);"
    ++ codes "INSERT INTO schema_version (version) VALUES (" ++ decimal version ++ codes ")"

-- the columns that a table has in the version before
abbrev pub columns_before : Table → List Column
columns_before t = filter (λ (c : Column). nat_le c.since version_before) t.columns

-- the name of a table while its rows are copied
abbrev pub name_before : Table → List ℕ
name_before t = t.name ++ codes "_before"

-- the statements that add columns to a table: its rows are copied, since a table cannot be given a column. A new column
-- of theirs is NULL
abbrev pub extended : Table → List ℕ
extended t =
    create_table (name_before t) (columns_before t) t.together
    ++ copy_rows (columns_before t) t.name (name_before t)
    ++ drop_table t.name
    ++ made t
    ++ copy_rows (columns_before t) (name_before t) t.name
    ++ drop_table (name_before t)

-- those that make this version of a table from the version before, in which it has this number of its columns
abbrev pub carried : Table → ℕ → List ℕ
carried t before =
    if before == length t.columns then [] else (if before == 0 then made t else extended t)

-- the statements that make the tables from those of the version before
abbrev pub carry_over : List ℕ
carry_over =
    flat_map (λ (t : Table). carried t (length (columns_before t))) all_tables
    ++ codes "UPDATE schema_version SET version = " ++ decimal version

-- these statements make the tables of a database that has none, or those of the version before
abbrev pub AreStatementsFor : Option ℤ → List ℕ → Type 0
AreStatementsFor None text = text ≡ tables
AreStatementsFor (Some found) text = (found ≡ pos version_before) × (text ≡ carry_over)

-- the fault of tables of another version than these two
abbrev pub IsOtherVersion : ℤ → FileFault → Type 0
IsOtherVersion found fault =
    ((pos version <ℤ found) × (fault ≡ Newer found))
    ⊎ ((found <ℤ pos version_before) × (fault ≡ NotRecords))

-- this is not a number, with this error
abbrev pub IsNoNumber : Value → Error → Type 0
IsNoNumber value e = IsReadError 0 value e
    × (e ≢ SqliteFailure OutOfMemory → ¬ IsInt value)

module _ {S : Type 0} (g : Ghosts S) where
  -- this is what was committed, and nothing was written since
  abbrev pub HasCommitted : Held S → Database → Type 0
  HasCommitted h db = ((state g h).now ≡ db) × ((state g h).committed ≡ db)

  -- the first row of a query's answer begins with this number
  pub record ShowsNumber (query : List ℕ) (old new : Held S) (n : ℤ) : Type 0 where
    pub row : Row
    pub shown : QueriesRowInside query [] (state g old) (state g new) (Ok row)
    pub number : column row 0 ≡ Int n

  -- the query failed with this error, or the row does not begin with a number
  abbrev pub ShowsNoNumber : List ℕ → Held S → Held S → Error → Type 0
  ShowsNoNumber query old new e =
      QueriesRowInside query [] (state g old) (state g new) (Err e)
      ⊎ ((row : Row) × QueriesRowInside query [] (state g old) (state g new) (Ok row)
      × IsNoNumber (column row 0) e)

  -- the tables are of this version. If there is no table, it is None
  abbrev pub FindsVersion : Held S → Held S → Option ℤ → Type 0
  FindsVersion old new None = ShowsNumber count_tables old new (pos 0)
  FindsVersion old new (Some found) = (mid : Held S) × (n : ℤ) × (n ≢ pos 0)
      × ShowsNumber count_tables old mid n × ShowsNumber select_version mid new found

  -- the version cannot be read, with this error
  abbrev pub FindsNoVersion : Held S → Held S → Error → Type 0
  FindsNoVersion old new e = ShowsNoNumber count_tables old new e
      ⊎ ((mid : Held S) × (n : ℤ) × (n ≢ pos 0) × ShowsNumber count_tables old mid n
      × ShowsNoNumber select_version mid new e)

  -- the tables are of this version, as a transaction shows that was rolled back
  pub record HasVersion (old new : Held S) (version : Option ℤ) : Type 0 where
    pub last : Held S
    pub found : FindsVersion (begun old) last version
    pub undone : IsUndone g last new
    pub same : IsTrue (state g new).is_open → HasCommitted new (state g old).committed

  -- the transaction failed with this error, and was rolled back
  abbrev pub HasNoVersion : Held S → Held S → Error → Type 0
  HasNoVersion old new e =
      (last : Held S) × FindsNoVersion (begun old) last e × IsUndone g last new

  -- in a transaction, these statements lead to this state
  abbrev pub LeadTo : List ℕ → Held S → Held S → Type 0
  LeadTo text old made = ExecutesAllInside g 0 text (begun old) made (Ok tt)

  -- they did, and it was committed
  abbrev pub AreMade : List ℕ → Held S → Held S → Type 0
  AreMade text old new =
      (made : Held S) × LeadTo text old made × HasCommitted new (state g made).now

  -- a crash may leave these trees: those of the tables that were made
  abbrev pub MayLeaveTables : List ℕ → Held S → Trees → Type 0
  MayLeaveTables text old trees =
      (made : Held S) × LeadTo text old made × (trees ≡ (state g made).now.trees)

  -- the tables cannot be made, with this error of a statement or of the commit
  abbrev pub FailsToMake : List ℕ → Held S → Held S → Error → Type 0
  FailsToMake text old new e = (last : Held S)
      × ((ExecutesAllInside g 0 text (begun old) last (Err e) × IsUndone g last new)
      ⊎ (LeadTo text old last × FailsToCommit (state g last) (state g new) e))

  -- a transaction shows that the database has no table, or those of the version before, and these are the statements for
  -- it
  pub record Needs (old found : Held S) (text : List ℕ) : Type 0 where
    pub version : Option ℤ
    pub has : HasVersion old found version
    pub statements : AreStatementsFor version text

  -- the database has the tables: it had them, or had none or those of the version before, and they were made and
  -- committed
  abbrev pub ArePrepared : Held S → Held S → Type 0
  ArePrepared old new = HasVersion old new (Some (pos version))
      ⊎ ((found : Held S) × (text : List ℕ) × Needs old found text × AreMade text found new)

  -- the tables cannot be prepared, with this error of the library
  abbrev pub FailsToPrepare : Held S → Held S → Error → Type 0
  FailsToPrepare old new e = HasNoVersion old new e
      ⊎ ((found : Held S) × (text : List ℕ) × Needs old found text × FailsToMake text found new e)

  -- why the tables cannot be prepared: an error, or tables of another version
  abbrev pub AreNotPrepared : Held S → Held S → FileFault → Type 0
  AreNotPrepared old new fault =
      ((e : Error) × FailsToPrepare old new e × (fault ≡ fault_of e))
      ⊎ ((version : ℤ) × HasVersion old new (Some version) × IsOtherVersion version fault)

  -- a crash may leave these trees: those of the tables that were made
  abbrev pub MayPrepare : Held S → Trees → Type 0
  MayPrepare old trees = (found : Held S) × (text : List ℕ)
      × Needs old found text × MayLeaveTables text found trees
