-- The registered radios, as they are read from the file.
use Rattle.std.specs.Prelude.{◌≡◌, ◌≢◌, ◌⊎◌, ℕ, ◌<◌, ◌^◌, List, [], map, codes, Some, slice_get, IsTrue}
use Rattle.sqlite.specs.Order.{Row, column}
use Rattle.sqlite.specs.Store.{Ghosts}
use Rattle.sqlite.specs.State.{FailsToQuery, Shown}
use Rattle.sqlite.specs.declared.error.Error.{Error}
use Rattle.sqlite.specs.Held.{Held, state}
use Rattle.dmr_records.specs.declared.fault.FileFault.{FileFault}
use Rattle.dmr_records.specs.declared.fault.FileFault.TheVariants.{Damaged, NotRecords, OutOfMemory}
use Rattle.dmr_records.specs.Faults.{fault_of}
use Rattle.dmr_records.specs.Ran.{begun, IsUndone}
use Rattle.dmr_records.specs.Statements.{number}

-- the query. A site has 4,096 radios at most; one more row shows that the table has too many
abbrev pub select_radios : List ℕ
select_radios = codes "SELECT radio FROM registrations ORDER BY place LIMIT 4097"

-- each row's first column is the radio of its place
abbrev pub ShowRadios : List Row → List ℕ → Type 0
ShowRadios rows radios = map (λ (row : Row). column row 0) rows ≡ map number radios

-- the first column is not the address of a radio
abbrev pub HasNoRadio : Row → Type 0
HasNoRadio row = (radio : ℕ) → radio < 2 ^ 24 → column row 0 ≢ number radio

-- no radio is read from a row, with this fault
abbrev pub IsNoRadio : Row → FileFault → Type 0
IsNoRadio row fault = (fault ≡ OutOfMemory) ⊎ ((fault ≡ Damaged) × HasNoRadio row)

-- nor are radios from rows, of which one has none
abbrev pub AreNoRadios : List Row → FileFault → Type 0
AreNoRadios rows fault = (fault ≡ OutOfMemory)
    ⊎ ((fault ≡ Damaged)
    × (row : Row) × (place : ℕ) × (slice_get rows place ≡ Some row) × HasNoRadio row)

module _ {S : Type 0} (g : Ghosts S) where
  -- these rows are the answer of the query in a transaction that was rolled back
  abbrev pub AreShown : Held S → Held S → List Row → Type 0
  AreShown old new rows = (last : Held S)
      × Shown select_radios [] (state g (begun old)) (state g last) rows × IsUndone g last new

  -- the query failed with this error, and the transaction was rolled back
  abbrev pub FailsToShow : Held S → Held S → Error → Type 0
  FailsToShow old new e = (last : Held S)
      × FailsToQuery select_radios [] (state g (begun old)) (state g last) e × IsUndone g last new

  -- these radios are the answer of the query, in its order
  pub record AreRead (old new : Held S) (radios : List ℕ) : Type 0 where
    pub rows : List Row
    pub shown : AreShown old new rows
    pub columns : ShowRadios rows radios

  -- with this fault, the radios were not read: the connection was within a transaction, the query failed, or a row of
  -- its answer has no radio
  abbrev pub AreNotRead : Held S → Held S → FileFault → Type 0
  AreNotRead old new fault =
      ((fault ≡ NotRecords) × IsTrue old.in_transaction × (new ≡ old))
      ⊎ (((e : Error) × FailsToShow old new e × (fault ≡ fault_of e))
      ⊎ ((rows : List Row) × AreShown old new rows × AreNoRadios rows fault))
