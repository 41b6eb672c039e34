-- A database that is opened for a call, and closed after it.
use Rattle.std.specs.Prelude.{◌≡◌, ◌⊎◌, ℕ, List, IsTrue}
use Rattle.sqlite.specs.Store.{Ghosts}
use Rattle.sqlite.specs.State.{HasCleanDisk, KeepsCommit, Survives}
use Rattle.sqlite.specs.Tree.{Trees}
use Rattle.sqlite.specs.Held.{Held, state}
use Rattle.dmr_keeper.specs.declared.keeper.KeepFault.{KeepFault}
use Rattle.dmr_keeper.specs.declared.time.TimedRecords.{TimedRecords}
use Rattle.dmr_records.specs.declared.fault.FileFault.{FileFault}
use Rattle.dmr_records.specs.declared.fault.FileFault.TheVariants.{NotRecords}
use Rattle.dmr_records.specs.Faults.{keep_fault_of}
use Rattle.dmr_records.specs.Reading.{AreNotRead, AreRead}
use Rattle.dmr_records.specs.Tables.{AreNotPrepared, ArePrepared, MayPrepare}
use Rattle.dmr_records.specs.Written.{HoldsTerm, IsNotWritten, MayLeave}

module _ {S : Type 0} (g : Ghosts S) where
  -- the tables were prepared, and then the records of the term were written and committed
  abbrev pub WritesTerm : ℕ → TimedRecords → Held S → Held S → Type 0
  WritesTerm most term old new = (ready : Held S)
      × ArePrepared g old ready × HoldsTerm g most term ready (state g new).committed

  -- the tables were prepared, and then the radios were read. What was committed is still
  abbrev pub ReadsRadios : List ℕ → Held S → Held S → Type 0
  ReadsRadios radios old new = (ready : Held S) × ArePrepared g old ready
      × AreRead g ready new radios × KeepsCommit (state g ready) (state g new)

  -- with this fault nothing was done: the connection was within a transaction, the tables could not be prepared, or what
  -- was to be done over them failed. What was committed is still
  abbrev pub FailsOver : (Held S → Held S → FileFault → Type 0)
      → Held S → Held S → FileFault → Type 0
  FailsOver Fails old new fault =
      ((fault ≡ NotRecords) × IsTrue old.in_transaction × (new ≡ old))
      ⊎ ((AreNotPrepared g old new fault × KeepsCommit (state g old) (state g new))
      ⊎ ((ready : Held S) × ArePrepared g old ready × Fails ready new fault
      × KeepsCommit (state g ready) (state g new)))

  -- a crash may leave these trees: those of the tables, or of the term's records in them
  abbrev pub MayKeep : ℕ → TimedRecords → Held S → Trees → Type 0
  MayKeep most term old trees = MayPrepare g old trees
      ⊎ ((ready : Held S) × ArePrepared g old ready × MayLeave g most term ready trees)

-- `opens before c at`: opening returned the connection `c`. `closes at c after`: closing `c` left this. `refuses before
-- fault after`: it could not be opened
module _ {S D : Type 0} (g : Ghosts S) where
  -- the database was opened, used and closed. `Used` says what that made of the connection, as far as the disk has
  -- returned what was written, and `Leaves` what a crash may leave of it
  pub record IsUsed (opens closes : D → Held S → D → Type 0) (Used : Held S → Held S → Type 0)
      (Leaves : Held S → Trees → Type 0) (before after : D) : Type 0 where
    pub opened : Held S
    pub at : D
    pub opens_it : opens before opened at
    pub last : Held S
    pub used : HasCleanDisk (state g last) → Used opened last
    pub crash : Survives (state g opened) (state g last) (Leaves opened)
    pub closes_it : closes at last after

  -- the records of the term were written
  abbrev pub IsKept : (D → Held S → D → Type 0) → (D → Held S → D → Type 0) → ℕ → TimedRecords
      → D → D → Type 0
  IsKept opens closes most term =
      IsUsed opens closes (WritesTerm g most term) (MayKeep g most term)

  -- they were not, with this fault: the database was not opened, or else what was committed is still
  abbrev pub IsNotKept : (D → Held S → D → Type 0) → (D → FileFault → D → Type 0)
      → (D → Held S → D → Type 0) → ℕ → TimedRecords → D → D → FileFault → Type 0
  IsNotKept opens refuses closes most term before after fault = refuses before fault after
      ⊎ IsUsed opens closes (λ old new. FailsOver g (IsNotWritten g most term) old new fault)
      (MayKeep g most term) before after

  -- a store refused records with this fault: it is that of the database
  abbrev pub IsRefusal : (D → Held S → D → Type 0) → (D → FileFault → D → Type 0)
      → (D → Held S → D → Type 0) → ℕ → TimedRecords → D → D → KeepFault → Type 0
  IsRefusal opens refuses closes most term before after fault =
      (found : FileFault) × (fault ≡ keep_fault_of found)
      × IsNotKept opens refuses closes most term before after found

  -- the same, whatever it left
  abbrev pub Refuses : (D → Held S → D → Type 0) → (D → FileFault → D → Type 0)
      → (D → Held S → D → Type 0) → ℕ → TimedRecords → D → KeepFault → Type 0
  Refuses opens refuses closes most term before fault =
      (after : D) × IsRefusal opens refuses closes most term before after fault

  -- the radios were read
  abbrev pub AreReadBack : (D → Held S → D → Type 0) → (D → Held S → D → Type 0) → List ℕ
      → D → D → Type 0
  AreReadBack opens closes radios = IsUsed opens closes (ReadsRadios g radios) (MayPrepare g)

  -- they were not, with this fault: the database was not opened, or else what was committed is still
  abbrev pub IsNotRead : (D → Held S → D → Type 0) → (D → FileFault → D → Type 0)
      → (D → Held S → D → Type 0) → D → D → FileFault → Type 0
  IsNotRead opens refuses closes before after fault = refuses before fault after
      ⊎ IsUsed opens closes (λ old new. FailsOver g (AreNotRead g) old new fault) (MayPrepare g)
      before after

  -- a store could not read the radios, with this fault: it is that of the database
  abbrev pub CannotRead : (D → Held S → D → Type 0) → (D → FileFault → D → Type 0)
      → (D → Held S → D → Type 0) → D → D → KeepFault → Type 0
  CannotRead opens refuses closes before after fault = (found : FileFault)
      × (fault ≡ keep_fault_of found) × IsNotRead opens refuses closes before after found
