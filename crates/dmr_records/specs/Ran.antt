-- Statements that run one after another within a transaction.
use Rattle.std.specs.Prelude.{◌≡◌, ◌⊎◌, ℕ, true, List, [], ◌∷◌, Result, Ok, Err, IsTrue}
use Rattle.sqlite.specs.Store.{Ghosts}
use Rattle.sqlite.specs.State.{HasCleanDisk, ExecutesInside, IsRolledBack, KeepsCommit, Survives}
use Rattle.sqlite.specs.declared.error.Error.{Error}
use Rattle.sqlite.specs.Held.{Held, state}
use Rattle.dmr_records.specs.Statements.{Statement}

-- the connection as a transaction begins
abbrev pub begun : {S : Type 0} → Held S → Held S
begun old = record old { in_transaction = true }

module _ {S : Type 0} (g : Ghosts S) where
  -- a statement was executed, and was not refused. `ExecutesInside` says what that makes of the database
  abbrev pub Executed : Statement → Held S → Held S → Type 0
  Executed it old new =
      (count : ℕ) × ExecutesInside 0 it.text it.params (state g old) (state g new) (Ok count)

  -- a statement failed or was refused, with this error
  abbrev pub Failed : Statement → Held S → Held S → Error → Type 0
  Failed it old new e = ExecutesInside 0 it.text it.params (state g old) (state g new) (Err e)

  -- these statements were executed in this order, and no other, up to the first that failed
  abbrev pub ExecutedAll : List Statement → Held S → Held S → Result (Unit {0}) Error → Type 0
  ExecutedAll [] old new outcome = (outcome ≡ Ok tt) × (new ≡ old)
  ExecutedAll (it ∷ later) old new outcome =
      ((e : Error) × (outcome ≡ Err e) × Failed it old new e)
      ⊎ ((mid : Held S) × Executed it old mid × ExecutedAll later mid new outcome)

  -- what a call says of a transaction: a fact, as far as the disk has returned what was written. Nothing was committed
  pub record Within (old new : Held S) (Fact : Type 0) : Type 0 where
    pub fact : HasCleanDisk (state g new) → IsTrue (state g old).in_transaction → Fact
    pub survives : Survives (state g old) (state g new) (λ _. ⊥)

  -- the statements as calls ran them, with this outcome
  abbrev pub RanAll : List Statement → Held S → Held S → Result (Unit {0}) Error → Type 0
  RanAll [] old new outcome = (outcome ≡ Ok tt) × (new ≡ old)
  RanAll (it ∷ later) old new outcome =
      ((e : Error) × (outcome ≡ Err e) × Within old new (Failed it old new e))
      ⊎ ((mid : Held S) × Within old mid (Executed it old mid) × RanAll later mid new outcome)

  -- nothing was committed, also over a crash, whatever came of the statements
  pub record Keeps (old new : Held S) : Type 0 where
    pub kept : HasCleanDisk (state g new) → KeepsCommit (state g old) (state g new)
    pub survives : Survives (state g old) (state g new) (λ _. ⊥)

  -- the same, if the transaction goes on
  pub record Looks (old new : Held S) : Type 0 where
    pub kept : HasCleanDisk (state g new) → IsTrue (state g old).in_transaction
        → KeepsCommit (state g old) (state g new)
    pub survives : Survives (state g old) (state g new) (λ _. ⊥)

  -- the transaction was rolled back
  pub record IsUndone (last new : Held S) : Type 0 where
    pub undone : IsRolledBack (state g last) (state g new)
    pub survives : Survives (state g last) (state g new) (λ _. ⊥)
