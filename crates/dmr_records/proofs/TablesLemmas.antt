-- The tables: what a transaction finds, and transactions one after another.
use Rattle.std.proofs.Common.{◌≡◌, ℕ, ℤ, pos, List, Option, None, Some, refl, Result, Ok, Err, IfErr, IfOk, arith, subst}
use Rattle.std.specs.Fmt.{digits}
use Rattle.sqlite.specs.Store.{Ghosts}
use Rattle.sqlite.specs.declared.error.Error.{Error}
use Rattle.sqlite.specs.State.{HasCleanDisk, IsRolledBack, Survives}
use Rattle.sqlite.specs.Batch.{ExecutesAllInside}
use Rattle.sqlite.specs.Held.{Held, state}
use Rattle.sqlite.proofs.StateLemmas.{survives_then}
use Rattle.sqlite.proofs.Callers.{survives_begin}
use Rattle.dmr_records.specs.Ran.{begun, Looks}
use Rattle.dmr_records.specs.Statements.{version_before}
use Rattle.dmr_records.specs.declared.rows.TheConstants.{CARRY_OVER, TABLES}
use Rattle.dmr_records.specs.Tables.{carry_over, tables, MayLeaveTables, MayPrepare, FindsVersion, FindsNoVersion, HasVersion, HasNoVersion}
use Rattle.dmr_records.specs.Tables.{Needs}
use Rattle.dmr_records.proofs.QueryLemmas.{early, has_committed}

-- what was read in a transaction that was then rolled back
module _ {S : Type 0} (g : Ghosts S) (old begin last new : Held S) (begins : begin ≡ begun old) (looks : Looks g begin last)
    (undone : HasCleanDisk (state g new) → IsRolledBack (state g last) (state g new))
    (survives : Survives (state g last) (state g new) (λ _. ⊥)) where
  pub has_version : (r : Result (Option ℤ) Error) → (HasCleanDisk (state g last) → IfOk r (FindsVersion g begin last)) →
      HasCleanDisk (state g new) → IfOk r (HasVersion g old new)
  has_version (Ok version) found clean = record {
    last = last;
    found = subst (λ (h : Held S). FindsVersion g h last version) begins
        (found (early g old begin last new begins looks undone survives clean));
    undone = record { undone = undone clean; survives = survives };
    same = has_committed g old begin last new begins looks undone survives clean;
  }
  has_version (Err e) found clean = tt

  pub has_no_version : (r : Result (Option ℤ) Error) → (HasCleanDisk (state g last) → IfErr r (FindsNoVersion g begin last)) →
      HasCleanDisk (state g new) → IfErr r (HasNoVersion g old new)
  has_no_version (Ok version) failed clean = tt
  has_no_version (Err e) failed clean = (
    last,
    subst (λ (h : Held S). FindsNoVersion g h last e) begins
        (failed (early g old begin last new begins looks undone survives clean)),
    record { undone = undone clean; survives = survives },
  )

-- what a crash may leave of a transaction that makes the tables
pub may_leave_tables : {S : Type 0} (g : Ghosts S) (text : List ℕ) (old begin last new : Held S) → begin ≡ begun old →
    (HasCleanDisk (state g last) → ExecutesAllInside g 0 text begin last (Ok tt)) → Survives (state g begin) (state g last) (λ _. ⊥)
    → Survives (state g last) (state g new) (λ db. db ≡ (state g last).now.trees) →
    Survives (state g old) (state g new) (MayLeaveTables g text old)
may_leave_tables {S} g text old begin last new begins ran survives committed =
    survives_then (state g old) (state g last) (state g new) (λ _. ⊥) (λ db. db ≡ (state g last).now.trees) (MayLeaveTables g text old)
    (λ _ db none. absurd none)
    (λ clean db trees. (
      last,
      subst (λ (h : Held S). ExecutesAllInside g 0 text h last (Ok tt)) begins
          (ran (omega (arith, committed.clean))),
      trees,
    ))
    (survives_begin g old (state g last) (λ _. ⊥) (subst (λ (h : Held S). Survives (state g h) (state g last) (λ _. ⊥)) begins survives))
    committed

-- and of a database that needs these statements
pub may_prepare : {S : Type 0} (g : Ghosts S) (text : List ℕ) (old found new : Held S) →
    (HasCleanDisk (state g found) → Needs g old found text) → Survives (state g old) (state g found) (λ _. ⊥) →
    Survives (state g found) (state g new) (MayLeaveTables g text found)
    → Survives (state g old) (state g new) (MayPrepare g old)
may_prepare g text old found new needs first second =
    survives_then (state g old) (state g found) (state g new) (λ _. ⊥) (MayLeaveTables g text found) (MayPrepare g old)
    (λ _ db no. absurd no)
    (λ clean db may. (found, text, needs (omega (arith, second.clean)), may)) first second

-- the code has the statements that make the tables, and those that carry them over
tables_text : TABLES.now ≡ tables
unfolding digits
tables_text = refl

carry_over_text : CARRY_OVER.now ≡ carry_over
unfolding digits
carry_over_text = refl

-- a database that has no table needs the former
pub none_needs : {S : Type 0} (g : Ghosts S) (old found : Held S) → HasVersion g old found None → Needs g old found TABLES.now
none_needs g old found none = record { version = None; has = none; statements = tables_text }

-- and tables of the version before need the latter
pub before_needs : {S : Type 0} (g : Ghosts S) (old found : Held S) (number : ℤ) → HasVersion g old found (Some number)
    → number ≡ pos version_before → Needs g old found CARRY_OVER.now
before_needs g old found number has is = record { version = Some number; has = has; statements = (is, carry_over_text) }
