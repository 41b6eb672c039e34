-- A database that is opened for a call, and closed after it.
use Rattle.std.proofs.Common.{◌⊎◌, inl, inr, ℕ, List, Result, Ok, Err, IfErr, IfOk, OnErr, OnOk, refl, arith}
use Rattle.sqlite.specs.Store.{Ghosts}
use Rattle.sqlite.specs.State.{HasCleanDisk, KeepsCommit, State, Survives}
use Rattle.sqlite.specs.Held.{Held, state}
use Rattle.sqlite.specs.Tree.{Trees}
use Rattle.sqlite.proofs.StateLemmas.{survives_then}
use Rattle.dmr_keeper.specs.declared.time.TimedRecords.{TimedRecords}
use Rattle.dmr_records.specs.declared.fault.FileFault.{FileFault}
use Rattle.dmr_records.specs.Reached.{AreReadBack, FailsOver, IsKept, IsUsed, MayKeep, ReadsRadios, WritesTerm}
use Rattle.dmr_records.specs.Reading.{AreRead}
use Rattle.dmr_records.specs.Tables.{ArePrepared, MayPrepare}
use Rattle.dmr_records.specs.Written.{HoldsTerm, MayLeave}

module _ {S D A : Type 0} (g : Ghosts S) (opens : D → Held S → D → Type 0) (refuses : D → FileFault → D → Type 0)
    (closes : D → Held S → D → Type 0) (before at after : D) (opened last : Held S) (opens_it : opens before opened at)
    (closes_it : closes at last after) where
  -- the records were written
  pub kept : (most : ℕ) (term : TimedRecords) (r : Result A FileFault) →
      (HasCleanDisk (state g last) → OnOk r (WritesTerm g most term opened last)) →
      Survives (state g opened) (state g last) (MayKeep g most term opened) → OnOk r (IsKept g opens closes most term before after)
  kept most term (Ok done) written crash = record
      { opened = opened; at = at; opens_it = opens_it; last = last; used = written; crash = crash; closes_it = closes_it }
  kept most term (Err fault) written crash = tt

  -- the radios were read
  pub read_back : (items : A → List ℕ) (r : Result A FileFault) →
      (HasCleanDisk (state g last) → IfOk r (λ radios. ReadsRadios g (items radios) opened last)) →
      Survives (state g opened) (state g last) (MayPrepare g opened) → IfOk r
      (λ radios. AreReadBack g opens closes (items radios) before after)
  read_back items (Ok radios) read crash = record
      { opened = opened; at = at; opens_it = opens_it; last = last; used = read; crash = crash; closes_it = closes_it }
  read_back items (Err fault) read crash = tt

  -- nothing was done
  pub not_done : (Fails : Held S → Held S → FileFault → Type 0) (Leaves : Held S → Trees → Type 0) (r : Result A FileFault) →
      (HasCleanDisk (state g last) → IfErr r (FailsOver g Fails opened last)) → Survives (state g opened) (state g last) (Leaves opened)
      → IfErr r (λ fault. refuses before fault after ⊎ IsUsed g opens closes
      (λ old new. FailsOver g Fails old new fault) Leaves before after)
  not_done Fails Leaves (Ok done) failed crash = tt
  not_done Fails Leaves (Err fault) failed crash =
      inr (record { opened = opened; at = at; opens_it = opens_it; last = last; used = failed; crash = crash; closes_it = closes_it })

-- nothing happened
pub survives_itself : (s : State) (Commits : Trees → Type 0) → Survives s s Commits
survives_itself s Commits = record {
  clean = omega arith;
  shield = λ shield. shield;
  counts = omega arith;
  limit = refl;
  closes = λ clean live. inl live;
  crash = λ clean db may. inl may;
}

-- what was done after the tables were prepared
module _ {S : Type 0} (g : Ghosts S) (old ready new : Held S) (prepared : HasCleanDisk (state g ready) → ArePrepared g old ready) where
  pub writes_term : {A : Type 0} (most : ℕ) (term : TimedRecords) (r : Result A FileFault) →
      (HasCleanDisk (state g new) → HasCleanDisk (state g ready)) →
      (HasCleanDisk (state g new) → OnOk r (HoldsTerm g most term ready (state g new).committed)) → HasCleanDisk (state g new) →
      OnOk r (WritesTerm g most term old new)
  writes_term most term (Ok done) early holds clean = (ready, prepared (early clean), holds clean)
  writes_term most term (Err fault) early holds clean = tt

  pub reads_radios : {A : Type 0} (items : A → List ℕ) (r : Result A FileFault) →
      (HasCleanDisk (state g new) → HasCleanDisk (state g ready)) →
      (HasCleanDisk (state g new) → IfOk r (λ radios. AreRead g ready new (items radios))) →
      (HasCleanDisk (state g new) → KeepsCommit (state g ready) (state g new)) → HasCleanDisk (state g new)
      → IfOk r (λ radios. ReadsRadios g (items radios) old new)
  reads_radios items (Ok radios) early read keeps clean = (ready, prepared (early clean), read clean, keeps clean)
  reads_radios items (Err fault) early read keeps clean = tt

  pub fails_over : {A : Type 0} (Fails : Held S → Held S → FileFault → Type 0) (r : Result A FileFault) →
      (HasCleanDisk (state g new) → HasCleanDisk (state g ready)) → (HasCleanDisk (state g new) → IfErr r (Fails ready new)) →
      (HasCleanDisk (state g new) → OnErr r (KeepsCommit (state g ready) (state g new))) → HasCleanDisk (state g new)
      → IfErr r (FailsOver g Fails old new)
  fails_over Fails (Ok done) early failed keeps clean = tt
  fails_over Fails (Err fault) early failed keeps clean = inr (inr (ready, prepared (early clean), failed clean, keeps clean))

  pub may_keep : (most : ℕ) (term : TimedRecords) → Survives (state g old) (state g ready) (MayPrepare g old) →
      Survives (state g ready) (state g new) (MayLeave g most term ready) → Survives (state g old) (state g new) (MayKeep g most term old)
  may_keep most term first second =
      survives_then (state g old) (state g ready) (state g new) (MayPrepare g old) (MayLeave g most term ready) (MayKeep g most term old)
      (λ _ db may. inl may) (λ clean db may. inr (ready, prepared (omega (arith, second.clean)), may)) first second

  pub may_read : Survives (state g old) (state g ready) (MayPrepare g old) → Survives (state g ready) (state g new) (λ _. ⊥) →
      Survives (state g old) (state g new) (MayPrepare g old)
  may_read first second =
      survives_then (state g old) (state g ready) (state g new) (MayPrepare g old) (λ _. ⊥) (MayPrepare g old) (λ _ db may. may)
      (λ _ db none. absurd none) first second
