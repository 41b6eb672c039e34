-- A transaction that writes the records of a term.
use Rattle.std.proofs.Common.{◌≡◌, ℕ, inl, inr, Result, Ok, IsTrue, refl, sym, subst, arith}
use Rattle.sqlite.specs.Store.{Ghosts}
use Rattle.sqlite.specs.State.{HasCleanDisk, Survives}
use Rattle.sqlite.specs.declared.error.Error.{Error}
use Rattle.sqlite.specs.Held.{Held, state}
use Rattle.sqlite.proofs.StateLemmas.{survives_then}
use Rattle.sqlite.proofs.Callers.{survives_begin}
use Rattle.dmr_keeper.specs.declared.time.TimedRecords.{TimedRecords}
use Rattle.dmr_records.specs.Ran.{begun, Keeps}
use Rattle.dmr_records.specs.Written.{later_statements, ExecutesTerm, RunsTerm, MayLeave}
use Rattle.dmr_records.proofs.RanLemmas.{clean_before, executed}

-- the statements that ran were executed, as far as the disk has returned what was written
pub executes : {S : Type 0} (g : Ghosts S) (most : ℕ) (term : TimedRecords) (old begin last : Held S) (r : Result (Unit {0}) Error) →
    begin ≡ begun old → RunsTerm g most term begin last r → HasCleanDisk (state g last) → ExecutesTerm g most term (begun old) last r
executes {S} g most term old begin last r begins runs clean = subst (λ (h : Held S). ExecutesTerm g most term h last r) begins (go runs)
  where
    inside : IsTrue (state g begin).in_transaction
    inside = subst (λ (h : Held S). IsTrue h.in_transaction) (sym begins) refl

    go : RunsTerm g most term begin last r → ExecutesTerm g most term begin last r
    go (inl (e, is, failed)) = inl (e, is, failed.fact clean inside)
    go (inr (first, ran, rest)) =
        let did = ran.fact (clean_before g (later_statements g most term first) first last r rest clean) inside in
        inr (first, did, executed g (later_statements g most term first) first last r rest clean did.1.1.mode)

-- what a crash may leave
pub may_leave : {S : Type 0} (g : Ghosts S) (most : ℕ) (term : TimedRecords) (old begin last end : Held S) → begin ≡ begun old →
    RunsTerm g most term begin last (Ok tt) → Keeps g begin last
    → Survives (state g last) (state g end) (λ db. db ≡ (state g last).now.trees) →
    Survives (state g old) (state g end) (MayLeave g most term old)
may_leave {S} g most term old begin last end begins runs keeps committed =
    survives_then (state g old) (state g last) (state g end) (λ _. ⊥) (λ db. db ≡ (state g last).now.trees) (MayLeave g most term old)
    (λ _ db none. absurd none)
    (λ clean db trees. (
      (state g last).now,
      record
          { last = last; executed = executes g most term old begin last (Ok tt) begins runs (omega (arith, committed.clean)); is = refl },
      trees,
    ))
    (survives_begin g old (state g last) (λ _. ⊥)
    (subst (λ (h : Held S). Survives (state g h) (state g last) (λ _. ⊥)) begins keeps.survives)) committed
