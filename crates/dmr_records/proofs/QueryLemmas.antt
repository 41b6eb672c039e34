-- Queries in a transaction: they commit nothing, also if it is then rolled back.
use Rattle.std.proofs.Common.{◌≡◌, ◌⊎◌, inl, inr, ℕ, List, [], Option, None, Some, Result, Ok, Err, IfErr, IfOk, IsTrue, cond, arith, refl}
use Rattle.std.proofs.Common.{sym, ap, subst, ◌∙◌}
use Rattle.sqlite.specs.Store.{Ghosts}
use Rattle.sqlite.specs.Order.{Row}
use Rattle.sqlite.specs.declared.error.Error.{Error}
use Rattle.sqlite.specs.State.{State, HasCleanDisk, IsRolledBack, IsTooLate, IsUnchanged, KeepsCommit, QueriesRow, QueriesRowInside}
use Rattle.sqlite.specs.State.{FailsToQuery, IsNotRun, Shown, Survives}
use Rattle.sqlite.specs.Held.{Held, state}
use Rattle.dmr_records.specs.Ran.{begun, Looks}
use Rattle.dmr_records.specs.Tables.{HasCommitted}

none_or_some : {A : Type 0} (o : Option A) → (o ≡ None) ⊎ ((x : A) × (o ≡ Some x))
none_or_some None = inl refl
none_or_some (Some x) = inr (x, refl)

-- a query in a transaction commits nothing, and does not end it if it is answered
module _ (old new : State) (sql : List ℕ) where
  unchanged_keeps : IsUnchanged old new → KeepsCommit old new
  unchanged_keeps h = record { was_open = λ _. h.0.was_open; committed = λ _. h.0.committed_is }

  back_keeps : IsRolledBack old new → KeepsCommit old new
  back_keeps h = record { was_open = h.was_open; committed = λ opened. (h.undone opened).1 }

  shown_keeps : (params : Row) (rows : List Row) → IsTrue old.in_transaction → Shown sql params old new rows → KeepsCommit old new ×
      IsTrue new.in_transaction
  unfolding Shown
  shown_keeps params rows inside h = elim (none_or_some h.0.returning) [
    | inl none ↦ let it = rw none at h.2 in (unchanged_keeps it.3, it.3.0.mode ∙ inside)
    | inr (what, some) ↦ let it = rw some at h.2 in (
      record {
        was_open = λ _. it.1.shown.was_open;
        committed = λ _. it.1.shown.committed_is
            ∙ ap (λ b. cond b old.committed new.now) inside;
      },
      it.1.shown.mode ∙ inside,
    )
  ]

  fails_keeps : (params : Row) (e : Error) → FailsToQuery sql params old new e → KeepsCommit old new
  unfolding FailsToQuery IsNotRun
  fails_keeps params e (inl (inl h)) = unchanged_keeps h.1
  fails_keeps params e (inl (inr h)) = back_keeps h.3
  fails_keeps params e (inr h) = elim (none_or_some h.0.returning) [
    | inl none ↦ unchanged_keeps (rw none at h.2).3
    | inr (what, some) ↦ elim (rw some at h.2) [ inl it ↦ unchanged_keeps it.1 | inr it ↦ back_keeps it.3 ]
  ]

  pub row_inside : (params : Row) (row : Row) → IsTrue old.in_transaction → QueriesRowInside sql params old new (Ok row) →
      KeepsCommit old new × IsTrue new.in_transaction
  unfolding QueriesRow
  row_inside params row inside (inl h) = (unchanged_keeps h.1, h.1.0.mode ∙ inside)
  row_inside params row inside (inr (rows, h, first)) = shown_keeps params rows inside h

  pub query_keeps : (params : Row) (r : Result Row Error) → IsTrue old.in_transaction → QueriesRowInside sql params old new r →
      KeepsCommit old new
  unfolding QueriesRow
  query_keeps params (Ok row) inside h = (row_inside params row inside h).0
  query_keeps params (Err e) inside (inl (inl h)) = fails_keeps params e h
  query_keeps params (Err e) inside (inl (inr (is, h))) = (shown_keeps params [] inside h).0
  query_keeps params (Err e) inside (inr (c, is, some, ended, same, h)) = unchanged_keeps h

  pub all_keeps : {X : Type 0} (params : Row) (items : X → List Row) (r : Result X Error) → IsTrue old.in_transaction →
      IfOk r (λ x. Shown sql params old new (items x)) → IfErr r (λ e. FailsToQuery sql params old new e ⊎ IsTooLate sql params old new e) →
      KeepsCommit old new
  all_keeps params items (Ok x) inside shown failed = (shown_keeps params (items x) inside shown).0
  all_keeps params items (Err e) inside shown (inl h) = fails_keeps params e h
  all_keeps params items (Err e) inside shown (inr h) = unchanged_keeps h.5

-- one call after another
pub keeps_both : (a b c : State) → KeepsCommit a b → KeepsCommit b c → KeepsCommit a c
keeps_both a b c one two = record {
  was_open = λ opened. one.was_open (two.was_open opened);
  committed = λ opened. two.committed opened ∙ one.committed (two.was_open opened);
}

-- a transaction in which nothing was committed, and which was then rolled back
module _ {S : Type 0} (g : Ghosts S) (old begin last new : Held S) (begins : begin ≡ begun old) (looks : Looks g begin last)
    (undone : HasCleanDisk (state g new) → IsRolledBack (state g last) (state g new))
    (survives : Survives (state g last) (state g new) (λ _. ⊥)) where
  pub early : HasCleanDisk (state g new) → HasCleanDisk (state g last)
  early clean = omega (arith, survives.clean)

  pub kept : HasCleanDisk (state g new) → KeepsCommit (state g old) (state g last)
  kept clean = let it = looks.kept (early clean) (subst (λ (h : Held S). IsTrue h.in_transaction) (sym begins) refl) in
      let is : KeepsCommit (state g (begun old)) (state g last) =
      subst (λ (h : Held S). KeepsCommit (state g h) (state g last)) begins it in
      record { was_open = is.was_open; committed = is.committed }

  pub has_committed : HasCleanDisk (state g new) → IsTrue (state g new).is_open → HasCommitted g new (state g old).committed
  has_committed clean opened =
      let back = undone clean in
      let known = (kept clean).committed (back.was_open opened) in
      ((back.undone opened).0 ∙ known, (back.undone opened).1 ∙ known)

  pub has_kept : HasCleanDisk (state g new) → KeepsCommit (state g old) (state g new)
  has_kept clean =
      let back = undone clean in
      let first = kept clean in
      record {
        was_open = λ opened. first.was_open (back.was_open opened);
        committed = λ opened. (back.undone opened).1 ∙ first.committed (back.was_open opened);
      }
