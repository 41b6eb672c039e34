-- The radios, as a transaction reads them that is then rolled back.
use Rattle.std.proofs.Common.{◌≡◌, ◌⊎◌, inl, inr, ℕ, List, [], Result, Ok, Err, IfErr, IfOk, ap, subst}
use Rattle.sqlite.specs.Store.{Ghosts}
use Rattle.sqlite.specs.Order.{Row}
use Rattle.sqlite.specs.declared.error.Error.{Error}
use Rattle.sqlite.specs.State.{FailsToQuery, HasCleanDisk, IsRolledBack, IsTooLate, Shown, Survives}
use Rattle.sqlite.specs.Held.{Held, state}
use Rattle.dmr_records.specs.declared.fault.FileFault.{FileFault}
use Rattle.dmr_records.specs.Ran.{begun, Looks}
use Rattle.dmr_records.specs.Reading.{select_radios, AreNoRadios, AreNotRead, AreRead, AreShown, FailsToShow, ShowRadios}
use Rattle.dmr_records.proofs.QueryLemmas.{all_keeps, early}

module _ {S X : Type 0} (g : Ghosts S) (old begin last new : Held S) (begins : begin ≡ begun old) (items : X → List Row)
    (r : Result X Error)
    (shown : HasCleanDisk (state g last) → IfOk r (λ x. Shown select_radios [] (state g begin) (state g last) (items x)))
    (failed : HasCleanDisk (state g last) → IfErr r
    (λ e. FailsToQuery select_radios [] (state g begin) (state g last) e ⊎ IsTooLate select_radios [] (state g begin) (state g last) e))
    (survives : Survives (state g begin) (state g last) (λ _. ⊥)) where
  pub looks : Looks g begin last
  looks = record {
    kept = λ clean inside. all_keeps (state g begin) (state g last) select_radios [] items r inside (shown clean)
        (failed clean);
    survives = survives;
  }

  module _ (undone : HasCleanDisk (state g new) → IsRolledBack (state g last) (state g new))
      (ends : Survives (state g last) (state g new) (λ _. ⊥)) where
    pub are_shown : (q : Result X Error) →
        (HasCleanDisk (state g last) → IfOk q (λ x. Shown select_radios [] (state g begin) (state g last) (items x))) →
        HasCleanDisk (state g new) → IfOk q (λ x. AreShown g old new (items x))
    are_shown (Ok x) it clean = (
      last,
      subst (λ (h : Held S). Shown select_radios [] (state g h) (state g last) (items x)) begins
          (it (early g old begin last new begins looks undone ends clean)),
      record { undone = undone clean; survives = ends },
    )
    are_shown (Err e) it clean = tt

    pub fails_to_show : (q : Result X Error) →
        (HasCleanDisk (state g last) → IfErr q
        (λ e. FailsToQuery select_radios [] (state g begin) (state g last) e ⊎ IsTooLate select_radios [] (state g begin) (state g last) e))
        → HasCleanDisk (state g new) → IfErr q (FailsToShow g old new)
    fails_to_show (Ok x) it clean = tt
    fails_to_show (Err e) it clean = elim (it (early g old begin last new begins looks undone ends clean)) [
      | inl fails ↦ (
        last,
        subst (λ (h : Held S). FailsToQuery select_radios [] (state g h) (state g last) e) begins fails,
        record { undone = undone clean; survives = ends },
      )
      | inr late ↦ absurd (let inside = ap (λ (h : Held S). h.in_transaction) begins in let ended = late.3 in cc)
    ]

-- the radios of the rows
pub are_read : {S X : Type 0} (g : Ghosts S) (old new : Held S) (rows : List Row) (items : X → List ℕ) (r : Result X FileFault) →
    AreShown g old new rows → IfOk r (λ radios. ShowRadios rows (items radios)) → IfOk r (λ radios. AreRead g old new (items radios))
are_read g old new rows items (Ok radios) shown columns = record { rows = rows; shown = shown; columns = columns }
are_read g old new rows items (Err fault) shown columns = tt

pub are_not_read : {S X : Type 0} (g : Ghosts S) (old new : Held S) (rows : List Row) (r : Result X FileFault) → AreShown g old new rows →
    IfErr r (AreNoRadios rows) → IfErr r (AreNotRead g old new)
are_not_read g old new rows (Ok radios) shown none = tt
are_not_read g old new rows (Err fault) shown none = inr (inr (rows, shown, none))
