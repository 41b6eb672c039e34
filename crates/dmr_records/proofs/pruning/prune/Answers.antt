use Rattle.std.proofs.Common.{◌≡◌, [], ◌∷◌, Err, rules}
use Rattle.dmr_records.specs.Statements.{mark_removed, prune_calls, prune_carriers, prune_events, prune_terms}
use Rattle.dmr_records.proofs.RanLemmas.{ran_short, ran_then}
use Rattle.dmr_records.proofs.pruning.prune.Goals as goal

pub returns-in_err-mark_removed-clause-ran : goal.returns-in_err-mark_removed-clause-ran
returns-in_err-mark_removed-clause-ran g c =
    let is : c.from_residual.result ≡ Err c.in_err-mark_removed.field-0.0 = search rules in
    rw is (ran_short g.S.Store (mark_removed c.args.most ∷ []) (prune_calls ∷ prune_events ∷ prune_terms ∷ prune_carriers ∷ []) _ _ _
    c.in_err-mark_removed.ensures.ran)

pub returns-in_err-run_alone-clause-ran : goal.returns-in_err-run_alone-clause-ran
returns-in_err-run_alone-clause-ran g c =
    let is : c.from_residual-in_err-run_alone.result ≡ Err c.in_err-run_alone.field-0.0 = search rules in
    rw is (ran_then g.S.Store (mark_removed c.args.most ∷ []) (prune_calls ∷ prune_events ∷ prune_terms ∷ prune_carriers ∷ []) _ _ _ _
    c.in_ok-mark_removed.ensures.ran
    (ran_short g.S.Store (prune_calls ∷ []) (prune_events ∷ prune_terms ∷ prune_carriers ∷ []) _ _ _ c.in_err-run_alone.ensures.ran))

pub returns-in_err-run_alone-2-clause-ran : goal.returns-in_err-run_alone-2-clause-ran
returns-in_err-run_alone-2-clause-ran g c =
    let is : c.from_residual-in_err-run_alone-2.result ≡ Err c.in_err-run_alone-2.field-0.0 = search rules in
    rw is (ran_then g.S.Store (mark_removed c.args.most ∷ []) (prune_calls ∷ prune_events ∷ prune_terms ∷ prune_carriers ∷ []) _ _ _ _
    c.in_ok-mark_removed.ensures.ran
    (ran_then g.S.Store (prune_calls ∷ []) (prune_events ∷ prune_terms ∷ prune_carriers ∷ []) _ _ _ _ c.in_ok-run_alone.ensures.ran
    (ran_short g.S.Store (prune_events ∷ []) (prune_terms ∷ prune_carriers ∷ []) _ _ _ c.in_err-run_alone-2.ensures.ran)))

pub returns-in_err-run_alone-3-clause-ran : goal.returns-in_err-run_alone-3-clause-ran
returns-in_err-run_alone-3-clause-ran g c =
    let is : c.from_residual-in_err-run_alone-3.result ≡ Err c.in_err-run_alone-3.field-0.0 = search rules in
    rw is (ran_then g.S.Store (mark_removed c.args.most ∷ []) (prune_calls ∷ prune_events ∷ prune_terms ∷ prune_carriers ∷ []) _ _ _ _
    c.in_ok-mark_removed.ensures.ran
    (ran_then g.S.Store (prune_calls ∷ []) (prune_events ∷ prune_terms ∷ prune_carriers ∷ []) _ _ _ _ c.in_ok-run_alone.ensures.ran
    (ran_then g.S.Store (prune_events ∷ []) (prune_terms ∷ prune_carriers ∷ []) _ _ _ _ c.in_ok-run_alone-2.ensures.ran
    (ran_short g.S.Store (prune_terms ∷ []) (prune_carriers ∷ []) _ _ _ c.in_err-run_alone-3.ensures.ran))))

pub returns-clause-ran : goal.returns-clause-ran
returns-clause-ran g c =
    ran_then g.S.Store (mark_removed c.args.most ∷ []) (prune_calls ∷ prune_events ∷ prune_terms ∷ prune_carriers ∷ []) _ _ _ _
    c.in_ok-mark_removed.ensures.ran
    (ran_then g.S.Store (prune_calls ∷ []) (prune_events ∷ prune_terms ∷ prune_carriers ∷ []) _ _ _ _ c.in_ok-run_alone.ensures.ran
    (ran_then g.S.Store (prune_events ∷ []) (prune_terms ∷ prune_carriers ∷ []) _ _ _ _ c.in_ok-run_alone-2.ensures.ran
    (ran_then g.S.Store (prune_terms ∷ []) (prune_carriers ∷ []) _ _ _ _ c.in_ok-run_alone-3.ensures.ran c.run_alone-4.ensures.ran)))
