use Rattle.std.proofs.Common.{◌≡◌, inl, inr, Ok, Err, arith, rules, subst}
use Rattle.sqlite.specs.Batch.{ExecutesAllInside}
use Rattle.sqlite.specs.State.{HasCleanDisk}
use Rattle.sqlite.specs.Steps.{FailsToCommit}
use Rattle.sqlite.specs.Held.{state}
use Rattle.dmr_records.specs.Tables.{FailsToMake, LeadTo}
use Rattle.dmr_records.proofs.ResultLemmas.{err_then, if_err, ok_then}
use Rattle.dmr_records.proofs.TablesLemmas.{may_leave_tables}
use Rattle.dmr_records.proofs.tables.commit_batch.Goals as goal

pub returns-in_err-execute_batch-clause-not_made : goal.returns-in_err-execute_batch-clause-not_made
returns-in_err-execute_batch-clause-not_made g c clean =
    let last = c.execute_batch.new.self.conn.now in
    let end = c.drop-tx.new.self.0 in
    let same : end ≡ c.conn-1.given.0 = search rules in
    let is : c.from_residual.result ≡ Err c.in_err-execute_batch.field-0.0 = search rules in
    let late : HasCleanDisk (state g.S.Store end) = rw (← same) at clean in
    let ran = c.in_err-execute_batch.ensures.ran (omega (arith, c.drop-tx.ensures.survives.clean)) in
    rw (← same) (if_err _ _ (FailsToMake g.S.Store c.args.text.now c.args.conn.now end) is (
      last,
      inl (
        subst (λ h. ExecutesAllInside g.S.Store 0 c.args.text.now h last (Err c.in_err-execute_batch.field-0.0))
            c.transaction-tx.ensures.begun ran,
        record { undone = c.drop-tx.ensures.undone late; survives = c.drop-tx.ensures.survives },
      ),
    ))

pub returns-clause-made : goal.returns-clause-made
returns-clause-made g c clean =
    let last = c.execute_batch.new.self.conn.now in
    let end = c.commit.new.self.0 in
    let same : end ≡ c.conn-2-1.given.0 = search rules in
    let late : HasCleanDisk (state g.S.Store end) = rw (← same) at clean in
    let ran = c.in_ok-execute_batch.ensures.ran (omega (arith, c.commit.ensures.survives.clean)) in
    rw (← same) (ok_then c.commit.result
    (λ done. (
      last,
      subst (λ h. ExecutesAllInside g.S.Store 0 c.args.text.now h last (Ok tt)) c.transaction-tx.ensures.begun ran,
      (done.1.now_is, done.1.committed_is),
    )) (c.commit.ensures.ok late))

pub returns-clause-not_made : goal.returns-clause-not_made
returns-clause-not_made g c clean =
    let last = c.execute_batch.new.self.conn.now in
    let end = c.commit.new.self.0 in
    let same : end ≡ c.conn-2-1.given.0 = search rules in
    let late : HasCleanDisk (state g.S.Store end) = rw (← same) at clean in
    let ran = c.in_ok-execute_batch.ensures.ran (omega (arith, c.commit.ensures.survives.clean)) in
    let leads : LeadTo g.S.Store c.args.text.now c.args.conn.now last =
    subst (λ h. ExecutesAllInside g.S.Store 0 c.args.text.now h last (Ok tt)) c.transaction-tx.ensures.begun ran in
    rw (← same) (err_then c.commit.result (FailsToCommit (state g.S.Store last) (state g.S.Store end))
    (FailsToMake g.S.Store c.args.text.now c.args.conn.now end) (λ e failed. (last, inr (leads, failed))) (c.commit.ensures.err late))

pub returns-clause-crash : goal.returns-clause-crash
returns-clause-crash g c =
    let last = c.execute_batch.new.self.conn.now in
    let end = c.commit.new.self.0 in
    let same : end ≡ c.conn-2-1.given.0 = search rules in
    rw (← same) (may_leave_tables g.S.Store c.args.text.now c.args.conn.now c.transaction-tx.result.conn.now last end
    c.transaction-tx.ensures.begun c.in_ok-execute_batch.ensures.ran c.execute_batch.ensures.survives c.commit.ensures.survives)
