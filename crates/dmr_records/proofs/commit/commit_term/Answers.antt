use Rattle.std.proofs.Common.{◌≡◌, inl, inr, Ok, Err, arith, rules}
use Rattle.sqlite.specs.State.{HasCleanDisk}
use Rattle.sqlite.specs.Steps.{FailsToCommit}
use Rattle.sqlite.specs.Held.{state}
use Rattle.dmr_records.specs.Written.{FailsToWrite}
use Rattle.dmr_records.proofs.ResultLemmas.{err_then, if_err, ok_then}
use Rattle.dmr_records.proofs.CommitLemmas.{executes, may_leave}
use Rattle.dmr_records.proofs.commit.commit_term.Goals as goal

pub returns-clause-all : goal.returns-clause-all
returns-clause-all g c clean =
    let last = c.put_records.new.tx.conn.now in
    let end = c.commit.new.self.0 in
    let same : end ≡ c.conn-2-1.given.0 = search rules in
    let late : HasCleanDisk (state g.S.Store end) = rw (← same) at clean in
    let done = executes g.S.Store c.args.most c.args.term.now c.args.conn.now c.transaction-tx.result.conn.now last
    (Ok tt) c.transaction-tx.ensures.begun c.in_ok-put_records.ensures.ran (omega (arith, c.commit.ensures.survives.clean)) in
    rw (← same) (ok_then c.commit.result (λ committed. record { last = last; executed = done; is = committed.1.committed_is })
    (c.commit.ensures.ok late))

pub returns-clause-failed : goal.returns-clause-failed
returns-clause-failed g c clean =
    let last = c.put_records.new.tx.conn.now in
    let end = c.commit.new.self.0 in
    let same : end ≡ c.conn-2-1.given.0 = search rules in
    let late : HasCleanDisk (state g.S.Store end) = rw (← same) at clean in
    let done = executes g.S.Store c.args.most c.args.term.now c.args.conn.now c.transaction-tx.result.conn.now last
    (Ok tt) c.transaction-tx.ensures.begun c.in_ok-put_records.ensures.ran (omega (arith, c.commit.ensures.survives.clean)) in
    rw (← same) (err_then c.commit.result (FailsToCommit (state g.S.Store last) (state g.S.Store end))
    (FailsToWrite g.S.Store c.args.most c.args.term.now c.args.conn.now end) (λ e failed. (last, inr (done, failed)))
    (c.commit.ensures.err late))

pub returns-in_err-put_records-clause-failed : goal.returns-in_err-put_records-clause-failed
returns-in_err-put_records-clause-failed g c clean =
    let last = c.put_records.new.tx.conn.now in
    let end = c.drop-tx.new.self.0 in
    let same : end ≡ c.conn-1.given.0 = search rules in
    let is : c.from_residual.result ≡ Err c.in_err-put_records.field-0.0 = search rules in
    let late : HasCleanDisk (state g.S.Store end) = rw (← same) at clean in
    let done = executes g.S.Store c.args.most c.args.term.now c.args.conn.now c.transaction-tx.result.conn.now last
    (Err c.in_err-put_records.field-0.0) c.transaction-tx.ensures.begun c.in_err-put_records.ensures.ran
    (omega (arith, c.drop-tx.ensures.survives.clean)) in
    rw (← same) (if_err _ _ (FailsToWrite g.S.Store c.args.most c.args.term.now c.args.conn.now end) is
    (last, inl (done, record { undone = c.drop-tx.ensures.undone late; survives = c.drop-tx.ensures.survives })))

pub returns-clause-crash : goal.returns-clause-crash
returns-clause-crash g c =
    let last = c.put_records.new.tx.conn.now in
    let end = c.commit.new.self.0 in
    let same : end ≡ c.conn-2-1.given.0 = search rules in
    rw (← same) (may_leave g.S.Store c.args.most c.args.term.now c.args.conn.now c.transaction-tx.result.conn.now last end
    c.transaction-tx.ensures.begun c.in_ok-put_records.ensures.ran c.put_records.ensures.keeps c.commit.ensures.survives)
