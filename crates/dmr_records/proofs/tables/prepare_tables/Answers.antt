use Rattle.std.proofs.Common.{◌≡◌, pos, inl, inr, arith, rules}
use Rattle.dmr_records.specs.Statements.{version_before}
use Rattle.dmr_records.specs.declared.rows.TheConstants.{CARRY_OVER, TABLES}
use Rattle.dmr_records.proofs.TablesLemmas.{before_needs, may_prepare, none_needs}
use Rattle.dmr_records.proofs.tables.prepare_tables.Goals as goal

pub returns-in-Ok-clause-prepared : goal.returns-in-Ok-clause-prepared
returns-in-Ok-clause-prepared g c clean =
    let none = rw c.in-Ok-None.field-0-is at c.in-Ok-None.ensures.found (omega (arith, c.commit_batch.ensures.crash.clean)) in
    inr (c.find_version.new.conn, TABLES.now, none_needs g.S.Store _ _ none, c.in-Ok.ensures.made clean)

pub returns-in-Ok-clause-crash : goal.returns-in-Ok-clause-crash
returns-in-Ok-clause-crash g c =
    may_prepare g.S.Store TABLES.now c.args.conn.now c.find_version.new.conn c.commit_batch.new.conn
    (λ clean. none_needs g.S.Store _ _ (rw c.in-Ok-None.field-0-is at c.in-Ok-None.ensures.found clean))
    c.find_version.ensures.survives c.commit_batch.ensures.crash

pub returns-in-Err-commit_batch-clause-not_prepared : goal.returns-in-Err-commit_batch-clause-not_prepared
returns-in-Err-commit_batch-clause-not_prepared g c clean =
    let none = rw c.in-Ok-None.field-0-is at c.in-Ok-None.ensures.found (omega (arith, c.commit_batch.ensures.crash.clean)) in
    let made = c.in-Err-commit_batch.ensures.not_made clean in
    inl (_, inr (c.find_version.new.conn, TABLES.now, none_needs g.S.Store _ _ none, made), c.fault_of.ensures)

pub returns-in-Err-commit_batch-clause-crash : goal.returns-in-Err-commit_batch-clause-crash
returns-in-Err-commit_batch-clause-crash g c =
    may_prepare g.S.Store TABLES.now c.args.conn.now c.find_version.new.conn c.commit_batch.new.conn
    (λ clean. none_needs g.S.Store _ _ (rw c.in-Ok-None.field-0-is at c.in-Ok-None.ensures.found clean))
    c.find_version.ensures.survives c.commit_batch.ensures.crash

pub returns-in-Ok-commit_batch-clause-prepared : goal.returns-in-Ok-commit_batch-clause-prepared
returns-in-Ok-commit_batch-clause-prepared g c clean =
    let crash = c.commit_batch-then-found-eq-VERSION_BEFORE.ensures.crash in
    let is : c.in-Ok-Some.found ≡ pos version_before = search rules in
    let has = rw c.in-Ok-Some.field-0-is at c.in-Ok-Some.ensures.found (omega (arith, crash.clean)) in
    let made = c.in-Ok-commit_batch.ensures.made clean in
    inr (c.find_version.new.conn, CARRY_OVER.now, before_needs g.S.Store _ _ c.in-Ok-Some.found has is, made)

pub returns-in-Ok-commit_batch-clause-crash : goal.returns-in-Ok-commit_batch-clause-crash
returns-in-Ok-commit_batch-clause-crash g c =
    let batch = c.commit_batch-then-found-eq-VERSION_BEFORE in
    let is : c.in-Ok-Some.found ≡ pos version_before = search rules in
    may_prepare g.S.Store CARRY_OVER.now c.args.conn.now c.find_version.new.conn batch.new.conn
    (λ clean. before_needs g.S.Store _ _ c.in-Ok-Some.found (rw c.in-Ok-Some.field-0-is at c.in-Ok-Some.ensures.found clean) is)
    c.find_version.ensures.survives batch.ensures.crash

pub returns-in-Err-commit_batch-2-clause-not_prepared : goal.returns-in-Err-commit_batch-2-clause-not_prepared
returns-in-Err-commit_batch-2-clause-not_prepared g c clean =
    let crash = c.commit_batch-then-found-eq-VERSION_BEFORE.ensures.crash in
    let is : c.in-Ok-Some.found ≡ pos version_before = search rules in
    let has = rw c.in-Ok-Some.field-0-is at c.in-Ok-Some.ensures.found (omega (arith, crash.clean)) in
    let needs = before_needs g.S.Store _ _ c.in-Ok-Some.found has is in
    let made = c.in-Err-commit_batch-2.ensures.not_made clean in
    inl (_, inr (c.find_version.new.conn, CARRY_OVER.now, needs, made), c.fault_of-in-Err-commit_batch-2.ensures)

pub returns-in-Err-commit_batch-2-clause-crash : goal.returns-in-Err-commit_batch-2-clause-crash
returns-in-Err-commit_batch-2-clause-crash g c =
    let batch = c.commit_batch-then-found-eq-VERSION_BEFORE in
    let is : c.in-Ok-Some.found ≡ pos version_before = search rules in
    may_prepare g.S.Store CARRY_OVER.now c.args.conn.now c.find_version.new.conn batch.new.conn
    (λ clean. before_needs g.S.Store _ _ c.in-Ok-Some.found (rw c.in-Ok-Some.field-0-is at c.in-Ok-Some.ensures.found clean) is)
    c.find_version.ensures.survives batch.ensures.crash
