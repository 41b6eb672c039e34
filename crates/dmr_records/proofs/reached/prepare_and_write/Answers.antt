use Rattle.std.proofs.Common.{◌≡◌, Err, inl, inr, arith, rules}
use Rattle.dmr_records.specs.Written.{IsNotWritten}
use Rattle.dmr_records.proofs.ReachedLemmas.{fails_over, may_keep, writes_term}
use Rattle.dmr_records.proofs.reached.prepare_and_write.Goals as goal

pub returns-clause-written : goal.returns-clause-written
returns-clause-written g c =
    writes_term g.S.Store c.args.conn.now c.prepare_tables.new.conn c.write_term.new.conn c.in_ok-prepare_tables.ensures.prepared
    c.args.most c.args.term.now c.write_term.result (λ clean. omega (arith, c.write_term.ensures.crash.clean)) c.write_term.ensures.all

pub returns-clause-not_written : goal.returns-clause-not_written
returns-clause-not_written g c =
    fails_over g.S.Store c.args.conn.now c.prepare_tables.new.conn c.write_term.new.conn c.in_ok-prepare_tables.ensures.prepared
    (IsNotWritten g.S.Store c.args.most c.args.term.now) c.write_term.result
    (λ clean. omega (arith, c.write_term.ensures.crash.clean)) c.write_term.ensures.failed c.write_term.ensures.nothing

pub returns-clause-crash : goal.returns-clause-crash
returns-clause-crash g c = may_keep g.S.Store c.args.conn.now c.prepare_tables.new.conn c.write_term.new.conn
    c.in_ok-prepare_tables.ensures.prepared c.args.most c.args.term.now c.prepare_tables.ensures.crash c.write_term.ensures.crash

pub returns-in_err-prepare_tables-clause-not_written : goal.returns-in_err-prepare_tables-clause-not_written
returns-in_err-prepare_tables-clause-not_written g c clean =
    let is : c.from_residual.result ≡ Err c.in_err-prepare_tables.field-0.0 = search rules in
    rw is (inr (inl (c.in_err-prepare_tables.ensures.not_prepared clean, c.in_err-prepare_tables.ensures.nothing clean)))
