use Rattle.std.proofs.Common.{◌≡◌, Err, inl, inr, arith, rules}
use Rattle.dmr_records.specs.Reading.{AreNotRead}
use Rattle.dmr_records.proofs.ReachedLemmas.{fails_over, may_read, reads_radios}
use Rattle.dmr_records.proofs.ResultLemmas.{on_err}
use Rattle.dmr_records.proofs.reached.prepare_and_read.Goals as goal

pub returns-clause-read : goal.returns-clause-read
returns-clause-read g c =
    reads_radios g.S.Store c.args.conn.now c.prepare_tables.new.conn c.read_radios.new.conn c.in_ok-prepare_tables.ensures.prepared
    (λ radios. radios.items) c.read_radios.result (λ clean. omega (arith, c.read_radios.ensures.survives.clean))
    c.read_radios.ensures.read c.read_radios.ensures.nothing

pub returns-clause-not_read : goal.returns-clause-not_read
returns-clause-not_read g c =
    fails_over g.S.Store c.args.conn.now c.prepare_tables.new.conn c.read_radios.new.conn c.in_ok-prepare_tables.ensures.prepared
    (AreNotRead g.S.Store) c.read_radios.result (λ clean. omega (arith, c.read_radios.ensures.survives.clean))
    c.read_radios.ensures.not_read (λ clean. on_err c.read_radios.result (c.read_radios.ensures.nothing clean))

pub returns-clause-crash : goal.returns-clause-crash
returns-clause-crash g c = may_read g.S.Store c.args.conn.now c.prepare_tables.new.conn c.read_radios.new.conn
    c.in_ok-prepare_tables.ensures.prepared c.prepare_tables.ensures.crash c.read_radios.ensures.survives

pub returns-in_err-prepare_tables-clause-not_read : goal.returns-in_err-prepare_tables-clause-not_read
returns-in_err-prepare_tables-clause-not_read g c clean =
    let is : c.from_residual.result ≡ Err c.in_err-prepare_tables.field-0.0 = search rules in
    rw is (inr (inl (c.in_err-prepare_tables.ensures.not_prepared clean, c.in_err-prepare_tables.ensures.nothing clean)))
