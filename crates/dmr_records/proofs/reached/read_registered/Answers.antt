use Rattle.dmr_records.specs.Reading.{AreNotRead}
use Rattle.dmr_records.specs.Tables.{MayPrepare}
use Rattle.dmr_records.proofs.ReachedLemmas.{not_done, read_back}
use Rattle.dmr_records.proofs.reached.read_registered.Goals as goal

pub returns-clause-read : goal.returns-clause-read
returns-clause-read g c = read_back g.S.Store g.D.Reach.opens g.D.Reach.refuses g.D.Reach.closes c.args.reach.now c.open.new.self
    c.close.new.self c.in_ok-conn.conn c.prepare_and_read-radios.new.conn c.in_ok-conn.ensures.opens c.close.ensures
    (λ radios. radios.items) c.prepare_and_read-radios.result c.prepare_and_read-radios.ensures.read c.prepare_and_read-radios.ensures.crash

pub returns-clause-not_read : goal.returns-clause-not_read
returns-clause-not_read g c = not_done g.S.Store g.D.Reach.opens g.D.Reach.refuses g.D.Reach.closes c.args.reach.now c.open.new.self
    c.close.new.self c.in_ok-conn.conn c.prepare_and_read-radios.new.conn c.in_ok-conn.ensures.opens c.close.ensures (AreNotRead g.S.Store)
    (MayPrepare g.S.Store) c.prepare_and_read-radios.result c.prepare_and_read-radios.ensures.not_read
    c.prepare_and_read-radios.ensures.crash
