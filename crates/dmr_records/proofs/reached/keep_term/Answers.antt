use Rattle.dmr_records.specs.Reached.{MayKeep}
use Rattle.dmr_records.specs.Written.{IsNotWritten}
use Rattle.dmr_records.proofs.ReachedLemmas.{kept, not_done}
use Rattle.dmr_records.proofs.reached.keep_term.Goals as goal

pub returns-clause-kept : goal.returns-clause-kept
returns-clause-kept g c = kept g.S.Store g.D.Reach.opens g.D.Reach.refuses g.D.Reach.closes c.args.reach.now c.open.new.self
    c.close.new.self c.in_ok-conn.conn c.prepare_and_write-written.new.conn c.in_ok-conn.ensures.opens c.close.ensures c.args.most
    c.args.term.now c.prepare_and_write-written.result c.prepare_and_write-written.ensures.written c.prepare_and_write-written.ensures.crash

pub returns-clause-not_kept : goal.returns-clause-not_kept
returns-clause-not_kept g c = not_done g.S.Store g.D.Reach.opens g.D.Reach.refuses g.D.Reach.closes c.args.reach.now c.open.new.self
    c.close.new.self c.in_ok-conn.conn c.prepare_and_write-written.new.conn c.in_ok-conn.ensures.opens c.close.ensures
    (IsNotWritten g.S.Store c.args.most c.args.term.now) (MayKeep g.S.Store c.args.most c.args.term.now) c.prepare_and_write-written.result
    c.prepare_and_write-written.ensures.not_written c.prepare_and_write-written.ensures.crash
