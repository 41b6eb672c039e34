use Rattle.sqlite.specs.Values.{bound}
use Rattle.dmr_records.proofs.RanLemmas.{keeps_run, ran_err, ran_ok}
use Rattle.dmr_records.proofs.rows.run.Goals as goal

pub returns-in-Err-clause-keeps : goal.returns-in-Err-clause-keeps
returns-in-Err-clause-keeps g c =
    keeps_run g.S.Store c.args.text.now (bound c.args.params.now) c.args.tx.now.conn.now c.execute.new.self.conn.now c.execute.result
    c.execute.ensures.ended c.execute.ensures.runs c.execute.ensures.survives

pub returns-in-Ok-clause-ran : goal.returns-in-Ok-clause-ran
returns-in-Ok-clause-ran g c = ran_ok g.S.Store (record { text = c.args.text.now; params = bound c.args.params.now }) _ _ _
    c.in-Ok.ensures.runs c.execute.ensures.survives

pub returns-in-Err-clause-ran : goal.returns-in-Err-clause-ran
returns-in-Err-clause-ran g c = ran_err g.S.Store (record { text = c.args.text.now; params = bound c.args.params.now }) _ _ _
    c.in-Err.ensures.runs c.execute.ensures.survives
