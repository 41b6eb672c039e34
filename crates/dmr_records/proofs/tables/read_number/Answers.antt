use Rattle.std.proofs.Common.{[]}
use Rattle.sqlite.specs.Held.{state}
use Rattle.dmr_records.proofs.ResultLemmas.{on_ok}
use Rattle.dmr_records.proofs.QueryLemmas.{query_keeps, row_inside}
use Rattle.dmr_records.proofs.tables.read_number.Goals as goal

pub returns-in_err-query_row-clause-looks : goal.returns-in_err-query_row-clause-looks
returns-in_err-query_row-clause-looks g c = record {
  kept = λ clean inside. query_keeps (state g.S.Store c.args.tx.now.conn.now)
      (state g.S.Store c.query_row.new.self.conn.now) c.args.query.now [] c.query_row.result inside (c.query_row.ensures.row clean);
  survives = c.query_row.ensures.survives;
}

pub returns-clause-looks : goal.returns-clause-looks
returns-clause-looks g c = record {
  kept = λ clean inside. query_keeps (state g.S.Store c.args.tx.now.conn.now)
      (state g.S.Store c.query_row.new.self.conn.now) c.args.query.now [] c.query_row.result inside (c.query_row.ensures.row clean);
  survives = c.query_row.ensures.survives;
}

pub returns-clause-inside : goal.returns-clause-inside
returns-clause-inside g c clean inside =
    on_ok c.get-2.result (row_inside (state g.S.Store c.args.tx.now.conn.now)
    (state g.S.Store c.query_row.new.self.conn.now) c.args.query.now [] _ inside (c.in_ok-query_row.ensures.row clean)).1
