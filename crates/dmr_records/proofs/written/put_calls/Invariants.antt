use Rattle.std.proofs.Common.{◌≡◌, drop}
use Rattle.dmr_records.specs.Ran.{Keeps, RanAll}
use Rattle.dmr_records.specs.Statements.{put_calls}
use Rattle.dmr_records.proofs.written.put_calls.Given as goal

abbrev pub invariant-loop-call : goal.invariant-loop-call
invariant-loop-call g l = record {
  same : l.tx.conn.ghost_name ≡ l.initial.tx.conn.ghost_name;
  keeps : Keeps g.S.Store l.initial.tx.conn.now l.tx.conn.now;
  all : (last : _) (r : _) → RanAll g.S.Store (put_calls l.term (drop l.call-index l.calls)) l.tx.conn.now last r →
      RanAll g.S.Store (put_calls l.term l.calls) l.initial.tx.conn.now last r;
}
