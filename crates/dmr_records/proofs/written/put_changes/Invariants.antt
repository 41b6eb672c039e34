use Rattle.std.proofs.Common.{◌≡◌, drop}
use Rattle.dmr_records.specs.Ran.{Keeps, RanAll}
use Rattle.dmr_records.specs.Statements.{put_changes}
use Rattle.dmr_records.proofs.written.put_changes.Given as goal

abbrev pub invariant-loop-change : goal.invariant-loop-change
invariant-loop-change g l = record {
  same : l.tx.conn.ghost_name ≡ l.initial.tx.conn.ghost_name;
  keeps : Keeps g.S.Store l.initial.tx.conn.now l.tx.conn.now;
  all : (last : _) (r : _) → RanAll g.S.Store (put_changes l.term (drop l.change-index l.changes)) l.tx.conn.now last r →
      RanAll g.S.Store (put_changes l.term l.changes) l.initial.tx.conn.now last r;
}
