use Rattle.std.proofs.Common.{◌≡◌, drop}
use Rattle.dmr_records.specs.Ran.{Keeps, RanAll}
use Rattle.dmr_records.specs.Statements.{put_notes}
use Rattle.dmr_records.proofs.written.put_notes.Given as goal

abbrev pub invariant-loop-note : goal.invariant-loop-note
invariant-loop-note g l = record {
  same : l.tx.conn.ghost_name ≡ l.initial.tx.conn.ghost_name;
  keeps : Keeps g.S.Store l.initial.tx.conn.now l.tx.conn.now;
  all : (last : _) (r : _) → RanAll g.S.Store (put_notes l.term (drop l.note-index l.notes)) l.tx.conn.now last r →
      RanAll g.S.Store (put_notes l.term l.notes) l.initial.tx.conn.now last r;
}
