use Rattle.std.proofs.Common.{◌≡◌, drop}
use Rattle.dmr_records.specs.Ran.{Keeps, RanAll}
use Rattle.dmr_records.specs.Statements.{put_carriers}
use Rattle.dmr_records.proofs.written.put_carriers.Given as goal

abbrev pub invariant-loop-counts : goal.invariant-loop-counts
invariant-loop-counts g l = record {
  same : l.tx.conn.ghost_name ≡ l.initial.tx.conn.ghost_name;
  keeps : Keeps g.S.Store l.initial.tx.conn.now l.tx.conn.now;
  all : (last : _) (r : _) → RanAll g.S.Store (put_carriers l.term (drop l.counts-index l.carriers)) l.tx.conn.now last r →
      RanAll g.S.Store (put_carriers l.term l.carriers) l.initial.tx.conn.now last r;
}
