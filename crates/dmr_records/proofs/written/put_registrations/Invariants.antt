use Rattle.std.proofs.Common.{◌≡◌, ◌+◌, drop}
use Rattle.dmr_records.specs.Ran.{Keeps, RanAll}
use Rattle.dmr_records.specs.Statements.{put_registrations}
use Rattle.dmr_records.proofs.written.put_registrations.Given as goal

abbrev pub invariant-loop-radio : goal.invariant-loop-radio
invariant-loop-radio g l = record {
  same : l.tx.conn.ghost_name ≡ l.initial.tx.conn.ghost_name;
  keeps : Keeps g.S.Store l.initial.tx.conn.now l.tx.conn.now;
  place : l.place ≡ l.radio-index + 1;
  all : (last : _) (r : _) → RanAll g.S.Store (put_registrations l.place (drop l.radio-index l.radios)) l.tx.conn.now last r →
      RanAll g.S.Store (put_registrations 1 l.radios) l.initial.tx.conn.now last r;
}
