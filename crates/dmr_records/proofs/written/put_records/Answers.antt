use Rattle.std.proofs.Common.{◌≡◌, inl, inr, refl, Err, rules}
use Rattle.dmr_records.specs.Written.{first_statement}
use Rattle.dmr_records.proofs.RanLemmas.{one_err, one_ok}
use Rattle.dmr_records.proofs.written.put_records.Goals as goal

pub returns-in_err-put_term-clause-ran : goal.returns-in_err-put_term-clause-ran
returns-in_err-put_term-clause-ran g c =
    let is : c.from_residual.result ≡ Err c.in_err-put_term.field-0.0 = search rules in
    rw is (inl (_, refl, one_err g.S.Store (first_statement c.args.term.now) _ _ _ (rw c.ticks.ensures at c.in_err-put_term.ensures.ran)))

pub returns-clause-ran : goal.returns-clause-ran
returns-clause-ran g c =
    inr (
      c.put_term.new.tx.conn.now,
      one_ok g.S.Store (first_statement c.args.term.now) _ _
          (rw c.ticks.ensures at c.in_ok-put_term.ensures.ran),
      rw (c.new-row.ensures, c.newest_row.ensures) at c.put_rest.ensures.ran,
    )
