use Rattle.std.proofs.Common.{◌≡◌, ◌≢◌, pos, Err, inl, inr, arith, rules, to_z, of_z, w64}
use Rattle.dmr_records.specs.Tables.{FindsNoVersion}
use Rattle.dmr_records.proofs.ResultLemmas.{if_err}
use Rattle.dmr_records.proofs.tables.read_version.Goals as goal

pub returns-in_err-read_number-clause-not_found : goal.returns-in_err-read_number-clause-not_found
returns-in_err-read_number-clause-not_found g c clean =
    let is : c.from_residual.result ≡ Err c.in_err-read_number.field-0.0 = search rules in
    if_err _ _ (FindsNoVersion g.S.Store c.args.tx.now.conn.now c.read_number.new.tx.conn.now) is
    (inl (c.in_err-read_number.ensures.not_shown clean))

pub returns-in_err-read_number-2-clause-not_found : goal.returns-in_err-read_number-2-clause-not_found
returns-in_err-read_number-2-clause-not_found g c clean =
    let some : c.in_ok-read_number.field-0 ≢ pos 0 = search rules in
    let is : c.from_residual-in_err-read_number-2.result ≡ Err c.in_err-read_number-2.field-0.0 = search rules in
    if_err _ _ (FindsNoVersion g.S.Store c.args.tx.now.conn.now c.read_number-2.new.tx.conn.now) is
    (inr (
      c.read_number.new.tx.conn.now,
      _,
      some,
      c.in_ok-read_number.ensures.shown
          (omega (arith, c.read_number-2.ensures.looks.survives.clean)),
      c.in_err-read_number-2.ensures.not_shown clean,
    ))

pub returns-clause-found : goal.returns-clause-found
returns-clause-found g c clean =
    let some : c.in_ok-read_number.field-0 ≢ pos 0 = search rules in
    let version = c.in_ok-read_number-2.field-0 in
    let same : to_z w64 (of_z w64 version) ≡ version = search rules in
    let first = c.in_ok-read_number.ensures.shown (omega (arith, c.read_number-2.ensures.looks.survives.clean)) in
    (c.read_number.new.tx.conn.now, _, some, first, rw same (c.in_ok-read_number-2.ensures.shown clean))
