use Rattle.std.proofs.Common.{◌≡◌, Err, rules}
use Rattle.dmr_records.specs.Statements.{put_registrations}
use Rattle.dmr_records.proofs.RanLemmas.{ran_short, ran_then}
use Rattle.dmr_records.proofs.written.put_radios.Goals as goal

pub returns-clause-ran : goal.returns-clause-ran
returns-clause-ran g c =
    ran_then g.S.Store (put_registrations 1 c.args.radios.now) _ _ _ _ _ c.in_ok-put_registrations.ensures.ran
    c.cut_registrations.ensures.ran

pub returns-in_err-put_registrations-clause-ran : goal.returns-in_err-put_registrations-clause-ran
returns-in_err-put_registrations-clause-ran g c =
    let is : c.from_residual.result ≡ Err c.in_err-put_registrations.field-0.0 = search rules in
    rw is (ran_short g.S.Store (put_registrations 1 c.args.radios.now) _ _ _ _ c.in_err-put_registrations.ensures.ran)
