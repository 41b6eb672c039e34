use Rattle.std.proofs.Common.{subst}
use Rattle.dmr_desk.specs.Audited.{IsAudited, IsUnreported}
use Rattle.dmr_desk.specs.Seats.{Opened}
use Rattle.dmr_desk.proofs.desk.SharedDesk.close.Goals as goal

pub returns-in-Ok-audit_report-clause-ok : goal.returns-in-Ok-audit_report-clause-ok
returns-in-Ok-audit_report-clause-ok g c =
    let P : Opened → Type 0 = λ desk. IsAudited desk c.args.seats.items c.in-Ok-audit_report.report in
    subst P c.self.view_is (c.in-Ok-audit_report.ensures.ok g.L.DeskLedger.desk c.args.seats.items c.in-Ok.ensures.kept)

pub returns-in-Ok-clause-fault : goal.returns-in-Ok-clause-fault
returns-in-Ok-clause-fault g c =
    let found = c.in-Err-audit_report.unreported in
    let P : Opened → Type 0 = λ desk. IsUnreported desk c.args.seats.items found.fault found.kept in
    (found.kept, subst P c.self.view_is (c.in-Err-audit_report.ensures.fault g.L.DeskLedger.desk c.args.seats.items c.in-Ok.ensures.kept))
