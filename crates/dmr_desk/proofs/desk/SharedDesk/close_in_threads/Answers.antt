use Rattle.std.proofs.Common.{subst}
use Rattle.std.proofs.lemmas.Result.{IfErr-weaker, IfOk-weaker}
use Rattle.dmr_desk.specs.Audited.{IsAudited, IsUnreported}
use Rattle.dmr_desk.specs.Seats.{Opened}
use Rattle.dmr_desk.proofs.desk.SharedDesk.close_in_threads.Goals as goal

pub returns-in-Ok-clause-ok : goal.returns-in-Ok-clause-ok
returns-in-Ok-clause-ok g c = IfOk-weaker c.audit_report.result _ _
    (λ report all.
    let P : Opened → Type 0 = λ desk. IsAudited desk c.args.seats.items report in
    subst P c.self.view_is (all g.L.DeskLedger.desk c.args.seats.items c.in-Ok.ensures.kept))
    c.audit_report.ensures.ok

pub returns-in-Ok-clause-fault : goal.returns-in-Ok-clause-fault
returns-in-Ok-clause-fault g c = IfErr-weaker c.audit_report.result _ _
    (λ found all.
    let P : Opened → Type 0 = λ desk. IsUnreported desk c.args.seats.items found.fault found.kept in
    subst P c.self.view_is (all g.L.DeskLedger.desk c.args.seats.items c.in-Ok.ensures.kept))
    c.audit_report.ensures.fault
