use Rattle.std.proofs.Common.{ℕ, Option, subst}
use Rattle.dmr_desk.specs.Audited.{IsLeastDiffering}
use Rattle.dmr_desk.proofs.ViewLemmas.{least_of_all, same_for_all}
use Rattle.dmr_desk.proofs.audit.audit_report.Goals as goal

pub returns-in-None-clause-ok : goal.returns-in-None-clause-ok
returns-in-None-clause-ok c = λ desk seats is.
    let P : Option ℕ → Type 0 = IsLeastDiffering c.args.kept in
    record { kept = is; same = same_for_all c.args.kept.views.items c.args.kept.journal (subst P c.in-None.is c.requires) }

pub returns-in-Some-clause-fault : goal.returns-in-Some-clause-fault
returns-in-Some-clause-fault c = λ desk seats is.
    let P : Option ℕ → Type 0 = IsLeastDiffering c.args.kept in
    (is, least_of_all c.args.kept.views.items c.args.kept.journal c.in-Some.actor (subst P c.in-Some.is c.requires))
