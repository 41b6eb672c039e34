use Rattle.dmr_link.proofs.StepsFollow.{happens_none, happens_more}
use Rattle.dmr_link.proofs.link_laws.happenings_follow.Goals as goal
use Rattle.dmr_wire.proofs.ReportLaws.{reports_none, reports_more}

pub returns-clause-none : goal.returns-clause-none
returns-clause-none c = happens_none

pub returns-clause-both : goal.returns-clause-both
returns-clause-both c = happens_more

pub returns-clause-told_none : goal.returns-clause-told_none
returns-clause-told_none c = reports_none

pub returns-clause-told_both : goal.returns-clause-told_both
returns-clause-told_both c = reports_more
