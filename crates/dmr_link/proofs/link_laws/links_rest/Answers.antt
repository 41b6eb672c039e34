use Rattle.dmr_link.proofs.LinksAccount.{over_pending}
use Rattle.dmr_link.proofs.LinksHavePasts.{dead_over, over_dead}
use Rattle.dmr_link.proofs.link_laws.links_rest.Goals as goal

pub returns-clause-over : goal.returns-clause-over
returns-clause-over c = dead_over

pub returns-clause-dead : goal.returns-clause-dead
returns-clause-dead c = over_dead

pub returns-clause-nothing : goal.returns-clause-nothing
returns-clause-nothing c = over_pending
