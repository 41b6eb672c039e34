use Rattle.dmr_desk.specs.Work.{past_after}
use Rattle.dmr_desk.proofs.MeaningsAddUp.{one_meaning}
use Rattle.dmr_desk.proofs.meaning.one_meaning.Goals as goal

pub returns-clause-stands : goal.returns-clause-stands
returns-clause-stands c = one_meaning c.links_account.ensures c.links_rest.ensures.nothing

pub returns-clause-works : goal.returns-clause-works
returns-clause-works c = λ m n past steps went stands. one_meaning c.links_account.ensures c.links_rest.ensures.nothing n.at.link
    (past_after past steps) (went.stands past stands)
