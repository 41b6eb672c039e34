use Rattle.std.proofs.Common.{subst}
use Rattle.dmr_link.specs.declared.link_state.LinkState.{LinkState}
use Rattle.dmr_link.specs.LinkSteps.{IsLinkNumbering}
use Rattle.dmr_link.proofs.LinksNumberByVersion.{link_numbered}
use Rattle.dmr_link.proofs.link.Link.use_invariant.Goals as goal

pub returns-clause-numbered : goal.returns-clause-numbered
returns-clause-numbered c =
    let P : LinkState → Type 0 = λ l. IsLinkNumbering l.connection l.pending.kept in
    subst P c.self.view_is (link_numbered c.self.invariant.0.0 c.self.inside.state c.self.invariant.0.1 c.self.invariant.1.0
    c.self.invariant.1.1)
