use Rattle.std.proofs.Common.{sym, ap, ◌∙◌}
use Rattle.dmr_link.specs.declared.link_state.LinkState.{LinkState}
use Rattle.dmr_link.proofs.link.Link.carrier.Goals as goal

pub returns : goal.returns
returns c = (c.in-Carrier.who.lpcn, c.in-Carrier.who.greatest, ap (λ (l : LinkState). l.who) (sym c.self.view_is) ∙ c.in-Carrier.is)
