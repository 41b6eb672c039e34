use Rattle.std.proofs.Common.{◌∷◌, ◌≡◌, ◌∙◌, sym, subst, true, false}
use Rattle.dmr_link.specs.declared.stream.Peer.TheVariants.{Operator}
use Rattle.dmr_link.specs.declared.link_state.LinkState.{LinkState}
use Rattle.dmr_link.specs.Cutting.{Opens}
use Rattle.dmr_link.specs.Sessions.{IsOver, HasPast, new_session}
use Rattle.dmr_link.proofs.CutLemmas.{opens_new, opens_not}
use Rattle.dmr_link.proofs.LinksHavePasts.{dead_over, opens}
use Rattle.dmr_link.proofs.console_link.ConsoleLink.open.Goals as goal

pub invariant_of-self : goal.invariant_of-self
invariant_of-self c =
    let past = c.self.invariant.1.0 in
    let over : IsOver c.self.inside.state = dead_over c.self.inside.state (sym c.is_live.ensures ∙ c.if-is_live.false) in
    let P : LinkState → Type 0 = λ l. HasPast l (new_session ∷ past) in
    let Q : LinkState → Type 0 = λ l. l.who ≡ Operator in (
      subst Q (sym c.begin_connection.ensures) c.self.invariant.0,
      (new_session ∷ past, subst P (sym c.begin_connection.ensures) (opens c.self.inside.state over past c.self.invariant.1.1)),
    )

pub returns-then-is_live : goal.returns-then-is_live
returns-then-is_live c =
    let Q : LinkState → Type 0 = λ l. Opens l l false in
    subst Q c.self.view_is (opens_not c.self.inside.state (sym c.is_live.ensures ∙ c.if-is_live.true))

pub returns : goal.returns
returns c =
    let P : LinkState → Type 0 = λ l. Opens c.self.inside.state l true in
    let Q : LinkState → Type 0 = λ l. Opens l c.begin_connection.new.self true in
    subst Q c.self.view_is (subst P (sym c.begin_connection.ensures)
    (opens_new c.self.inside.state (sym c.is_live.ensures ∙ c.if-is_live.false)))
