use Rattle.std.proofs.Common.{None, ◌≡◌, ◌∙◌, sym, subst, false, true}
use Rattle.dmr_link.specs.declared.ended.Ended.{Ended}
use Rattle.dmr_link.specs.declared.link_state.LinkState.{LinkState}
use Rattle.dmr_link.specs.Sessions.{sides, Serves}
use Rattle.dmr_link.specs.LinkSteps.{is_live}
use Rattle.dmr_link.proofs.LinksHavePasts.{dead_over, still_serves, works_serves, bad_ends, no_cause}
use Rattle.dmr_link.proofs.console_link.ConsoleLink.serve.Given.{Over}
use Rattle.dmr_link.proofs.console_link.ConsoleLink.serve.Goals as goal

pub returns-then-not-is_live-clause-serves : goal.returns-then-not-is_live-clause-serves
returns-then-not-is_live-clause-serves g c =
    let at = sides (g.W.Wire.reported c.args.port.now) (g.D.Desk.calls c.args.desk.now) None in
    let dead : is_live c.self.inside.state ≡ false = sym c.is_live.ensures ∙ c.if-not-is_live.true in
    let P : Ended → Type 0 = λ e. Serves c.self.inside.state c.self.inside.state at at e in
    let Q : LinkState → Type 0 = λ l. Serves l l at at c.from.result in
    subst Q c.self.view_is (subst P (sym c.from.ensures) (still_serves c.self.inside.state at dead))

inside_serves : (g : Over) (c : goal.After-serve_connection g) → Serves c.self.inside.state c.serve_connection.new.self
    (sides (g.W.Wire.reported c.args.port.now) (g.D.Desk.calls c.args.desk.now) None)
    (sides (g.W.Wire.reported c.serve_connection.new.port) (g.D.Desk.calls c.serve_connection.new.desk) None) c.serve_connection.result
inside_serves g c =
    let live : is_live c.self.inside.state ≡ true = sym c.is_live.ensures ∙ c.if-not-is_live.false in
    works_serves c.self.inside.state c.serve_connection.new.self _ _ _ live c.serve_connection.ensures.works

pub invariant_of-self : goal.invariant_of-self
invariant_of-self g c = (
  (inside_serves g c).same ∙ c.self.invariant.0,
  (_, (inside_serves g c).stands c.self.invariant.1.0 c.self.invariant.1.1),
)

pub returns-clause-serves : goal.returns-clause-serves
returns-clause-serves g c =
    let Q : LinkState → Type 0 = λ l. Serves l c.serve_connection.new.self
    (sides (g.W.Wire.reported c.args.port.now) (g.D.Desk.calls c.args.desk.now) None)
    (sides (g.W.Wire.reported c.serve_connection.new.port) (g.D.Desk.calls c.serve_connection.new.desk) None) c.serve_connection.result in
    subst Q c.self.view_is (inside_serves g c)

pub returns-then-not-is_live-clause-no_cause : goal.returns-then-not-is_live-clause-no_cause
returns-then-not-is_live-clause-no_cause g c = λ cause e.
    let over = dead_over c.self.inside.state (sym c.is_live.ensures ∙ c.if-not-is_live.true) in
    no_cause c.self.inside.state c.self.invariant.1.0 cause c.self.invariant.0 c.self.invariant.1.1 over (sym c.from.ensures ∙ e)

pub returns-clause-no_cause : goal.returns-clause-no_cause
returns-clause-no_cause g c = λ cause e.
    let serves = inside_serves g c in
    let ends = bad_ends c.serve_connection.new.self c.serve_connection.result cause _ e serves.ends in
    no_cause c.serve_connection.new.self _ cause (serves.same ∙ c.self.invariant.0)
    (serves.stands c.self.invariant.1.0 c.self.invariant.1.1) ends.0 ends.1
