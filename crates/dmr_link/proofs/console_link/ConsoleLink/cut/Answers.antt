use Rattle.std.proofs.Common.{◌≡◌, ◌∙◌, sym, subst, true}
use Rattle.std.specs.Prelude.{Ok}
use Rattle.dmr_link.specs.declared.link_state.LinkState.{LinkState}
use Rattle.dmr_link.specs.Cutting.{CutsOff}
use Rattle.dmr_link.specs.LinkSteps.{is_live}
use Rattle.dmr_link.proofs.CutLemmas.{cuts_off, cuts_off_not}
use Rattle.dmr_link.proofs.console_link.ConsoleLink.cut.Given.{Over}
use Rattle.dmr_link.proofs.console_link.ConsoleLink.cut.Goals as goal

live : (g : Over) (c : goal.After-flush_pending g) → is_live c.self.inside.state ≡ true
live g c = sym c.is_live.ensures ∙ c.if-not-is_live.false

inside_cuts : (g : Over) (c : goal.After-flush_pending g) →
    CutsOff g.D.Desk c.self.inside.state c.flush_pending.new.self c.args.desk.now c.flush_pending.new.desk c.flush_pending.result
inside_cuts g c =
    let is = c.cut_connection.ensures in
    let flushed = c.flush_pending.ensures in
    cuts_off c.self.inside.state c.flush_pending.new.self c.flush_pending.result (live g c) flushed.keeps
    (rw is at flushed.moves) flushed.ok flushed.over flushed.live (rw is at flushed.connection) (rw is at flushed.closing)

pub invariant_of-self : goal.invariant_of-self
invariant_of-self g c = (
  ((inside_cuts g c).cuts (live g c)).same ∙ c.self.invariant.0,
  (_, ((inside_cuts g c).cuts (live g c)).stands c.self.invariant.1.0 c.self.invariant.1.1),
)

pub returns-then-not-is_live : goal.returns-then-not-is_live
returns-then-not-is_live g c =
    let Q : LinkState → Type 0 = λ l. CutsOff g.D.Desk l l c.args.desk.now c.args.desk.now (Ok tt) in
    subst Q c.self.view_is (cuts_off_not c.self.inside.state (sym c.is_live.ensures ∙ c.if-not-is_live.true))

pub returns : goal.returns
returns g c =
    let Q : LinkState → Type 0 = λ l.
    CutsOff g.D.Desk l c.flush_pending.new.self c.args.desk.now c.flush_pending.new.desk c.flush_pending.result in
    subst Q c.self.view_is (inside_cuts g c)
