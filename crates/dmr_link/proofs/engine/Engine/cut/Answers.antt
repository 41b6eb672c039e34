use Rattle.std.proofs.Common.{sym, ap, subst, ◌∙◌}
use Rattle.dmr_link.specs.declared.carrier_state.CarrierState.{CarrierState}
use Rattle.dmr_link.specs.EngineSessions.{IsStateSound}
use Rattle.dmr_link.specs.Input.{Cutting}
use Rattle.dmr_link.proofs.EngineSessionLemmas.{session_leaves, session_stays, ends_uncounted}
use Rattle.dmr_link.proofs.engine.Engine.cut.Goals as goal

pub invariant_of-self-2 : goal.invariant_of-self-2
invariant_of-self-2 c =
    let P : CarrierState → Type 0 = IsStateSound in
    session_stays c.self.inside.site c.end_connection.new.site c.self.inside.states.items c.self.inside.console c.get.result c.args.carrier
    c.get.ensures.range c.get.ensures.value c.self.invariant
    c.index_mut.result.now c.index_mut.ensures.value c.in-Some.state c.in-Some.is Cutting c.end_connection.ensures.site
    c.end_connection.new.state (ap (λ (d : CarrierState). d.who) c.end_connection.ensures.state)
    (subst P (sym c.end_connection.ensures.state) (tt, tt))

pub returns : goal.returns
returns c =
    session_leaves c.self.inside.site c.end_connection.new.site c.self.inside.states.items c.self.inside.console c.get.result c.args.carrier
    c.get.ensures.range c.get.ensures.value c.self.invariant
    c.index_mut.result.now c.index_mut.ensures.value c.in-Some.state c.in-Some.is Cutting c.end_connection.ensures.site
    c.args.self.now c.self.view_is c.end_connection.new.state (ap (λ (d : CarrierState). d.connection) c.end_connection.ensures.state)
    (ap (λ (d : CarrierState). d.numbering) c.end_connection.ensures.state
    ∙ ends_uncounted c.self.inside.site.plan c.self.inside.site.facts c.in-Some.state.who.carrier c.in-Some.state.connection
    c.in-Some.state.numbering)
