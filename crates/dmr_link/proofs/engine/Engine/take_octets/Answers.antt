use Rattle.std.proofs.Common.{ap}
use Rattle.dmr_link.specs.declared.carrier_state.CarrierState.{CarrierState}
use Rattle.dmr_link.specs.Input.{Octets}
use Rattle.dmr_link.proofs.EngineSessionLemmas.{both_ok, session_leaves, states_stay}
use Rattle.dmr_link.proofs.engine.Engine.take_octets.Goals as goal

pub returns-clause-engine : goal.returns-clause-engine
returns-clause-engine c =
    both_ok c.answer_octets.result _ _ _
    (λ site state.
    session_leaves c.self.inside.site c.answer_octets.new.site c.self.inside.states.items c.self.inside.console c.get-number.result
    c.args.carrier c.get-number.ensures.range c.get-number.ensures.value c.self.invariant
    c.index_mut.result.now c.index_mut.ensures.value c.in-Some.state c.in-Some.is (Octets c.args.octets.now) site
    c.args.self.now c.self.view_is c.answer_octets.new.state (ap (λ (d : CarrierState). d.connection) state)
    (ap (λ (d : CarrierState). d.numbering) state))
    c.answer_octets.ensures.site c.answer_octets.ensures.state

pub invariant_of-self-2 : goal.invariant_of-self-2
invariant_of-self-2 c =
    states_stay c.self.inside.site.plan c.answer_octets.new.site.plan c.self.inside.states.items c.get-number.result
    c.get-number.ensures.range c.self.invariant c.index_mut.result.now c.index_mut.ensures.value
    c.in-Some.state c.in-Some.is c.answer_octets.new.state c.answer_octets.ensures.plan c.answer_octets.ensures.who
    c.answer_octets.ensures.sound
