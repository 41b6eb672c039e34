use Rattle.std.proofs.Common.{subst, ◌∙◌}
use Rattle.std.proofs.lemmas.List.{length-map}
use Rattle.dmr_link.specs.EngineSessions.{next_in}
use Rattle.dmr_link.specs.State.{State, IsEngine}
use Rattle.dmr_link.proofs.EngineSessionLemmas.{sessions_connect, sessions_number}
use Rattle.dmr_link.proofs.EnginesHavePasts.{past_of, has_past}
use Rattle.dmr_link.proofs.engine.Engine.use_invariant.Goals as goal

pub returns-clause-engine : goal.returns-clause-engine
returns-clause-engine c =
    let P : State → Type 0 = IsEngine in
    subst P c.self.view_is
    (record {
      site = c.use_invariant.ensures;
      numbers = length-map c.self.inside.states.items next_in ∙ c.self.invariant.sixteen;
      connections = sessions_connect c.self.inside.site.plan c.self.inside.states.items c.self.invariant;
      numbered =
          sessions_number c.self.inside.site.plan c.self.inside.states.items c.self.invariant;
      console = c.use_invariant-2.ensures;
    })

pub returns-clause-past : goal.returns-clause-past
returns-clause-past c = (past_of c.args.self.now (returns-clause-engine c), has_past c.args.self.now (returns-clause-engine c))
