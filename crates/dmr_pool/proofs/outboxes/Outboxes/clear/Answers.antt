use Rattle.std.proofs.Common.{arith, sym, ◌∙◌, eqb-true}
use Rattle.std.proofs.lemmas.Bool.{eqb-false}
use Rattle.dmr_pool.proofs.GrantLemmas.{cleared_control, cleared_kept, cleared_other}
use Rattle.dmr_pool.proofs.outboxes.Outboxes.clear.Goals as goal

pub invariant_of-self : goal.invariant_of-self
invariant_of-self c = (
  cleared_kept c.self.inside.lists c.self.inside.outboxes.items c.self.inside.grants c.get.result c.args.carrier c.clear.new.self
      c.clear-2.new.self c.get.ensures.value c.clear.ensures c.clear-2.ensures
      (omega (arith, c.get.ensures.value, c.get.ensures.range)) c.self.invariant.0,
  cleared_control c.self.inside.lists c.self.inside.outboxes.items c.self.inside.grants c.get.result c.args.carrier c.clear.new.self
      c.clear-2.new.self c.get.ensures.value c.clear.ensures c.clear-2.ensures
      (omega (arith, c.get.ensures.value, c.get.ensures.range)) c.self.invariant.0
      (eqb-true c.args.carrier c.self.inside.lists.control (sym c.eq.ensures ∙ c.if-eq.true)),
  c.self.invariant.2,
)

pub invariant_of-self-else-eq : goal.invariant_of-self-else-eq
invariant_of-self-else-eq c = (
  cleared_kept c.self.inside.lists c.self.inside.outboxes.items c.self.inside.grants c.get.result c.args.carrier c.clear.new.self
      c.clear-2.new.self c.get.ensures.value c.clear.ensures c.clear-2.ensures
      (omega (arith, c.get.ensures.value, c.get.ensures.range)) c.self.invariant.0,
  cleared_other c.self.inside.lists c.self.inside.outboxes.items c.self.inside.grants c.get.result c.args.carrier c.clear.new.self
      c.clear-2.new.self c.get.ensures.value c.clear.ensures c.clear-2.ensures
      (omega (arith, c.get.ensures.value, c.get.ensures.range)) c.self.invariant.0
      (eqb-false c.args.carrier c.self.inside.lists.control (sym c.eq.ensures ∙ c.if-eq.false)) c.self.invariant.1,
  c.self.invariant.2,
)
