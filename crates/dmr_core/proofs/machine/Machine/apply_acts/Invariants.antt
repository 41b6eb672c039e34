use Rattle.std.proofs.Common.{◌≡◌, drop}
use Rattle.std.specs.Prelude.{fold}
use Rattle.dmr_core.specs.Facts.{facts_after_act}
use Rattle.dmr_core.specs.May.{AllMayDo}
use Rattle.dmr_core.proofs.machine.Machine.apply_acts.Given as goal

abbrev pub invariant-loop-act : goal.invariant-loop-act
invariant-loop-act l = record {
  plan : l.self.plan ≡ l.fn.self.plan;
  rest : fold facts_after_act l.self.facts (drop l.act-index l.acts) ≡ fold facts_after_act l.fn.self.facts l.acts;
  may : AllMayDo l.fn.self.plan l.self.facts (drop l.act-index l.acts);
}
