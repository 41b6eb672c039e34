use Rattle.std.proofs.Common.{arith, ◌++◌, ◌∙◌, sym}
use Rattle.dmr_core.specs.Displays.{slot_states}
use Rattle.dmr_core.proofs.ConsoleLemmas.{all_are_shown, shown_more}
use Rattle.dmr_core.proofs.machine.Machine.slot_states.Goals as goal

pub loop-place-preserved : goal.loop-place-preserved
loop-place-preserved c = record {
  slots =
      c.add_slot.ensures.slots
      ∙ (λ i. c.loop-place.invariant.slots i ++ slot_states c.args.self.now.plan c.args.self.now.facts (c.at.ensures i))
      ∙ sym (shown_more c.args.self.now.plan c.args.self.now.facts c.loop-place.place);
  few = omega (arith, c.add_slot.ensures.few, c.loop-place.invariant.few);
}

pub returns : goal.returns
returns c = c.loop-place.invariant.slots ∙ all_are_shown c.args.self.now.plan c.args.self.now.facts c.loop-place.place (omega arith)
