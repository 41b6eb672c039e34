use Rattle.std.proofs.Common.{◌≡◌, ℕ, List, arith, length, take, map, map-id, sym, ap, ◌∙◌}
use Rattle.std.proofs.lemmas.Iterator.{YieldsList-from_slice}
use Rattle.std.proofs.lemmas.Iterator.Consumers.{YieldsList-at, YieldsList-from_copied, YieldsList-so_far, YieldsList-turn}
use Rattle.std.proofs.lemmas.List.{length_push, map-append}
use Rattle.dmr_link.specs.declared.input.Input.{Input as InputValue}
use Rattle.dmr_link.specs.Input.{inputs_of}
use Rattle.dmr_link.specs.Inputs.{Writes}
use Rattle.dmr_link.specs.State.{State}
use Rattle.dmr_link.specs.Texts.{Texts}
use Rattle.dmr_link.proofs.OneInputMore.{gives_more}
use Rattle.dmr_link.proofs.engine.Engine.take_inputs.Goals as goal

-- the outputs of the inputs that were processed, if the next one changed nothing
stopped : (s old new : State) (texts more : Texts) (inputs taken : List InputValue) (done : ℕ) → done ≡ length taken →
    map (λ (i : InputValue). i) taken ≡ take (length taken) inputs →
    Writes s old texts (inputs_of taken) → new ≡ old → more ≡ texts → Writes s new more (inputs_of (take done inputs))
stopped s old new texts more inputs taken done counted first gives left put_out =
    let same : taken ≡ take done inputs = sym (map-id taken) ∙ first ∙ ap (λ (n : ℕ). take n inputs) (sym counted) in
    rw (left, put_out, ← same) gives

pub loop-input-preserved : goal.loop-input-preserved
loop-input-preserved c = record {
  done = rw length_push (omega arith);
  gives = rw map-append
      (gives_more _ _ _ c.loop-input.outputs c.step.new.outputs _ _ c.loop-input.invariant.gives c.in-Ok.ensures.engine
      c.in-Ok.ensures.texts c.in-Ok.ensures.console);
}

pub returns-in-Err-clause-fault : goal.returns-in-Err-clause-fault
returns-in-Err-clause-fault c =
    let road = YieldsList-at c.into_iter-input-iterator.ensures.into_iter_gives
    (YieldsList-from_copied (YieldsList-at c.copied-input-items.ensures.source
    (YieldsList-from_slice c.args.inputs.now c.iter.ensures.rest))) in
    let turn = YieldsList-turn road c.loop-input.yielded _ c.loop-input.yielded_by _ _ c.in-Some.input c.in-Some.is c.next.ensures.steps in
    let first = YieldsList-so_far road c.loop-input.yielded _ c.loop-input.yielded_by in (
      omega (arith, turn.0),
      stopped c.args.self.now c.loop-input.self c.step.new.self c.loop-input.outputs c.step.new.outputs c.args.inputs.now
          c.loop-input.yielded c.loop-input.done c.loop-input.invariant.done first c.loop-input.invariant.gives
          c.in-Err.ensures.err.0 c.in-Err.ensures.err.1,
    )
