use Rattle.std.proofs.Common.{◌≡◌, length}
use Rattle.dmr_link.specs.Input.{inputs_of}
use Rattle.dmr_link.specs.Inputs.{Writes}
use Rattle.dmr_link.proofs.engine.Engine.take_inputs.Given as goal

abbrev pub invariant-loop-input : goal.invariant-loop-input
invariant-loop-input l = record {
  done : l.done ≡ length l.yielded;
  gives : Writes l.initial.self l.self l.outputs (inputs_of l.yielded);
}
