use Rattle.std.proofs.Common.{◌≡◌, take}
use Rattle.dmr_frames.specs.declared.version.FrameTable.TheVariants.{Later}
use Rattle.dmr_frames.specs.Rest.{Open}
use Rattle.dmr_frames.specs.Stream.{IsOpen}
use Rattle.dmr_frames.proofs.whole.whole_frame.Given as goal

abbrev pub invariant-loop-octet : goal.invariant-loop-octet
invariant-loop-octet l = record {
  rest : l.cutter ≡ Open (Later l.fn.version) (take l.octet-index l.front);
  begun : IsOpen l.fn.version (take l.octet-index l.front);
}
