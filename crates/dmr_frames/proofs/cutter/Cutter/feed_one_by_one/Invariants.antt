use Rattle.std.proofs.Common.{◌≡◌, take}
use Rattle.dmr_frames.specs.Reading.{rest_after_octets}
use Rattle.dmr_frames.proofs.ReadingLemmas.{AreNeeds}
use Rattle.dmr_frames.proofs.cutter.Cutter.feed_one_by_one.Given as goal

abbrev pub invariant-loop-octet : goal.invariant-loop-octet
invariant-loop-octet l = record {
  counted : l.count ≡ l.octet-index;
  rest : l.self ≡ rest_after_octets l.initial.self (take l.octet-index l.octets);
  needs : AreNeeds l.initial.self (take l.octet-index l.octets);
}
