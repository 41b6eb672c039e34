use Rattle.std.proofs.Common.{arith}
use Rattle.std.proofs.lemmas.Grind.{common_steps}
use Rattle.dmr_wire.proofs.RecordingLemmas.{entries-answers_of}
use Rattle.dmr_wire.proofs.recording.Recording.entries.Goals as goal

pub returns : goal.returns
returns c =
    let a = c.self.inside in
    let same = entries-answers_of a.entries.items a.came.items a.taken.items c.self.invariant.0 in
    grind (arith, common_steps, c.self.view_is, c.as_slice.ensures.value, same)
