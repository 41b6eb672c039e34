use Rattle.std.proofs.Common.{sym, ◌∙◌, ap}
use Rattle.dmr_wire.specs.Recording.{Recording, taken_in}
use Rattle.dmr_wire.proofs.RecordingLemmas.{taken_in-answers_of}
use Rattle.dmr_wire.proofs.recording.Recording.taken.Goals as goal

pub returns : goal.returns
returns c =
    let a = c.self.inside in
    c.as_slice.ensures.value
    ∙ sym (taken_in-answers_of a.entries.items a.came.items a.taken.items c.self.invariant.0)
    ∙ ap (λ (r : Recording). taken_in r.answers) c.self.view_is
