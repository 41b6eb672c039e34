use Rattle.std.proofs.Common.{arith}
use Rattle.std.proofs.lemmas.Grind.{common_steps}
use Rattle.dmr_wire.proofs.RecordingLemmas.{has_room_for-stored}
use Rattle.dmr_wire.proofs.recording.Recording.has_room.Goals as goal

pub returns-then-len-self : goal.returns-then-len-self
returns-then-len-self c =
    let a = c.self.inside in
    let same =
    has_room_for-stored a.room a.entries.items a.came.items a.taken.items a.is_over c.args.octets c.self.invariant.0 (omega arith) in
    grind (arith, common_steps, c.self.view_is, same)

pub returns-else-len-self : goal.returns-else-len-self
returns-else-len-self c =
    let a = c.self.inside in
    let same =
    has_room_for-stored a.room a.entries.items a.came.items a.taken.items a.is_over c.args.octets c.self.invariant.0 (omega arith) in
    grind (arith, common_steps, c.self.view_is, same)
