use Rattle.std.proofs.Common.{arith}
use Rattle.dmr_recording.proofs.SessionLemmas.{session_registers}
use Rattle.dmr_recording.proofs.laws.a_session_registers.Goals as goal

pub returns : goal.returns
returns c radios journal legal are =
    let is = c.control.ensures in
    let value = c.get.ensures.value in
    let range = c.get.ensures.range in
    session_registers c.args.plan.now radios journal (omega (arith, is, value, range)) c.use_invariant.ensures legal are
