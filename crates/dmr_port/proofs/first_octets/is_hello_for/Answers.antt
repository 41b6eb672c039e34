use Rattle.std.proofs.Common.{arith, ◌<◌}
use Rattle.dmr_port.proofs.FirstOctetsLemmas.{hello_for_from_frame}
use Rattle.dmr_port.proofs.first_octets.is_hello_for.Goals as goal

pub returns : goal.returns
returns c =
    let frame = c.whole_frame-frame in
    let small : c.args.number < 16 = omega (arith, c.get.ensures.range, c.get.ensures.value) in
    let fits : c.args.lpcn < 65536 = omega (arith, c.get-2.ensures.range, c.get-2.ensures.value) in
    rw (c.is_frame_for.ensures, c.get.ensures.value, c.get-2.ensures.value)
    (hello_for_from_frame c.args.greatest c.args.number c.args.lpcn c.args.octets.now frame.result small fits frame.ensures.found
    frame.ensures.only)
