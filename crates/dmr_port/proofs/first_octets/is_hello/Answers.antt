use Rattle.dmr_port.proofs.FirstOctetsLemmas.{hello_from_frame}
use Rattle.dmr_port.proofs.first_octets.is_hello.Goals as goal

pub returns : goal.returns
returns c =
    let frame = c.whole_frame-frame in
    rw c.is_hello_frame.ensures (hello_from_frame c.args.octets.now frame.result frame.ensures.found frame.ensures.only)
