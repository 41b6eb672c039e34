use Rattle.std.proofs.Common.{◌≤◌, length, ◌∙◌, sym, arith, length-take-le}
use Rattle.dmr_frames.specs.Shape.{AreSmall}
use Rattle.dmr_frames.proofs.WholeFrameLemmas.{after_two, whole-front, frame-front}
use Rattle.dmr_frames.proofs.cutter.read_frame.Goals as goal

pub read_whole-requires : goal.read_whole-requires
read_whole-requires c = length-take-le c.from-count.result (after_two c.args.octets.now) c.if-rest-count.false ∙ c.from-count.ensures
    ∙ c.body_length.ensures.length

pub returns-in-Frame : goal.returns-in-Frame
returns-in-Frame c =
    let small : AreSmall c.args.octets.now = λ k. omega (arith, c.type_inv.octets k) in
    let known = sym c.from_carrier.ensures ∙ c.in_ok-kind.was in
    let len = c.from-count.ensures ∙ c.body_length.ensures.length in
    let two : 2 ≤ length c.args.octets.now = omega (arith, c.in-len2-up.len_at_least) in
    let clean = c.read_whole.ensures.1 c.in-Frame.frame c.in-Frame.is in
    let whole = whole-front c.args.version c.args.octets.now c.in_ok-kind.kind c.from-count.result known small two len c.if-rest-count.false
    clean in
    frame-front c.args.version c.args.octets.now c.in_ok-kind.kind c.from-count.result c.in-Frame.frame two known len
    (sym c.from.ensures ∙ c.if-from-count.false) c.if-rest-count.false whole (sym c.in-Frame.is ∙ c.read_whole.ensures.0 clean)
