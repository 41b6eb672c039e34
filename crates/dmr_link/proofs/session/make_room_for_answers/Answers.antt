use Rattle.std.proofs.Common.{inl, refl}
use Rattle.std.specs.Prelude.{is_some}
use Rattle.dmr_link.proofs.session.make_room_for_answers.Goals as goal

pub returns-then-has_room-clause-made : goal.returns-then-has_room-clause-made
returns-then-has_room-clause-made c =
    let state = c.args.state.now in
    inl (c.has_room.ensures.fits state.who (is_some state.numbering) c.if-has_room.true, refl)
