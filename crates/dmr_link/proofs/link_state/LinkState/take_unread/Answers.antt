use Rattle.std.proofs.Common.{subst}
use Rattle.std.specs.Prelude.{Option, option_map}
use Rattle.dmr_link.specs.declared.notices.PeerNotice.{PeerNotice}
use Rattle.dmr_link.specs.Notices.{peer_notice}
use Rattle.dmr_link.specs.LinkSteps.{TakesPiece}
use Rattle.dmr_link.proofs.LinkSteps.{takes, tells}
use Rattle.dmr_link.proofs.link_state.LinkState.take_unread.Goals as goal

pub returns-in-Some-clause-moves : goal.returns-in-Some-clause-moves
returns-in-Some-clause-moves g c = λ calls passed.
    let P : Option PeerNotice → Type 0 = λ r. TakesPiece c.args.self.now c.receive.new.self (option_map peer_notice r) in
    tells c.args.self.now c.receive.new.self c.requires.quiet _ calls passed (peer_notice c.in-Some.notice)
    (subst P c.in-Some.is c.receive.ensures) _ _ c.answer_peer_notice.ensures

pub returns-in_default-clause-moves : goal.returns-in_default-clause-moves
returns-in_default-clause-moves g c = λ calls passed.
    let P : Option PeerNotice → Type 0 = λ r. TakesPiece c.args.self.now c.receive.new.self (option_map peer_notice r) in
    takes c.args.self.now c.receive.new.self c.requires.quiet _ calls passed (subst P c.in_default.is c.receive.ensures)
