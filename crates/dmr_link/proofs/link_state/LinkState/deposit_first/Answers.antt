use Rattle.std.proofs.Common.{◌≡◌, ◌∙◌, refl, subst, sym}
use Rattle.dmr_link.specs.declared.pending.Pending.{Pending}
use Rattle.dmr_link.specs.declared.ended.Ended.TheVariants.{GateShut, TermOver}
use Rattle.dmr_link.specs.LinkSteps.{Replies, moment_of, with_next, with_pending}
use Rattle.dmr_link.specs.Moves.{Moves}
use Rattle.dmr_link.specs.Peers.{answer_text, next_after_answer, numbering_of}
use Rattle.dmr_link.specs.Happenings.{Outside, Within, Answering, ShutOut}
use Rattle.dmr_link.specs.Passages.{Entered, Shut, Left}
use Rattle.dmr_link.proofs.StepLemmas.{keeps_same}
use Rattle.dmr_link.proofs.StepsFollow.{moves_on, moves_passed}
use Rattle.dmr_link.proofs.LinkSteps.{deposits_within, deposits_pending, fewer_by, turned_away}
use Rattle.dmr_link.proofs.link_state.LinkState.deposit_first.Given.{Over}
use Rattle.dmr_link.proofs.link_state.LinkState.deposit_first.Goals as goal

pub returns-then-not-enter-clause-step : goal.returns-then-not-enter-clause-step
returns-then-not-enter-clause-step g c = record {
  keeps = keeps_same;
  moves = moves_passed c.args.self.now _ _ _ _ Shut Outside ShutOut c.if-not-enter.ensures.passed refl;
  why = (λ over. absurd (cc over), λ shut. (c.args.gate.now, c.if-not-enter.ensures.shuts refl));
}

pub returns-in-Err-clause-step : goal.returns-in-Err-clause-step
returns-in-Err-clause-step g c = record {
  keeps = record { actor = c.hand_in.ensures.actor; questions = c.hand_in.ensures.questions };
  moves = turned_away c.args.self.now _ _ _ _ _ _ _ c.from.ensures c.if-not-enter.ensures.passed c.leave.ensures c.in-Err.ensures.err.0;
  why = (λ over. (_, _, _, c.in-Err.ensures.err.1), λ shut. let e : TermOver ≡ GateShut = sym c.from.ensures ∙ shut in absurd (cc e));
}

handed_in : (g : Over) (c : goal.After-leave-in-Ok g) → Moves
    (moment_of g.W.Wire g.D.Desk g.G.Gate c.args.self.now c.args.port.now c.args.desk.now c.args.gate.now 0 Outside)
    (moment_of g.W.Wire g.D.Desk g.G.Gate c.answer_peer.new.self c.answer_peer.new.port c.hand_in.new.desk c.leave-in-Ok.new.self 0 Outside)
    0
handed_in g c =
    let reported = g.W.Wire.reported c.args.port.now in
    let calls = g.D.Desk.calls c.args.desk.now in
    let P : Pending → Type 0 = λ p. Replies c.args.self.now.is_cut (with_pending c.args.self.now p) reported
    (answer_text (numbering_of c.args.self.now.connection) c.args.notice.now c.hand_in.new.acts)
    (with_next (with_pending c.args.self.now p)
    (next_after_answer (numbering_of c.args.self.now.connection) c.args.notice.now c.hand_in.new.acts)) c.answer_peer.new.self
    (g.W.Wire.reported c.answer_peer.new.port) in
    moves_on _ _ _ _
    (moves_passed c.args.self.now reported calls _ _ Entered Outside Within c.if-not-enter.ensures.passed refl)
    (moves_on _ _ _ _
    (deposits_pending c.args.self.now c.args.notice.now c.hand_in.new.acts reported _ calls _ _ Within Answering deposits_within
    c.in-Ok.ensures.ok c.requires _ (subst P c.remove_first.ensures c.answer_peer.ensures))
    (moves_passed c.answer_peer.new.self _ _ _ _ Left Answering Outside c.leave-in-Ok.ensures refl))

pub returns-in-Ok-clause-step : goal.returns-in-Ok-clause-step
returns-in-Ok-clause-step g c = record {
  keeps = record { actor = c.hand_in.ensures.actor; questions = c.hand_in.ensures.questions };
  moves = handed_in g c;
  why = tt;
}

pub returns-in-Ok-clause-stops : goal.returns-in-Ok-clause-stops
returns-in-Ok-clause-stops g c =
    let reported = g.W.Wire.reported c.args.port.now in
    let P : Pending → Type 0 = λ p. Replies c.args.self.now.is_cut (with_pending c.args.self.now p) reported
    (answer_text (numbering_of c.args.self.now.connection) c.args.notice.now c.hand_in.new.acts)
    (with_next (with_pending c.args.self.now p)
    (next_after_answer (numbering_of c.args.self.now.connection) c.args.notice.now c.hand_in.new.acts)) c.answer_peer.new.self
    (g.W.Wire.reported c.answer_peer.new.port) in
    fewer_by c.args.self.now c.args.notice.now c.hand_in.new.acts reported _ c.args.self.now.is_cut _ c.requires
    (subst P c.remove_first.ensures c.answer_peer.ensures)
