use Rattle.std.proofs.Common.{refl, subst, sym, ◌∙◌}
use Rattle.dmr_link.specs.declared.pending.Pending.{Pending}
use Rattle.dmr_link.specs.LinkSteps.{with_pending}
use Rattle.dmr_link.specs.Happenings.{Disordered}
use Rattle.dmr_link.specs.Moves.{Moves, moment}
use Rattle.dmr_link.specs.Sessions.{sides}
use Rattle.dmr_link.proofs.StepLemmas.{keeps_on, keeps_same}
use Rattle.dmr_link.proofs.StepsFollow.{moves_none, moves_on, moves_untaken}
use Rattle.dmr_link.proofs.LinkSteps.{flushes}
use Rattle.dmr_link.proofs.link_state.LinkState.flush_pending.Goals as goal

pub loop-notice-init : goal.loop-notice-init
loop-notice-init g c = record {
  keeps = keeps_same;
  moves = λ reported passed. moves_none _;
  cut = c.requires;
  connection = refl;
  closing = refl;
}

pub loop-notice-preserved : goal.loop-notice-preserved
loop-notice-preserved g c = record {
  moves = λ reported passed.
      let calls = g.D.Desk.calls c.loop-notice.desk in
      let P : Pending → Type 0 = λ p. Moves (moment c.loop-notice.self (sides reported calls passed) 0 Disordered)
      (moment (with_pending c.loop-notice.self p) (sides reported (g.D.Desk.calls c.hand_in.new.desk) passed) 0 Disordered) 0 in
      moves_on _ _ _ _ (c.loop-notice.invariant.moves reported passed)
      (subst P (sym c.remove_first.ensures)
      (flushes c.loop-notice.self c.in-Some.notice c.hand_in.new.acts reported calls _ passed c.loop-notice.invariant.cut
      (sym c.first.ensures ∙ c.in-Some.is)
      c.in_ok-hand_in.ensures.ok));
  cut = c.loop-notice.invariant.cut;
  connection = c.loop-notice.invariant.connection;
  closing = c.loop-notice.invariant.closing;
  keeps = keeps_on c.loop-notice.invariant.keeps (record { actor = c.hand_in.ensures.actor; questions = c.hand_in.ensures.questions });
}

pub returns-in_err-hand_in-clause-keeps : goal.returns-in_err-hand_in-clause-keeps
returns-in_err-hand_in-clause-keeps g c =
    keeps_on c.loop-notice.invariant.keeps (record { actor = c.hand_in.ensures.actor; questions = c.hand_in.ensures.questions })

pub returns-in_err-hand_in-clause-moves : goal.returns-in_err-hand_in-clause-moves
returns-in_err-hand_in-clause-moves g c = λ reported passed.
    moves_on _ _ _ _ (c.loop-notice.invariant.moves reported passed)
    (moves_untaken _ reported _ _ passed Disordered c.in_err-hand_in.ensures.err.0)
