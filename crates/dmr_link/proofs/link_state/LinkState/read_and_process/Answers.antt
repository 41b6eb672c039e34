use Rattle.std.proofs.Common.{arith, ◌≡◌, ℕ, subst}
use Rattle.dmr_link.specs.Happenings.{Outside}
use Rattle.dmr_link.specs.LinkSteps.{moment_of}
use Rattle.dmr_link.specs.Moves.{Moves}
use Rattle.dmr_link.proofs.StepsFollow.{moves_then}
use Rattle.dmr_link.proofs.LinkSteps.{turn_passed_on}
use Rattle.dmr_link.proofs.link_state.LinkState.read_and_process.Given.{Over}
use Rattle.dmr_link.proofs.link_state.LinkState.read_and_process.Goals.{After-branch-process_unread}
use Rattle.dmr_link.proofs.link_state.LinkState.read_and_process.Goals as goal

-- the read returned octets, or closed the connection: no interruption came last
read_first : (g : Over) (c : After-branch-process_unread g) →
    Moves (moment_of g.W.Wire g.D.Desk g.G.Gate c.args.self.now c.args.port.now c.args.desk.now c.args.gate.now c.args.row Outside)
    (moment_of g.W.Wire g.D.Desk g.G.Gate c.read_once.new.self c.read_once.new.port c.args.desk.now c.args.gate.now 0 Outside) 1
read_first g c =
    let P : ℕ → Type 0 = λ n.
    Moves (moment_of g.W.Wire g.D.Desk g.G.Gate c.args.self.now c.args.port.now c.args.desk.now c.args.gate.now c.args.row Outside)
    (moment_of g.W.Wire g.D.Desk g.G.Gate c.read_once.new.self c.read_once.new.port c.args.desk.now c.args.gate.now n Outside) 1 in
    let none : c.in-Some.row ≡ 0 = omega arith in
    subst P none (c.in-Some.ensures.moves _ _)

pub returns-in_err-process_unread-clause-moves : goal.returns-in_err-process_unread-clause-moves
returns-in_err-process_unread-clause-moves g c =
    turn_passed_on _ _ _ _ _ _ c.from_residual.ensures
    (moves_then _ _ _ _ (read_first g c.before.before) c.in_err-process_unread.ensures.step.moves)

pub returns-clause-moves : goal.returns-clause-moves
returns-clause-moves g c = moves_then _ _ _ _ (read_first g c.before) c.in_ok-process_unread.ensures.step.moves

pub returns-in_default-clause-moves : goal.returns-in_default-clause-moves
returns-in_default-clause-moves g c = c.in_default.ensures.moves _ _

pub returns-then-row-gt0-clause-moves : goal.returns-then-row-gt0-clause-moves
returns-then-row-gt0-clause-moves g c = c.in-Some.ensures.moves _ _
