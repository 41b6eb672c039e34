use Rattle.std.proofs.Common.{arith, ◌≡◌, sym, subst}
use Rattle.dmr_link.specs.declared.link_state.LinkState.{LinkState}
use Rattle.dmr_link.specs.Happenings.{Outside}
use Rattle.dmr_link.specs.Limits.{most_interruptions}
use Rattle.dmr_link.specs.Moves.{Moves, moment}
use Rattle.dmr_link.specs.Sessions.{sides}
use Rattle.dmr_link.proofs.LinkSteps.{reads_came, reads_over, reads_failed, reads_impatient, reads_again, reads_blocked}
use Rattle.dmr_link.proofs.link_state.LinkState.read_once.Goals as goal

pub returns-in-Octets-clause-moves : goal.returns-in-Octets-clause-moves
returns-in-Octets-clause-moves g c = λ calls passed. reads_came c.args.self.now _ c.requires.1 c.requires.0 _ _ calls passed c.args.row _
    c.in-Octets.ensures.left c.in-Octets.ensures.reported

pub returns-in-End-clause-moves : goal.returns-in-End-clause-moves
returns-in-End-clause-moves g c = λ calls passed.
    let P : LinkState → Type 0 = λ l. Moves
    (moment c.args.self.now (sides (g.W.Wire.reported c.args.port.now) calls passed) c.args.row Outside)
    (moment l (sides (g.W.Wire.reported c.fill.new.port) calls passed) 0 Outside) 1 in
    subst P (sym c.close.ensures) (reads_over c.args.self.now c.fill.new.self c.requires.1 c.requires.0 _ _ calls passed c.args.row
    c.in-End.ensures.reported)

pub returns-then-row-lt-MOST_INTERRUPTIONS-clause-moves : goal.returns-then-row-lt-MOST_INTERRUPTIONS-clause-moves
returns-then-row-lt-MOST_INTERRUPTIONS-clause-moves g c = λ calls passed. reads_again c.args.self.now _ c.requires.1 c.requires.0 _ _ calls
    passed c.args.row c.in-Interrupted.ensures.left c.if-row-lt-MOST_INTERRUPTIONS.true c.in-Interrupted.ensures.reported

pub returns-else-row-lt-MOST_INTERRUPTIONS-clause-moves : goal.returns-else-row-lt-MOST_INTERRUPTIONS-clause-moves
returns-else-row-lt-MOST_INTERRUPTIONS-clause-moves g c = λ calls passed.
    let P : LinkState → Type 0 = λ l. Moves
    (moment c.args.self.now (sides (g.W.Wire.reported c.args.port.now) calls passed) c.args.row Outside)
    (moment l (sides (g.W.Wire.reported c.fill.new.port) calls passed) 0 Outside) 1 in
    let many : c.args.row ≡ most_interruptions = omega arith in
    subst P (sym c.close-in-Interrupted.ensures)
    (reads_impatient c.args.self.now c.fill.new.self c.requires.1 c.requires.0 _ _ calls passed c.args.row many
    c.in-Interrupted.ensures.reported)

pub returns-in-Block-clause-moves : goal.returns-in-Block-clause-moves
returns-in-Block-clause-moves g c = λ calls passed. reads_blocked c.args.self.now _ c.requires.1 c.requires.0 _ _ calls passed c.args.row
    c.in-Block.ensures.left c.in-Block.ensures.reported

pub returns-in-Fault-clause-moves : goal.returns-in-Fault-clause-moves
returns-in-Fault-clause-moves g c = λ calls passed.
    let P : LinkState → Type 0 = λ l. Moves
    (moment c.args.self.now (sides (g.W.Wire.reported c.args.port.now) calls passed) c.args.row Outside)
    (moment l (sides (g.W.Wire.reported c.fill.new.port) calls passed) 0 Outside) 1 in
    subst P (sym c.close-in-Fault.ensures)
    (reads_failed c.args.self.now c.fill.new.self c.requires.1 c.requires.0 _ _ calls passed c.args.row c.in-Fault.ensures.reported)
