-- Steps of a call that read nothing, one after another.
use Rattle.std.proofs.Common.{◌≡◌, ℕ, refl, sym, ap, subst, ◌∙◌}
use Rattle.std.specs.Prelude.{Result, Ok, Err, IsErr, IsErrAnd}
use Rattle.dmr_wire.specs.declared.wire.Wire.{Ghosts as Wire}
use Rattle.dmr_link.specs.declared.desk.Desk.{Ghosts as Desk}
use Rattle.dmr_link.specs.declared.desk.Gate.{Ghosts as Gate}
use Rattle.dmr_link.specs.declared.ended.Ended.{Ended}
use Rattle.dmr_link.specs.declared.ended.Ended.TheVariants as ended
use Rattle.dmr_link.specs.declared.link_state.LinkState.{LinkState}
use Rattle.dmr_link.specs.Desks.{KeepsDesk}
use Rattle.dmr_link.specs.Happenings.{Outside, Stage, stage_after, stage_at}
use Rattle.dmr_link.specs.LinkSteps.{HasReason, IsHeld, IsSettled, IsStop, Steps, moment_of}
use Rattle.dmr_link.specs.Moves.{Moment, Moves, moment}
use Rattle.dmr_link.specs.Sessions.{Sides}
use Rattle.dmr_link.proofs.StepsFollow.{moves_none, moves_on}

pub keeps_same : {D : Type 0} {its : Desk D} {d : D} → KeepsDesk its d d
keeps_same = record { actor = refl; questions = refl }

pub keeps_on : {D : Type 0} {its : Desk D} {d e f : D} → KeepsDesk its d e → KeepsDesk its e f → KeepsDesk its d f
keeps_on first second = record {
  actor = second.actor ∙ first.actor;
  questions = second.questions ∙ first.questions;
}

-- the link and its port have moved, without desk and gate
pub steps_taken : {W D G : Type 0} {wire : Wire W} {its : Desk D} {gating : Gate G} {l m : LinkState} {p q : W} {d : D} {g : G} →
    Moves (moment_of wire its gating l p d g 0 Outside) (moment_of wire its gating m q d g 0 Outside) 0 →
    Steps {X = Unit {0}} wire its gating l p d g m q d g (Ok tt)
steps_taken moves = record { keeps = keeps_same; moves = moves; why = tt }

pub steps_none : {W D G : Type 0} {wire : Wire W} {its : Desk D} {gating : Gate G} {l : LinkState} {p : W} {d : D} {g : G} →
    Steps {X = Unit {0}} wire its gating l p d g l p d g (Ok tt)
steps_none = steps_taken (moves_none _)

pub steps_on : {W D G X Y : Type 0} {wire : Wire W} {its : Desk D} {gating : Gate G} {a b c : LinkState} {p q r : W} {d e f : D}
    {g h i : G} {done : X} {result : Result Y Ended} → Steps {X = X} wire its gating a p d g b q e h (Ok done) →
    Steps wire its gating b q e h c r f i result → Steps wire its gating a p d g c r f i result
steps_on first second = record {
  keeps = keeps_on first.keeps second.keeps;
  moves = moves_on _ _ _ _ first.moves second.moves;
  why = second.why;
}

-- ---- a step stops for the reason that stopped a step within it

passed_on : {X : Type 0} (result : Result X Ended) (stop : Ended) → IsErr result × IsErrAnd result (λ e. e ≡ stop) →
    stage_at stop ≡ stage_after result
passed_on (Ok done) stop h = absurd h.1
passed_on (Err e) stop h = ap stage_at (sym h.1)

pub steps_passed_on : {W D G X Y : Type 0} {wire : Wire W} {its : Desk D} {gating : Gate G} {a b : LinkState} {p q : W} {d e : D}
    {g h : G} (result : Result Y Ended) (stop : Ended) → IsErr result × IsErrAnd result (λ other. other ≡ stop) →
    Steps {X = X} wire its gating a p d g b q e h (Err stop) → Steps wire its gating a p d g b q e h result
steps_passed_on (Ok done) stop is step = absurd is.1
steps_passed_on {Y = Y} {its = its} {gating = gating} {e = e} {h = h} (Err other) stop is step =
    let P : Ended → Type 0 = HasReason its e gating h in
    record {
      keeps = step.keeps;
      moves = moved_on (passed_on {X = Y} (Err other) stop is) step.moves;
      why = subst P (sym is.1) step.why;
    }
  where
    moved_on : {from : Moment} {l : LinkState} {x : Sides} {row reads : ℕ} {s t : Stage} → s ≡ t →
        Moves from (moment l x row s) reads → Moves from (moment l x row t) reads
    moved_on {from} {l} {x} {row} {reads} same moves =
        let P : Stage → Type 0 = λ later. Moves from (moment l x row later) reads in
        subst P same moves

-- an event that could not be handed in stops a step
held_stops : (P : Type 0) (stop : Ended) (l : LinkState) → IsHeld {X = Unit {0}} (Err stop) l P → IsStop stop l
held_stops P ended.TermOver l held = held
held_stops P ended.GateShut l held = held
held_stops P ended.Closed l held = absurd held
held_stops P ended.ReadFault l held = absurd held
held_stops P ended.WriteFault l held = absurd held
held_stops P (ended.BadFrame why) l held = absurd held
held_stops P ended.Idle l held = absurd held
held_stops P ended.Paused l held = absurd held

pub held_settles : {Y : Type 0} (P : Type 0) (result : Result Y Ended) (stop : Ended) (l : LinkState) →
    IsErr result × IsErrAnd result (λ other. other ≡ stop) → IsHeld {X = Unit {0}} (Err stop) l P → IsSettled result l
held_settles P (Ok done) stop l is held = absurd is.1
held_settles P (Err other) stop l is held =
    let Q : Ended → Type 0 = λ e. IsStop e l in
    subst Q (sym is.1) (held_stops P stop l held)
