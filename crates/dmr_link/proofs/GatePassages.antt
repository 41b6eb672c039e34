-- The passages of a gate in a call whose happenings are in order.
use Rattle.std.proofs.Common.{◌≡◌, ◌==◌, List, [], ◌∷◌, Bool, true, false, cond, refl, sym, ap, subst, ◌∙◌}
use Rattle.dmr_wire.specs.Answers.{Opened, NotYet, Finished, Came, InputEnded, ReadInterrupted, ReadBlocked, ReadFailed, Took}
use Rattle.dmr_wire.specs.Answers.{WriteInterrupted, WriteBlocked, WriteFailed, Again, Silent}
use Rattle.dmr_link.specs.declared.desk.Deposit.{Deposit}
use Rattle.dmr_link.specs.declared.ended.Ended.{Ended}
use Rattle.dmr_link.specs.declared.ended.Ended.TheVariants as ended
use Rattle.dmr_link.specs.Passages.{Passage, Entered, Shut, Left}
use Rattle.dmr_link.specs.Happenings.{Happening, Answered, Deposited, Passed, deposits_in, passages_in, is_read, Stage, Outside, Within}
use Rattle.dmr_link.specs.Happenings.{Answering, TurnedAway, ShutOut, Blocked, Disordered, stage_then, stage_after_all, stage_at}
use Rattle.dmr_link.specs.Happenings.{passages_of}

stays_disordered : (xs : List Happening) → stage_after_all Disordered xs ≡ Disordered
stays_disordered [] = refl
stays_disordered (x ∷ xs) = stays_disordered xs

not_disordered : (stop : Ended) → Disordered ≡ stage_at stop → ⊥
not_disordered ended.Closed e = cc
not_disordered ended.ReadFault e = cc
not_disordered ended.WriteFault e = cc
not_disordered (ended.BadFrame why) e = cc
not_disordered ended.TermOver e = cc
not_disordered ended.Idle e = cc
not_disordered ended.Paused e = cc
not_disordered ended.GateShut e = cc

-- the passages of the gate from a stage on
abbrev IsPassed : Stage → List Happening → Ended → Type 0
IsPassed Outside xs stop = passages_in xs ≡ passages_of (deposits_in xs) stop
IsPassed Within xs stop = Entered ∷ passages_in xs ≡ passages_of (deposits_in xs) stop
IsPassed Answering xs stop = (d : Deposit) → Entered ∷ passages_in xs ≡ passages_of (d ∷ deposits_in xs) stop
IsPassed TurnedAway xs stop = Entered ∷ Left ∷ passages_in xs ≡ passages_of (deposits_in xs) stop
IsPassed ShutOut xs stop = Shut ∷ passages_in xs ≡ passages_of (deposits_in xs) stop
IsPassed Blocked xs stop = passages_in xs ≡ passages_of (deposits_in xs) stop
IsPassed Disordered xs stop = Unit {0}

passed_end : (stop : Ended) → IsPassed (stage_at stop) [] stop
passed_end ended.Closed = refl
passed_end ended.ReadFault = refl
passed_end ended.WriteFault = refl
passed_end (ended.BadFrame why) = refl
passed_end ended.TermOver = refl
passed_end ended.Idle = refl
passed_end ended.Paused = refl
passed_end ended.GateShut = refl

module _ (xs : List Happening) (stop : Ended) where
  -- a call that is out of order does not end
  stray : {P : Type 0} → stage_after_all Disordered xs ≡ stage_at stop → P
  stray at = absurd (not_disordered stop (sym (stays_disordered xs) ∙ at))

  passed_outside : (x : Happening) → stage_after_all (stage_then Outside x) xs ≡ stage_at stop → IsPassed (stage_then Outside x) xs stop →
      IsPassed Outside (x ∷ xs) stop
  passed_outside (Answered Opened) at h = h
  passed_outside (Answered NotYet) at h = h
  passed_outside (Answered Finished) at h = h
  passed_outside (Answered (Came octets)) at h = h
  passed_outside (Answered InputEnded) at h = h
  passed_outside (Answered ReadInterrupted) at h = h
  passed_outside (Answered ReadBlocked) at h = h
  passed_outside (Answered ReadFailed) at h = h
  passed_outside (Answered (Took octets)) at h = h
  passed_outside (Answered WriteInterrupted) at h = h
  passed_outside (Answered WriteBlocked) at h = h
  passed_outside (Answered WriteFailed) at h = h
  passed_outside (Answered Again) at h = h
  passed_outside (Answered Silent) at h = h
  passed_outside (Deposited d) at h = stray at
  passed_outside (Passed Entered) at h = h
  passed_outside (Passed Shut) at h = h
  passed_outside (Passed Left) at h = stray at

  passed_within : (x : Happening) → stage_after_all (stage_then Within x) xs ≡ stage_at stop → IsPassed (stage_then Within x) xs stop →
      IsPassed Within (x ∷ xs) stop
  passed_within (Answered a) at h = stray at
  passed_within (Deposited d) at h = h d
  passed_within (Passed Entered) at h = stray at
  passed_within (Passed Shut) at h = stray at
  passed_within (Passed Left) at h = h

  written : (b : Bool) → stage_after_all (cond b Answering Disordered) xs ≡ stage_at stop → IsPassed (cond b Answering Disordered) xs stop →
      IsPassed Answering xs stop
  written true at h = h
  written false at h = stray at

  passed_answering : (x : Happening) → stage_after_all (stage_then Answering x) xs ≡ stage_at stop →
      IsPassed (stage_then Answering x) xs stop → IsPassed Answering (x ∷ xs) stop
  passed_answering (Answered a) at h = written (is_read a == 0) at h
  passed_answering (Deposited d) at h = stray at
  passed_answering (Passed Entered) at h = stray at
  passed_answering (Passed Shut) at h = stray at
  passed_answering (Passed Left) at h = λ d. ap (λ (ps : List Passage). Entered ∷ Left ∷ ps) h

  passed_step : (stage : Stage) (x : Happening) → stage_after_all (stage_then stage x) xs ≡ stage_at stop →
      IsPassed (stage_then stage x) xs stop → IsPassed stage (x ∷ xs) stop
  passed_step Outside x at h = passed_outside x at h
  passed_step Within x at h = passed_within x at h
  passed_step Answering x at h = passed_answering x at h
  passed_step TurnedAway x at h = stray at
  passed_step ShutOut x at h = stray at
  passed_step Blocked x at h = stray at
  passed_step Disordered x at h = stray at

passed_from : (xs : List Happening) (stage : Stage) (stop : Ended) → stage_after_all stage xs ≡ stage_at stop → IsPassed stage xs stop
passed_from [] stage stop at = let P : Stage → Type 0 = λ s. IsPassed s [] stop in subst P (sym at) (passed_end stop)
passed_from (x ∷ xs) stage stop at = passed_step xs stop stage x at (passed_from xs (stage_then stage x) stop at)

pub gate_passed : (xs : List Happening) (stop : Ended) → stage_after_all Outside xs ≡ stage_at stop →
    passages_in xs ≡ passages_of (deposits_in xs) stop
gate_passed xs stop at = passed_from xs Outside stop at
