-- The happenings of a call of `serve`, in their order.
use Rattle.std.specs.Prelude.{◌≡◌, ℕ, ◌==◌, List, [], ◌∷◌, ◌++◌, Option, Some, None, Result, Ok}
use Rattle.std.specs.Prelude.{Err, if◌then◌else◌, filter_map, fold}
use Rattle.dmr_wire.specs.Answers.{Answer, Came, InputEnded, ReadInterrupted, ReadBlocked}
use Rattle.dmr_wire.specs.Answers.{ReadFailed}
use Rattle.dmr_link.specs.declared.desk.Deposit.{Deposit}
use Rattle.dmr_link.specs.declared.ended.Ended.{Ended}
use Rattle.dmr_link.specs.declared.ended.Ended.TheVariants as ended
use Rattle.dmr_link.specs.Passages.{Passage, Entered, Shut, Left}

-- a port answers, a desk takes an event, or a gate is passed
pub data Happening : Type 0 where
  Answered : (answer : Answer) → Happening
  Deposited : (deposit : Deposit) → Happening
  Passed : (passage : Passage) → Happening

-- the answer of the port, if the happening is one
abbrev pub port_answer : Happening → Option Answer
port_answer (Answered a) = Some a
port_answer (Deposited d) = None
port_answer (Passed p) = None

-- the event that the desk took, if the happening is one
abbrev pub desk_deposit : Happening → Option Deposit
desk_deposit (Answered a) = None
desk_deposit (Deposited d) = Some d
desk_deposit (Passed p) = None

-- the passage of the gate, if the happening is one
abbrev pub gate_passage : Happening → Option Passage
gate_passage (Answered a) = None
gate_passage (Deposited d) = None
gate_passage (Passed p) = Some p

-- the answers of the port among happenings
abbrev pub answers_in : List Happening → List Answer
answers_in happened = filter_map port_answer happened

-- the events that the desk took among happenings, with their answers
abbrev pub deposits_in : List Happening → List Deposit
deposits_in happened = filter_map desk_deposit happened

-- the passages of the gate among happenings
abbrev pub passages_in : List Happening → List Passage
passages_in happened = filter_map gate_passage happened

-- 1 for an answer to a read, else 0
abbrev pub is_read : Answer → ℕ
is_read (Came octets) = 1
is_read InputEnded = 1
is_read ReadInterrupted = 1
is_read ReadBlocked = 1
is_read ReadFailed = 1
is_read other = 0

-- ---- their order

-- the stage of a call of `serve`, by which the order of its happenings is defined. `Outside`: outside the gate.
-- `Within`: within it, with an event to hand in. `Answering`: within it, after the desk took the event. `TurnedAway`:
-- it left the gate, and the desk took no event. `ShutOut`: before a shut gate. `Blocked`: after a read that would
-- block. `Disordered`: out of order
pub data Stage : Type 0 where
  Outside : Stage
  Within : Stage
  Answering : Stage
  TurnedAway : Stage
  ShutOut : Stage
  Blocked : Stage
  Disordered : Stage

-- the stage after a happening outside the gate. There the call reads, and writes the answers to notices for the peer
-- alone; a read that would block is the last
abbrev pub outside_then : Happening → Stage
outside_then (Answered ReadBlocked) = Blocked
outside_then (Answered a) = Outside
outside_then (Deposited d) = Disordered
outside_then (Passed Entered) = Within
outside_then (Passed Shut) = ShutOut
outside_then (Passed Left) = Disordered

-- the stage after a happening within the gate: the call hands in the event, or leaves if the desk refuses it
abbrev pub within_then : Happening → Stage
within_then (Answered a) = Disordered
within_then (Deposited d) = Answering
within_then (Passed Entered) = Disordered
within_then (Passed Shut) = Disordered
within_then (Passed Left) = TurnedAway

-- the stage after a happening when the desk has taken the event: the call writes the answer, and leaves
abbrev pub answering_then : Happening → Stage
answering_then (Answered a) = if is_read a == 0 then Answering else Disordered
answering_then (Deposited d) = Disordered
answering_then (Passed Entered) = Disordered
answering_then (Passed Shut) = Disordered
answering_then (Passed Left) = Outside

-- the stage after a happening
abbrev pub stage_then : Stage → Happening → Stage
stage_then Outside x = outside_then x
stage_then Within x = within_then x
stage_then Answering x = answering_then x
stage_then other x = Disordered

-- the stage after happenings, one after another
abbrev pub stage_after_all : Stage → List Happening → Stage
stage_after_all stage happened = fold stage_then stage happened

-- the stage of a call that ends with this result
abbrev pub stage_at : Ended → Stage
stage_at ended.TermOver = TurnedAway
stage_at ended.GateShut = ShutOut
stage_at ended.Idle = Blocked
stage_at other = Outside

-- the stage after a step of a call, which stopped the call or did not
abbrev pub stage_after : {X : Type 0} → Result X Ended → Stage
stage_after (Ok done) = Outside
stage_after (Err stop) = stage_at stop

-- the passages of the gate in a call that ends with this result, and in which the desk took these events. The gate is
-- entered and left for each of them, and for an event that the desk refused. If it was shut, that is the last passage
abbrev pub passages_of : List Deposit → Ended → List Passage
passages_of [] ended.TermOver = Entered ∷ Left ∷ []
passages_of [] ended.GateShut = Shut ∷ []
passages_of [] other = []
passages_of (d ∷ ds) stop = Entered ∷ Left ∷ passages_of ds stop

-- the last answer is that a read would block
abbrev pub EndsInBlock : List Answer → Type 0
EndsInBlock answers = (front : List Answer) × (answers ≡ front ++ ReadBlocked ∷ [])
