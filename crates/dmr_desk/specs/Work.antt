-- The steps of a link's worker: a carrier's, or the operators'.
use Rattle.std.specs.Prelude.{◌≡◌, ◌≤◌, ◌+◌, ◌⊎◌, ℕ, true, List, [], ◌∷◌, ◌++◌, Option, Some, None}
use Rattle.std.specs.Prelude.{length, map}
use Rattle.dmr_wire.specs.Answers.{Answer, Opened, NotYet, Finished, Again, Silent, Reports}
use Rattle.dmr_link.specs.declared.desk.Deposit.{Deposit}
use Rattle.dmr_link.specs.declared.desk.Desk.{Ghosts as Desk}
use Rattle.dmr_link.specs.Desks.{HasRefused}
use Rattle.dmr_link.specs.declared.ended.Ended.{Ended}
use Rattle.dmr_link.specs.declared.ended.Ended.TheVariants as ended
use Rattle.dmr_link.specs.declared.stream.Peer.{Peer}
use Rattle.dmr_link.specs.declared.link_state.LinkState.{LinkState}
use Rattle.dmr_link.specs.Happenings.{Happening, Answered, Deposited, answers_in, deposits_in}
use Rattle.dmr_link.specs.Happenings.{passages_in, Outside, stage_after_all, stage_at, passages_of}
use Rattle.dmr_link.specs.Happenings.{EndsInBlock}
use Rattle.dmr_link.specs.Limits.{most_reads}
use Rattle.dmr_link.specs.Passages.{Passage}
use Rattle.dmr_link.specs.Questions.{Questioned}
use Rattle.dmr_link.specs.Recorded.{sessions_after_silence}
use Rattle.dmr_link.specs.Sessions.{Session, new_session, with_calls, progress_at}
use Rattle.dmr_link.specs.Sessions.{progress_after_answers, reads_in, AreOfWire, IsQuiet, IsOver}
use Rattle.dmr_link.specs.Sessions.{HasPast, sessions_after, KeepsTurns, Sides, sides, Happens}
use Rattle.dmr_link.specs.LinkSteps.{is_live}
use Rattle.dmr_desk.specs.declared.ending.Ending.{Ending}
use Rattle.dmr_desk.specs.declared.ending.Ending.TheVariants as ending

-- ---- the state of a station

-- the state of a station: its link, and the records that its port and its gate report
pub record StationState : Type 0 where
  pub link : LinkState
  pub reported : Option (List Answer)
  pub passed : Option (List Passage)

-- the state of a station with these three
abbrev pub station_state : LinkState → Option (List Answer) → Option (List Passage) → StationState
station_state link reported passed = record { link = link; reported = reported; passed = passed }

-- a station's state, the desk's deposits so far, and how often the desk was asked whether the term is over. The last is
-- None if the desk does not count the questions
pub record WorkState : Type 0 where
  pub at : StationState
  pub calls : List Deposit
  pub questions : Option ℕ

-- the moment with these three
abbrev pub moment : StationState → List Deposit → Option ℕ → WorkState
moment at calls questions = record { at = at; calls = calls; questions = questions }

-- the moment with this state and these deposits, at a desk that counts no questions
abbrev pub work_state : StationState → List Deposit → WorkState
work_state at calls = moment at calls None

-- the reports of port, desk and gate at that moment
abbrev pub sides_at : StationState → List Deposit → Sides
sides_at at calls = sides at.reported calls at.passed

-- the port gave this answer, and nothing else has changed
pub record Answers (before : StationState) (answer : Answer) (after : StationState) : Type 0 where
  pub reported : Reports before.reported (answer ∷ []) after.reported
  pub link : after.link ≡ before.link
  pub passed : after.passed ≡ before.passed

-- the link changed, but still belongs to the same peer
pub record ChangesLink (before : StationState) (after : StationState) : Type 0 where
  pub who : after.link.who ≡ before.link.who
  pub reported : after.reported ≡ before.reported
  pub passed : after.passed ≡ before.passed

-- ---- steps, newest first

-- a step: a request for a connection, a call of `serve`, or a wait. A call has what happened in it and how it ended; a
-- wait has what the desk took when the link was cut for silence
pub data Step : Type 0 where
  Asked : (answer : Answer) → Step
  Served : (happened : List Happening) (stop : Ended) → Step
  Waited : (answer : Answer) (deposits : List Deposit) → Step

-- what happened in a step
abbrev pub happened_in : Step → List Happening
happened_in (Asked answer) = Answered answer ∷ []
happened_in (Served happened stop) = happened
happened_in (Waited answer deposits) = Answered answer ∷ map Deposited deposits

-- what happened in all steps, oldest first
abbrev pub happened_of : List Step → List Happening
happened_of [] = []
happened_of (d ∷ earlier) = happened_of earlier ++ happened_in d

-- the connections, with these deposits added to the newest
abbrev pub with_newest_deposits : List Session → List Deposit → List Session
with_newest_deposits [] deposits = []
with_newest_deposits (s ∷ ss) deposits = with_calls s deposits ∷ ss

-- the connections after a request for one
abbrev pub sessions_after_ask : List Session → Answer → List Session
sessions_after_ask past Opened = new_session ∷ past
sessions_after_ask past answer = past

-- the connections after a wait
abbrev pub sessions_after_wait : List Session → Answer → List Deposit → List Session
sessions_after_wait past Silent deposits =
    with_newest_deposits (sessions_after_silence past) deposits
sessions_after_wait past answer deposits = past

-- the connections after a step
abbrev pub past_then : List Session → Step → List Session
past_then past (Asked answer) = sessions_after_ask past answer
past_then past (Served happened stop) =
    sessions_after past (answers_in happened) (deposits_in happened)
past_then past (Waited answer deposits) = sessions_after_wait past answer deposits

-- the connections after all steps
abbrev pub past_after : List Session → List Step → List Session
past_after past [] = past
past_after past (d ∷ earlier) = past_then (past_after past earlier) d

-- the deposits of connections, oldest first
abbrev pub deposits_of_sessions : List Session → List Deposit
deposits_of_sessions [] = []
deposits_of_sessions (s ∷ ss) = deposits_of_sessions ss ++ s.calls

-- ---- in order

-- the answers that a port may give to a request for a connection
abbrev pub IsAsk : Answer → Type 0
IsAsk Opened = Unit {0}
IsAsk NotYet = Unit {0}
IsAsk Finished = Unit {0}
IsAsk answer = ⊥

-- the answers that a port may give to a wait; the desk takes events then only if the link was cut for silence
abbrev pub IsWait : Answer → List Deposit → Type 0
IsWait Again deposits = deposits ≡ []
IsWait Silent deposits = Unit {0}
IsWait answer deposits = ⊥

-- no connection is open, and nothing is pending
abbrev pub Rests : List Session → Type 0
Rests past = (link : LinkState) × IsOver link × HasPast link past

-- a call of `serve` may begin at the start, at an opening, after an Again, and after the `most_reads` reads of the call
-- before
abbrev pub MayBeginServe : List Step → Type 0
MayBeginServe [] = Unit {0}
MayBeginServe (Asked Opened ∷ earlier) = Unit {0}
MayBeginServe (Served happened ended.Paused ∷ earlier) = Unit {0}
MayBeginServe (Waited Again deposits ∷ earlier) = Unit {0}
MayBeginServe other = ⊥

-- a wait may follow a call of `serve` that ended at a read that would block
abbrev pub MayWait : List Step → Type 0
MayWait (Served happened ended.Idle ∷ earlier) = Unit {0}
MayWait other = ⊥

-- why a call of `serve` ends, in terms of the port's answers
abbrev pub StopsAt : Ended → List Answer → Type 0
StopsAt ended.Idle answers = EndsInBlock answers
StopsAt ended.Paused answers = reads_in answers ≡ most_reads
StopsAt stop answers = Unit {0}

-- a call of `serve` on these connections of a peer: it only reads and writes, and reads at most `most_reads` times. It
-- passes the gate for each event, and writes an event's answer after the event. It reads and writes connections in
-- their turn, and does not end within a write that was interrupted
pub record IsCall (who : Peer) (past : List Session) (happened : List Happening)
    (stop : Ended) : Type 0 where
  pub wire : AreOfWire (answers_in happened)
  pub few : reads_in (answers_in happened) ≤ most_reads
  pub order : stage_after_all Outside happened ≡ stage_at stop
  pub passages : passages_in happened ≡ passages_of (deposits_in happened) stop
  pub turns : (s : Session) (ss : List Session) → past ≡ s ∷ ss
      → KeepsTurns who (progress_at s 0) happened
  pub rested : (s : Session) (ss : List Session) → past ≡ s ∷ ss
      → (progress_after_answers (progress_at s 0) (answers_in happened)).writing ≡ 0
  pub stops : StopsAt stop (answers_in happened)

-- a worker asks for a connection only if none is open and nothing is pending, begins a call of `serve` only if
-- `MayBeginServe` holds, and waits only if `MayWait` does. So each wait directly follows a read that would block
abbrev pub IsOrderly : Peer → List Session → List Step → Type 0
IsOrderly who past [] = Unit {0}
IsOrderly who past (Asked answer ∷ earlier) =
    IsAsk answer × Rests (past_after past earlier) × IsOrderly who past earlier
IsOrderly who past (Served happened stop ∷ earlier) =
    IsCall who (past_after past earlier) happened stop × MayBeginServe earlier
    × IsOrderly who past earlier
IsOrderly who past (Waited answer deposits ∷ earlier) =
    IsWait answer deposits × MayWait earlier × IsOrderly who past earlier

-- ---- from one moment to another

-- these steps lead from moment `m` to moment `n`: what port, desk and gate report goes on by them, and so do the link's
-- connections
pub record Steps (m : WorkState) (n : WorkState) (steps : List Step) : Type 0 where
  pub who : n.at.link.who ≡ m.at.link.who
  -- the reports of port, desk and gate continue with exactly what happened
  pub happens : Happens (sides_at m.at m.calls) (happened_of steps) (sides_at n.at n.calls)
  -- if connections agreed with the link's state before (`HasPast`), they agree with it after these steps
  pub stands : (past : List Session) → HasPast m.at.link past
      → HasPast n.at.link (past_after past steps)
  -- the desk's deposits in these steps, in one list, are those of these connections since
  pub view : (past : List Session) → HasPast m.at.link past
      → deposits_of_sessions (past_after past steps)
      ≡ deposits_of_sessions past ++ deposits_in (happened_of steps)
  pub orderly : (past : List Session) → HasPast m.at.link past → IsOrderly m.at.link.who past steps

-- the last answer to a request was that there will be no more connections
abbrev pub HasFinished : List Step → Type 0
HasFinished (Asked Finished ∷ earlier) = Unit {0}
HasFinished other = ⊥

-- the last call of `serve` found the gate shut
abbrev pub WasShut : List Step → Type 0
WasShut (Served happened ended.GateShut ∷ earlier) = Unit {0}
WasShut other = ⊥

-- the steps allow this ending; a worker has finished only if no connection is open and nothing is pending
abbrev pub EndsFor : Ending → LinkState → List Step → Type 0
EndsFor ending.Finished link steps = HasFinished steps × IsOver link
EndsFor ending.GateShut link steps = WasShut steps
EndsFor ending.TermOver link steps = Unit {0}

-- the last step met a desk that refused an event: a call of `serve`, or a cut for silence
abbrev pub WasRefused : List Step → Type 0
WasRefused (Served happened ended.TermOver ∷ earlier) = Unit {0}
WasRefused (Waited Silent deposits ∷ earlier) = Unit {0}
WasRefused other = ⊥

-- the desk was asked once for each step. If the term is over, it was asked once more; or else the last step met a
-- refusal. So if the desk returns at the k-th question that the term is over, k - 1 steps were made. The numbers are
-- compared: that each question comes before its step is read in the worker's body
abbrev pub AsksForEach : Option ℕ → List Step → Ending → Option ℕ → Type 0
AsksForEach before steps ending.TermOver after =
    Questioned before (length steps + 1) after
    ⊎ (WasRefused steps × Questioned before (length steps) after)
AsksForEach before steps e after = Questioned before (length steps) after

-- a worker's whole work: steps that lead from `m` to `n` and allow its ending. For each of them the worker asks the desk
-- whether the term is over
abbrev pub WorksUntil : WorkState → WorkState → Ending → Type 0
WorksUntil m n e =
    (steps : List Step) × Steps m n steps × EndsFor e n.at.link steps
    × AsksForEach m.questions steps e n.questions

-- ---- the desk said that the term is over

-- the last that the desk said was that the term is over: it refused an event, or was asked
abbrev pub SaidOver : {D : Type 0} → Desk D → D → Type 0
SaidOver {D = D} its desk = HasRefused its desk ⊎ ((before : D) × its.ends before desk)

-- ---- on the way

-- the work continues, with a call of `serve` or a request for a connection
abbrev pub IsAtWork : WorkState → WorkState → Type 0
IsAtWork m n =
    (steps : List Step) × Steps m n steps × (is_live n.at.link ≡ true → MayBeginServe steps)
    × Questioned m.questions (length steps) n.questions

-- the worker is about to wait
abbrev pub IsAboutToWait : WorkState → WorkState → Type 0
IsAboutToWait m n =
    (steps : List Step) × Steps m n steps × MayWait steps × IsQuiet n.at.link
    × (n.at.link.unread ≡ []) × Questioned m.questions (length steps) n.questions

-- the work continues, or it has ended with this ending
abbrev pub IsNextStep : WorkState → WorkState → Option Ending → Type 0
IsNextStep m n None = IsAtWork m n
IsNextStep m n (Some e) = WorksUntil m n e
