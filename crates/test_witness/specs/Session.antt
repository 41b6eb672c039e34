-- A whole session of a peer of a site, as the record of its port alone has it.
use Rattle.std.specs.Prelude.{◌≡◌, List, [], Some, map}
use Rattle.dmr_wire.specs.Answers.{Answer}
use Rattle.dmr_link.specs.declared.desk.Deposit.{Deposit}
use Rattle.dmr_link.specs.Happenings.{answers_in, passages_in}
use Rattle.dmr_link.specs.Passages.{Passage}
use Rattle.dmr_link.specs.Sessions.{HasPast}
use Rattle.dmr_desk.specs.Meaning.{IsOneMeaning, in_record, read_on}
use Rattle.dmr_desk.specs.Work.{IsOrderly, StationState, Step, deposits_of_sessions, happened_of}
use Rattle.dmr_desk.specs.Work.{past_after}

-- a station at which nothing has happened: its link has had no connection, and the records of its port and its gate are
-- empty; a gate may report none
pub record IsNewStation (s : StationState) : Type 0 where
  pub link : HasPast s.link []
  pub reported : s.reported ≡ Some []
  pub passed : (passages : List Passage) → s.passed ≡ Some passages → passages ≡ []

-- A WHOLE SESSION: from a new station to this state, the worker made these steps, each in its place. The record of its
-- port is what the port answered in them. The connections follow from this record alone. The desk took this view of
-- them. What came on them means the events of the view, in its order, and then what is pending. Each connection took
-- the text of its own part, or the first part of it. If the gate has a record, it is how the gate was passed in the
-- steps
pub record IsWholeSession (t : StationState) (answers : List Answer)
    (view : List Deposit) : Type 0 where
  pub steps : List Step
  pub orderly : IsOrderly t.link.who [] steps
  pub answered : answers ≡ answers_in (happened_of steps)
  pub connections : map in_record (past_after [] steps) ≡ read_on [] answers
  pub deposits : deposits_of_sessions (past_after [] steps) ≡ view
  pub means : IsOneMeaning t.link (past_after [] steps)
  pub passed : (passages : List Passage) → t.passed ≡ Some passages
      → passages ≡ passages_in (happened_of steps)
