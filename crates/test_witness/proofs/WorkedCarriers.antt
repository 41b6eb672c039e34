-- The steps of the worked term's workers.
use Rattle.std.proofs.Common.{◌≡◌, ℕ, true, false, List, [], ◌∷◌, ◌++◌, Some, None, refl, sym, arith}
use Rattle.std.proofs.lemmas.List.{append-nil}
use Rattle.std.proofs.lemmas.Option.{same_Some, none-some}
use Rattle.dmr_core.specs.declared.event.Event.TheVariants.{Lost, Poll, Up}
use Rattle.dmr_frames.specs.declared.frame.Cause.TheVariants.{UnknownType}
use Rattle.dmr_frames.specs.declared.version.Version.TheVariants.{V1}
use Rattle.dmr_wire.specs.Answers.{Answer, Came, Finished, ReadBlocked, Reports, Took}
use Rattle.dmr_link.specs.declared.ended.Ended.TheVariants.{Idle, BadFrame}
use Rattle.dmr_link.specs.declared.link_state.LinkState.{LinkState}
use Rattle.dmr_link.specs.declared.notices.SiteNotice.TheVariants as site
use Rattle.dmr_link.specs.declared.stream.Peer.{Peer}
use Rattle.dmr_link.specs.declared.stream.Peer.TheVariants.{Carrier, Operator}
use Rattle.dmr_link.specs.Happenings.{Happening, Answered, Deposited, Passed, answers_in}
use Rattle.dmr_link.specs.Notices.{Accepted, Happened}
use Rattle.dmr_link.specs.Passages.{Entered, Left, Passage, Passes}
use Rattle.dmr_link.specs.Sessions.{CutAfter, HasPast, IsLeftBy, IsOver, KeepsTurns, Session, new_session, progress_after_answers}
use Rattle.dmr_link.specs.Sessions.{progress_at}
use Rattle.dmr_desk.specs.declared.ending.Ending.TheVariants as ending
use Rattle.dmr_desk.specs.Term.{HasWorked}
use Rattle.dmr_desk.specs.Views.{view_of}
use Rattle.dmr_desk.specs.Work.{IsCall, IsOrderly, deposits_of_sessions, past_after, station_state}
use Rattle.test_witness.specs.Worked.{bad_octet, carrier_0, carrier_1, cut_link, deposit, done, faulty_link, hello_0, hello_1, journal}
use Rattle.test_witness.specs.Worked.{new_link, passages, poll, record_0, record_1, steps_0, steps_1, steps_of_console, welcome}
use Rattle.test_witness.proofs.WorkedLinks.{IsDone, closes_fault_1, going_session, goes_0, goes_hello_1, goes_poll_1, idle_going}
use Rattle.test_witness.proofs.WorkedLinks.{left_fault_1, means_cut_0, means_fault_1, means_hello_0, means_hello_1, means_poll_1, new_over}
use Rattle.test_witness.proofs.WorkedLinks.{nothing_0, nothing_1, of_newest, opens_0, opens_1, were_served, whole_going}

-- ---- records that were empty at the start, and a gate without one

all_reported : (answers : List Answer) → Reports (Some []) answers (Some answers)
all_reported answers = record { follows = λ whole told. ([], refl, sym (same_Some answers whole told)) }

all_passed : (passages : List Passage) → Passes (Some []) passages (Some passages)
all_passed passages = record { follows = λ whole told. ([], refl, sym (same_Some passages whole told)) }

no_gate : Passes None [] None
no_gate = record { follows = λ whole told. absurd (none-some whole told) }

-- ---- carrier 0

abbrev who_0 : Peer
who_0 = Carrier carrier_0

none_done_0 : IsDone who_0 [] [] []
none_done_0 = record { events = refl; text = refl; next = refl }

up_done_0 : IsDone who_0 (Accepted 0 V1 ∷ []) welcome (deposit (Up 0) ∷ [])
up_done_0 = record { events = refl; text = refl; next = refl }

abbrev call_0 : List Happening
call_0 = Answered (Came hello_0) ∷ Passed Entered ∷ Deposited (deposit (Up 0)) ∷ Answered
    (Took welcome) ∷ Passed Left ∷ Answered ReadBlocked ∷ []

turns_0 : KeepsTurns who_0 (progress_at new_session 0) call_0
turns_0 =
    let idle_at_first = idle_going who_0 [] opens_0 [] [] [] nothing_0 none_done_0 in
    let up = whole_going who_0 hello_0 goes_0 [] (Some (site.Accepted 0 V1)) [] [] [] means_hello_0 none_done_0 in
    let welcomed = whole_going who_0 hello_0 goes_0 [] None (Accepted 0 V1 ∷ []) welcome (deposit (Up 0) ∷ []) means_hello_0 up_done_0 in
    let idle = idle_going who_0 hello_0 goes_0 (Accepted 0 V1 ∷ []) welcome (deposit (Up 0) ∷ []) means_hello_0 up_done_0 in (
      (refl, refl),
      (λ reads. idle_at_first),
      (up, ((refl, refl), (λ reads. absurd (omega arith)), (welcomed, ((refl, refl), (λ reads. idle), tt)))),
    )

called_0 : (past : List Session) → IsCall who_0 (new_session ∷ past) call_0 Idle
called_0 past = record {
  wire = (refl, (refl, (refl, tt)));
  few = omega arith;
  order = refl;
  passages = refl;
  turns = λ s ss same. of_newest (λ x. KeepsTurns who_0 (progress_at x 0) call_0) new_session s past ss same turns_0;
  rested = λ s ss same. of_newest (λ x. (progress_after_answers (progress_at x 0) (answers_in call_0)).writing ≡ 0) new_session s past ss
      same refl;
  stops = (Came hello_0 ∷ Took welcome ∷ [], refl);
}

abbrev cut_session_0 : Session
cut_session_0 = record {
  came = hello_0;
  taken = welcome;
  how = CutAfter 6 false;
  is_cut = true;
  calls = deposit (Up 0) ∷ deposit (Lost 0) ∷ [];
}

left_cut_0 : IsLeftBy cut_link cut_session_0
left_cut_0 = record {
  read = hello_0;
  behind = [];
  done = Accepted 0 V1 ∷ Happened (Lost 0) ∷ [];
  came = refl;
  means = means_cut_0;
  events = refl;
  taken = refl;
  place = (refl, refl, refl, refl);
  cut = refl;
  why = λ closed. refl;
}

over_0 : IsOver cut_link
over_0 = record { connection = refl; kept = refl; lost = refl }

past_0 : (past : List Session) → HasPast (new_link who_0) past → HasPast cut_link (past_after past steps_0)
past_0 past has = (left_cut_0, were_served who_0 past has)

orderly_0 : (past : List Session) → HasPast (new_link who_0) past → IsOrderly who_0 past steps_0
orderly_0 past has =
    (tt, (cut_link, over_0, past_0 past has), (tt, tt, (called_0 past, tt, (tt, (new_link who_0, new_over who_0, has), tt))))

pub worked_0 : HasWorked (station_state (new_link (Carrier carrier_0)) (Some []) (Some []))
    (station_state cut_link (Some record_0) (Some (passages 1))) (view_of 0 journal) ending.Finished
worked_0 = (
  steps_0,
  record {
    who = refl;
    happens = record { port = all_reported record_0; desk = refl; gate = all_passed (passages 1) };
    stands = past_0;
    view = λ past has. refl;
    orderly = orderly_0;
  },
  (tt, over_0),
  tt,
)

-- ---- carrier 1

abbrev who_1 : Peer
who_1 = Carrier carrier_1

none_done_1 : IsDone who_1 [] [] []
none_done_1 = record { events = refl; text = refl; next = refl }

up_done_1 : IsDone who_1 (Accepted 1 V1 ∷ []) welcome (deposit (Up 1) ∷ [])
up_done_1 = record { events = refl; text = refl; next = refl }

poll_done_1 : IsDone who_1 (Accepted 1 V1 ∷ Happened (Poll 1) ∷ []) (welcome ++ done) (deposit (Up 1) ∷ deposit (Poll 1) ∷ [])
poll_done_1 = record { events = refl; text = refl; next = refl }

abbrev call_1 : List Happening
call_1 = Answered (Came (hello_1 ++ poll)) ∷ Passed Entered ∷ Deposited (deposit (Up 1)) ∷ Answered
    (Took welcome) ∷ Passed Left ∷ Passed Entered ∷ Deposited (deposit (Poll 1)) ∷ Answered (Took done) ∷ Passed Left
    ∷ Answered (Came (bad_octet ∷ [])) ∷ Passed Entered ∷ Deposited (deposit (Lost 1)) ∷ Passed Left ∷ []

abbrev whole_1 : List ℕ
whole_1 = (hello_1 ++ poll) ++ bad_octet ∷ []

-- the link before the desk took the Lost
abbrev lost_kept_1 : LinkState
lost_kept_1 = record faulty_link { pending = record { kept = Some (site.Happened (Lost 1)); lost = None } }

left_lost_kept_1 : IsLeftBy lost_kept_1 (going_session whole_1 (welcome ++ done) (deposit (Up 1) ∷ deposit (Poll 1) ∷ []))
left_lost_kept_1 = record {
  read = whole_1;
  behind = [];
  done = Accepted 1 V1 ∷ Happened (Poll 1) ∷ [];
  came = refl;
  means = means_fault_1;
  events = refl;
  taken = refl;
  place = (refl, left_fault_1, refl, refl);
  cut = refl;
  why = λ closed. closes_fault_1;
}

abbrev faulty_session : Session
faulty_session = going_session whole_1 (welcome ++ done) (deposit (Up 1) ∷ deposit (Poll 1) ∷ deposit (Lost 1) ∷ [])

left_faulty : IsLeftBy faulty_link faulty_session
left_faulty = record {
  read = whole_1;
  behind = [];
  done = Accepted 1 V1 ∷ Happened (Poll 1) ∷ Happened (Lost 1) ∷ [];
  came = refl;
  means = means_fault_1;
  events = refl;
  taken = refl;
  place = (refl, left_fault_1, refl, refl);
  cut = refl;
  why = λ closed. closes_fault_1;
}

turns_1 : KeepsTurns who_1 (progress_at new_session 0) call_1
turns_1 =
    let idle_at_first = idle_going who_1 [] opens_1 [] [] [] nothing_1 none_done_1 in
    let up = whole_going who_1 hello_1 goes_hello_1 poll (Some (site.Accepted 1 V1)) [] [] [] means_hello_1 none_done_1 in
    let welcomed =
    whole_going who_1 hello_1 goes_hello_1 poll None (Accepted 1 V1 ∷ []) welcome (deposit (Up 1) ∷ []) means_hello_1 up_done_1 in
    let polled = whole_going who_1 (hello_1 ++ poll) goes_poll_1 [] (Some (site.Happened (Poll 1))) (Accepted 1 V1 ∷ []) welcome
    (deposit (Up 1) ∷ []) means_poll_1 up_done_1 in
    let answered = whole_going who_1 (hello_1 ++ poll) goes_poll_1 [] None (Accepted 1 V1 ∷ Happened (Poll 1) ∷ []) (welcome ++ done)
    (deposit (Up 1) ∷ deposit (Poll 1) ∷ []) means_poll_1 poll_done_1 in
    let idle = idle_going who_1 (hello_1 ++ poll) goes_poll_1 (Accepted 1 V1 ∷ Happened (Poll 1) ∷ []) (welcome ++ done)
    (deposit (Up 1) ∷ deposit (Poll 1) ∷ []) means_poll_1 poll_done_1 in (
      (refl, refl),
      (λ reads. idle_at_first),
      (
        up,
        (
          (refl, refl),
          (λ reads. absurd (omega arith)),
          (
            welcomed,
            (
              polled,
              (
                (refl, refl),
                (λ reads. absurd (omega arith)),
                (
                  answered,
                  (
                    (refl, refl),
                    (λ reads. idle),
                    ((lost_kept_1, refl, left_lost_kept_1), ((faulty_link, refl, left_faulty), tt)),
                  ),
                ),
              ),
            ),
          ),
        ),
      ),
    )

called_1 : (past : List Session) → IsCall who_1 (new_session ∷ past) call_1 (BadFrame UnknownType)
called_1 past = record {
  wire = (refl, (refl, (refl, (refl, tt))));
  few = omega arith;
  order = refl;
  passages = refl;
  turns = λ s ss same. of_newest (λ x. KeepsTurns who_1 (progress_at x 0) call_1) new_session s past ss same turns_1;
  rested = λ s ss same. of_newest (λ x. (progress_after_answers (progress_at x 0) (answers_in call_1)).writing ≡ 0) new_session s past ss
      same refl;
  stops = tt;
}

over_1 : IsOver faulty_link
over_1 = record { connection = refl; kept = refl; lost = refl }

past_1 : (past : List Session) → HasPast (new_link who_1) past → HasPast faulty_link (past_after past steps_1)
past_1 past has = (left_faulty, were_served who_1 past has)

orderly_1 : (past : List Session) → HasPast (new_link who_1) past → IsOrderly who_1 past steps_1
orderly_1 past has = (tt, (faulty_link, over_1, past_1 past has), (called_1 past, tt, (tt, (new_link who_1, new_over who_1, has), tt)))

pub worked_1 : HasWorked (station_state (new_link (Carrier carrier_1)) (Some []) (Some []))
    (station_state faulty_link (Some record_1) (Some (passages 3))) (view_of 1 journal) ending.Finished
worked_1 = (
  steps_1,
  record {
    who = refl;
    happens = record { port = all_reported record_1; desk = refl; gate = all_passed (passages 3) };
    stands = past_1;
    view = λ past has. refl;
    orderly = orderly_1;
  },
  (tt, over_1),
  tt,
)

-- ---- the operators' link

orderly_console : (past : List Session) → HasPast (new_link Operator) past → IsOrderly Operator past steps_of_console
orderly_console past has = (tt, (new_link Operator, new_over Operator, has), tt)

pub worked_console : HasWorked (station_state (new_link Operator) (Some []) None)
    (station_state (new_link Operator) (Some (Finished ∷ [])) None) (view_of 3 journal) ending.Finished
worked_console = (
  steps_of_console,
  record {
    who = refl;
    happens = record { port = all_reported (Finished ∷ []); desk = refl; gate = no_gate };
    stands = λ past has. has;
    view = λ past has. sym (append-nil (deposits_of_sessions past));
    orderly = orderly_console;
  },
  (tt, new_over Operator),
  tt,
)
