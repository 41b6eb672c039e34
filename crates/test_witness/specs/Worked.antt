-- A term, written out: two carriers, of which one breaks the link's rules, and the other falls silent and is cut.
use Rattle.std.specs.Prelude.{ℕ, zero, suc, true, false, List, [], ◌∷◌, ◌++◌, Some, None}
use Rattle.dmr_plan.specs.declared.settings.Settings.{Settings}
use Rattle.dmr_core.specs.declared.act.Acts.{Acts}
use Rattle.dmr_core.specs.declared.entry.Entry.{Entry}
use Rattle.dmr_core.specs.declared.event.Event.{Event}
use Rattle.dmr_core.specs.declared.event.Event.TheVariants.{Lost, Poll, Tick, Up}
use Rattle.dmr_core.specs.Facts.{no_facts}
use Rattle.dmr_core.specs.State.{SiteState}
use Rattle.dmr_frames.specs.declared.frame.Cause.TheVariants.{UnknownType}
use Rattle.dmr_frames.specs.declared.version.Version.TheVariants.{V1}
use Rattle.dmr_wire.specs.Answers.{Answer, Opened, Came, Took, ReadBlocked, Silent, Finished}
use Rattle.dmr_wire.specs.declared.closing.Closing.TheVariants.{Over, Bad}
use Rattle.dmr_link.specs.declared.connection.CarrierIdentity.{CarrierIdentity}
use Rattle.dmr_link.specs.declared.connection.Connection.TheVariants as connection
use Rattle.dmr_link.specs.declared.desk.Deposit.{Deposit}
use Rattle.dmr_link.specs.declared.ended.Ended.TheVariants.{Idle, BadFrame}
use Rattle.dmr_link.specs.declared.link_state.LinkState.{LinkState}
use Rattle.dmr_link.specs.declared.stream.Peer.{Peer}
use Rattle.dmr_link.specs.declared.stream.Peer.TheVariants.{Carrier, Operator}
use Rattle.dmr_link.specs.declared.stream.Stream.TheVariants as stream
use Rattle.dmr_link.specs.CarrierStates.{state_on}
use Rattle.dmr_link.specs.Happenings.{Answered, Deposited, Passed}
use Rattle.dmr_link.specs.LinkSteps.{nothing_pending}
use Rattle.dmr_link.specs.Passages.{Passage, Entered, Left}
use Rattle.dmr_desk.specs.declared.ending.Ending.TheVariants as ending
use Rattle.dmr_desk.specs.Term.{Start, End}
use Rattle.dmr_desk.specs.BookState.{site_after_entries}
use Rattle.dmr_desk.specs.Views.{view_of}
use Rattle.dmr_desk.specs.Work.{Step, Asked, Served, Waited, station_state}

-- ---- the site: carriers 0 and 1, of which 0 has the control channel. Its other settings may be any

abbrev pub plan : Settings → Settings
plan others = record others {
  lists = record others.lists {
    carriers = record { number = 0; lpcn = 1; port = 7001 }
        ∷ record { number = 1; lpcn = 2; port = 7002 } ∷ [];
    control = 0;
  };
}

abbrev pub site : Settings → SiteState
site others = record { plan = plan others; facts = no_facts }

-- ---- the journal, oldest first

abbrev pub no_acts : Acts
no_acts = record { list = []; said = None }

-- the entry of an actor's event, which is answered by no act
abbrev pub entry : ℕ → Event → Entry
entry actor event = record { actor = actor; event = event; acts = no_acts }

abbrev pub deposit : Event → Deposit
deposit event = record { event = event; acts = no_acts }

-- both carriers come up, carrier 1 polls, a tick passes, carrier 1 is lost by its fault, and carrier 0 by its silence
abbrev pub journal : List Entry
journal = entry 0 (Up 0) ∷ entry 1 (Up 1) ∷ entry 1 (Poll 1) ∷ entry 2 Tick ∷ entry 1 (Lost 1)
    ∷ entry 0 (Lost 0) ∷ []

-- ---- the octets

-- HELLO of version 1, with the numbers of carrier 0 and of its channel
abbrev pub hello_0 : List ℕ
hello_0 = 0x01 ∷ 4 ∷ 1 ∷ 0 ∷ 0 ∷ 1 ∷ []

-- HELLO of carrier 1, and POLL
abbrev pub hello_1 : List ℕ
hello_1 = 0x01 ∷ 4 ∷ 1 ∷ 1 ∷ 0 ∷ 2 ∷ []

abbrev pub poll : List ℕ
poll = 0x03 ∷ 0 ∷ []

-- no frame has this type
abbrev pub bad_octet : ℕ
bad_octet = 0xFF

abbrev pub welcome : List ℕ
welcome = 0x81 ∷ 1 ∷ 1 ∷ []

abbrev pub done : List ℕ
done = 0x83 ∷ 0 ∷ []

-- ---- the links

abbrev pub carrier_0 : CarrierIdentity
carrier_0 = record { carrier = 0; lpcn = 1; greatest = V1 }

abbrev pub carrier_1 : CarrierIdentity
carrier_1 = record { carrier = 1; lpcn = 2; greatest = V1 }

-- a link that has had no connection
abbrev pub new_link : Peer → LinkState
new_link who = record {
  who = who;
  connection = stream.Closed;
  pending = nothing_pending;
  is_cut = false;
  unread = [];
  closing = Over;
}

-- the link of carrier 0 after it was cut
abbrev pub cut_link : LinkState
cut_link = record {
  who = Carrier carrier_0;
  connection = stream.Closed;
  pending = nothing_pending;
  is_cut = true;
  unread = [];
  closing = Over;
}

-- the link of carrier 1 after the fault
abbrev pub faulty_link : LinkState
faulty_link = record {
  who = Carrier carrier_1;
  connection = stream.Frames (state_on carrier_1 connection.Closed None);
  pending = nothing_pending;
  is_cut = false;
  unread = [];
  closing = Bad UnknownType;
}

-- ---- the steps of each link's worker, newest first

-- carrier 0 connects and says HELLO, which the site answers. Then no octet comes, and the link is cut
abbrev pub steps_0 : List Step
steps_0 = Asked Finished ∷ Waited Silent (deposit (Lost 0) ∷ []) ∷ Served
    (Answered (Came hello_0) ∷ Passed Entered ∷ Deposited (deposit (Up 0)) ∷ Answered (Took welcome)
    ∷ Passed Left ∷ Answered ReadBlocked ∷ []) Idle ∷ Asked Opened ∷ []

-- carrier 1 says HELLO and polls in one piece. Each is answered, and then comes the octet that is a fault
abbrev pub steps_1 : List Step
steps_1 = Asked Finished ∷ Served
    (Answered (Came (hello_1 ++ poll)) ∷ Passed Entered ∷ Deposited (deposit (Up 1))
    ∷ Answered (Took welcome) ∷ Passed Left ∷ Passed Entered ∷ Deposited (deposit (Poll 1))
    ∷ Answered (Took done) ∷ Passed Left ∷ Answered (Came (bad_octet ∷ [])) ∷ Passed Entered
    ∷ Deposited (deposit (Lost 1)) ∷ Passed Left ∷ []) (BadFrame UnknownType) ∷ Asked Opened ∷ []

-- no operator connects
abbrev pub steps_of_console : List Step
steps_of_console = Asked Finished ∷ []

-- ---- the records of ports and gates, and the whole

abbrev pub record_0 : List Answer
record_0 = Opened ∷ Came hello_0 ∷ Took welcome ∷ ReadBlocked ∷ Silent ∷ Finished ∷ []

abbrev pub record_1 : List Answer
record_1 = Opened ∷ Came (hello_1 ++ poll) ∷ Took welcome ∷ Took done ∷ Came (bad_octet ∷ [])
    ∷ Finished ∷ []

-- the gate was passed this many times
abbrev pub passages : ℕ → List Passage
passages zero = []
passages (suc n) = Entered ∷ Left ∷ passages n

-- the stations, the pacer and the console at the start, all of which report their records
abbrev pub start : Settings → Start
start others = record {
  site = site others;
  limit = 100;
  stations = station_state (new_link (Carrier carrier_0)) (Some []) (Some [])
      ∷ station_state (new_link (Carrier carrier_1)) (Some []) (Some []) ∷ [];
  pacer = Some (record { ticks = 0; finished = false });
  console = station_state (new_link Operator) (Some []) None;
}

-- the same at the end
abbrev pub end : Settings → End
end others = record {
  site = site_after_entries (site others) journal;
  journal = journal;
  views = view_of 0 journal ∷ view_of 1 journal ∷ view_of 2 journal ∷ view_of 3 journal ∷ [];
  ends = ending.Finished ∷ ending.Finished ∷ ending.Finished ∷ ending.Finished ∷ [];
  stations = station_state cut_link (Some record_0) (Some (passages 1))
      ∷ station_state faulty_link (Some record_1) (Some (passages 3)) ∷ [];
  pacer = Some (record { ticks = 1; finished = true });
  console = station_state (new_link Operator) (Some (Finished ∷ [])) None;
}
