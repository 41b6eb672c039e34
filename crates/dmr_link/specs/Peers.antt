-- Carriers and operators: the meaning of octets from each, and the octets written to each.
use Rattle.std.specs.Prelude.{ℕ, Bool, true, false, List, [], Option, None, map}
use Rattle.dmr_console.specs.Lines.{open_in, first_octets_of_line}
use Rattle.dmr_console.specs.Steps.{open_line_after}
use Rattle.dmr_frames.specs.declared.frame.FrameOut.TheVariants as out
use Rattle.dmr_frames.specs.Frames.{spelling_out}
use Rattle.dmr_core.specs.declared.act.Acts.{Acts}
use Rattle.dmr_core.specs.declared.entry.Entry.{Entry}
use Rattle.dmr_core.specs.declared.event.Event.TheVariants.{Say}
use Rattle.dmr_core.specs.Journal.{unattributed_entry}
use Rattle.dmr_link.specs.Notices.{Notice}
use Rattle.dmr_link.specs.Notices.{Happened, Accepted, Refused, Rejected}
use Rattle.dmr_link.specs.declared.notices.SiteNotice.{SiteNotice}
use Rattle.dmr_link.specs.declared.notices.SiteNotice.TheVariants as site
use Rattle.dmr_link.specs.declared.desk.Deposit.{Deposit}
use Rattle.dmr_wire.specs.declared.closing.Closing.{Closing}
use Rattle.dmr_link.specs.declared.stream.Peer.{Peer}
use Rattle.dmr_link.specs.declared.stream.Peer.TheVariants.{Carrier, Operator}
use Rattle.dmr_link.specs.declared.stream.Stream.{Stream}
use Rattle.dmr_link.specs.declared.stream.Stream.TheVariants as stream
use Rattle.dmr_link.specs.CarrierStates.{state_on, is_open, up_by}
use Rattle.dmr_link.specs.Closing.{closing_of_octets, all_closes}
use Rattle.dmr_link.specs.Console.{meaning_of_text, said_from, console_text}
use Rattle.dmr_link.specs.Console.{fault_text, reply_text}
use Rattle.dmr_link.specs.Meaning.{meaning_of_octets, left_by_octets}
use Rattle.dmr_link.specs.Numbering.{frames_text, next_after_frames}
use Rattle.dmr_link.specs.Session.{answer_frames, session_frames, session_text}
use Rattle.dmr_link.specs.Steps.{new_connection, notices_of_octets, connection_after_octets}

-- ---- the meaning of octets

-- MEANING of a connection: the notices of the octets that came on it, and of its end if it has ended. A carrier's end
-- is its Lost, if it was up. An operator's end means nothing, and neither does the line that it leaves open
abbrev pub meaning_from : Peer → List ℕ → Bool → List Notice
meaning_from (Carrier who) octets has_ended = meaning_of_octets who octets has_ended
meaning_from Operator octets has_ended = meaning_of_text octets

-- the connection on which these octets came, and whose next TX has this number; of an operator's open line the first 81
-- octets are kept
abbrev pub left_from : Peer → List ℕ → Option ℕ → Stream
left_from (Carrier who) octets next = stream.Frames (state_on who (left_by_octets who octets) next)
left_from Operator octets next = stream.Lines (first_octets_of_line (open_in octets))

-- HOW OCTETS CLOSE a connection, if they do; an operator's never do
abbrev pub closing_from : Peer → List ℕ → Option Closing
closing_from (Carrier who) octets = closing_of_octets who octets
closing_from Operator octets = None

-- ---- the octets written

-- the journal entry of an event that a desk took
abbrev pub entry_of_deposit : Deposit → Entry
entry_of_deposit d = unattributed_entry d.event d.acts

-- the octets written to a peer for notices and the events that a desk took: a carrier's session text, or the console
-- text. The numbers of TX go on from this one until a WELCOME, after which they begin again
abbrev pub text_onward : Peer → Option ℕ → List Notice → List Deposit → List ℕ
text_onward (Carrier who) next notices calls =
    session_text next who.carrier notices (map entry_of_deposit calls)
text_onward Operator next notices calls = console_text notices (map entry_of_deposit calls)

-- the number of the next TX after these octets
abbrev pub next_onward : Peer → Option ℕ → List Notice → List Deposit → Option ℕ
next_onward (Carrier who) next notices calls =
    next_after_frames next (session_frames who.carrier notices (map entry_of_deposit calls))
next_onward Operator next notices calls = next

-- TEXT to a peer: the octets written for the notices of a connection and the events that a desk took of it
abbrev pub text_to_peer : Peer → List Notice → List Deposit → List ℕ
text_to_peer who notices calls = text_onward who None notices calls

-- the octets that answer a notice for the site: WELCOME, a command's reply, or the frames that answer an event to its
-- carrier
abbrev pub answer_text : Option ℕ → SiteNotice → Acts → List ℕ
answer_text next (site.Happened (Say command)) acts = reply_text acts.said
answer_text next notice acts = frames_text next (answer_frames notice acts.list)

-- the number of the next TX after such an answer
abbrev pub next_after_answer : Option ℕ → SiteNotice → Acts → Option ℕ
next_after_answer next notice acts = next_after_frames next (answer_frames notice acts.list)

-- the octets that answer a notice for the peer alone
abbrev pub peer_notice_text : Notice → List ℕ
peer_notice_text (Happened event) = []
peer_notice_text (Accepted c version) = []
peer_notice_text (Refused c refusal) = spelling_out (out.Refused refusal)
peer_notice_text (Rejected fault) = fault_text fault

-- ---- a link's connection

-- a connection of this peer that has just begun
abbrev pub opened_for : Peer → Stream
opened_for (Carrier who) = stream.Frames (state_on who (new_connection who) None)
opened_for Operator = stream.Lines []

-- whether a connection is open
abbrev pub is_going : Stream → Bool
is_going stream.Closed = false
is_going (stream.Frames state) = is_open state.connection
is_going (stream.Lines begun) = true

-- the number of the next TX, if there is one
abbrev pub numbering_of : Stream → Option ℕ
numbering_of (stream.Frames state) = state.numbering
numbering_of other = None

-- the connection with another number for its next TX
abbrev pub numbered : Stream → Option ℕ → Stream
numbered stream.Closed next = stream.Closed
numbered (stream.Frames state) next = stream.Frames (state_on state.who state.connection next)
numbered (stream.Lines begun) next = stream.Lines begun

-- the carrier that is up, if one is
abbrev pub up_of : Stream → Option ℕ
up_of (stream.Frames state) = up_by state.who state.connection
up_of other = None

-- the notices that octets produce, one after another
abbrev pub all_produce : Stream → List ℕ → List Notice
all_produce stream.Closed octets = []
all_produce (stream.Frames state) octets = notices_of_octets state.who state.connection octets
all_produce (stream.Lines begun) octets = said_from begun octets

-- the connection after octets
abbrev pub left_after : Stream → List ℕ → Stream
left_after stream.Closed octets = stream.Closed
left_after (stream.Frames state) octets =
    stream.Frames
    (state_on state.who (connection_after_octets state.who state.connection octets)
    state.numbering)
left_after (stream.Lines begun) octets = stream.Lines (open_line_after begun octets)

-- how octets close the connection, if they do: the first octet that does decides. An operator's never do
abbrev pub closes_by : Stream → List ℕ → Option Closing
closes_by (stream.Frames state) octets = all_closes state.who state.connection octets
closes_by other octets = None
