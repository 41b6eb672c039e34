-- The meaning of all connections of a link, read from one record of its port and from one list of what a desk took.
use Rattle.std.specs.Prelude.{◌≡◌, List, [], ◌∷◌, ◌++◌, map}
use Rattle.dmr_wire.specs.Answers.{Answer}
use Rattle.dmr_link.specs.Notices.{Notice}
use Rattle.dmr_link.specs.declared.stream.Peer.{Peer}
use Rattle.dmr_link.specs.declared.link_state.LinkState.{LinkState}
use Rattle.dmr_link.specs.Happenings.{answers_in}
use Rattle.dmr_link.specs.Pending.{ConnectionMeans, IsFirst, pending_notices}
use Rattle.dmr_link.specs.Peers.{text_to_peer}
use Rattle.dmr_link.specs.Recorded.{reading_at, reading_after_all}
use Rattle.dmr_link.specs.Session.{events_in}
use Rattle.dmr_link.specs.Sessions.{Session}
use Rattle.dmr_desk.specs.Work.{Step, happened_of, past_after, deposits_of_sessions}

-- ---- one record

-- a connection as a port's record has it: all of it but its deposits
abbrev pub in_record : Session → Session
in_record s = record { came = s.came; taken = s.taken; how = s.how; is_cut = s.is_cut; calls = [] }

-- the connections after a record was read on from `past`, newest first
abbrev pub read_on : List Session → List Answer → List Session
read_on past answers = (reading_after_all (reading_at (map in_record past) 0 0 0) answers).past

-- ONE RECORD: all answers of the port, read in one go, give the connections that the steps produced, one after another
abbrev pub IsOneRecord : List Session → List Step → Type 0
IsOneRecord past steps =
    map in_record (past_after past steps) ≡ read_on past (answers_in (happened_of steps))

-- ---- one meaning

-- the octets that came on connections, newest first, mean these notices, oldest first
abbrev pub AllMean : Peer → List Session → List Notice → Type 0
AllMean who [] notices = notices ≡ []
AllMean who (s ∷ ss) notices =
    (earlier : List Notice) × (own : List Notice) × (notices ≡ earlier ++ own)
    × AllMean who ss earlier × ConnectionMeans who s.how s.came own

-- the octets that came on a connection mean `done`, then `owing`; the desk took exactly the events of `done`. The
-- octets that the connection took are the text of `done`, or the first part of it if a write failed or an event was
-- kept at a cut
pub record IsAccounted (who : Peer) (s : Session) (done owing : List Notice) : Type 0 where
  pub means : ConnectionMeans who s.how s.came (done ++ owing)
  pub events : events_in done ≡ map (λ d. d.event) s.calls
  pub taken : IsFirst s.how s.taken (text_to_peer who done s.calls)

-- the connections, newest first, account for `done`, oldest first; `owing` is pending of the newest connection, and
-- nothing of the others
abbrev pub AreAccounted : Peer → List Session → List Notice → List Notice → Type 0
AreAccounted who [] done owing = (done ≡ []) × (owing ≡ [])
AreAccounted who (s ∷ ss) done owing =
    (earlier : List Notice) × (own : List Notice) × (done ≡ earlier ++ own)
    × AreAccounted who ss earlier [] × IsAccounted who s own owing

-- ONE MEANING: the octets that came on all connections of a link, one after another, mean `done`, and then the link's
-- pending notices. The events of `done` are those that the desk took from these connections, in its order. The same
-- holds of each connection, and each took its text, or a first part of it
pub record IsOneMeaning (link : LinkState) (past : List Session) : Type 0 where
  pub done : List Notice
  pub means : AllMean link.who past (done ++ pending_notices link)
  pub events : events_in done ≡ map (λ d. d.event) (deposits_of_sessions past)
  pub connections : AreAccounted link.who past done (pending_notices link)
