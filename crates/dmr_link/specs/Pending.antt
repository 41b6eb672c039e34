-- The pending notices of a link, and the meaning of its connection in terms of notices.
use Rattle.std.specs.Prelude.{◌≡◌, ℕ, true, false, List, ◌++◌, map, take}
use Rattle.dmr_link.specs.Notices.{Notice}
use Rattle.dmr_link.specs.declared.stream.Peer.{Peer}
use Rattle.dmr_link.specs.declared.link_state.LinkState.{LinkState}
use Rattle.dmr_link.specs.Session.{events_in}
use Rattle.dmr_link.specs.Peers.{meaning_from, text_to_peer, all_produce}
use Rattle.dmr_link.specs.Sessions.{How, Going, InputOver, ReadFaulty, WriteFaulty, CutAfter}
use Rattle.dmr_link.specs.Sessions.{Session, notices_waiting}

-- the pending notices of a link: the event that is kept, the Lost that must still follow a carrier's Up, and what the
-- unread octets produce
abbrev pub pending_notices : LinkState → List Notice
pending_notices l = notices_waiting l ++ all_produce l.connection l.unread

-- the connection means these notices, by how it ended. They are those of all octets that came, with the end if it has
-- ended. After a cut they are those of the octets until then, and after a failed write those of some first octets, both
-- with the end
abbrev pub ConnectionMeans : Peer → How → List ℕ → List Notice → Type 0
ConnectionMeans who Going came notices = meaning_from who came false ≡ notices
ConnectionMeans who InputOver came notices = meaning_from who came true ≡ notices
ConnectionMeans who ReadFaulty came notices = meaning_from who came true ≡ notices
ConnectionMeans who WriteFaulty came notices =
    (n : ℕ) × (meaning_from who (take n came) true ≡ notices)
ConnectionMeans who (CutAfter n kept) came notices = meaning_from who (take n came) true ≡ notices

-- the octets that the connection took are the text; after a failed write, or a cut while an event was kept, they are
-- the first part of the text
abbrev pub IsFirst : How → List ℕ → List ℕ → Type 0
IsFirst WriteFaulty taken text = (rest : List ℕ) × (taken ++ rest ≡ text)
IsFirst (CutAfter n true) taken text = (rest : List ℕ) × (taken ++ rest ≡ text)
IsFirst other taken text = taken ≡ text

-- what a link accounts for: its newest connection means the notices that are done, followed by the link's pending ones.
-- The desk took the events of those that are done, and the connection took the text that answers them, or the first
-- part of it
pub record Accounts (l : LinkState) (s : Session) : Type 0 where
  pub done : List Notice
  pub means : ConnectionMeans l.who s.how s.came (done ++ pending_notices l)
  pub events : events_in done ≡ map (λ d. d.event) s.calls
  pub taken : IsFirst s.how s.taken (text_to_peer l.who done s.calls)
