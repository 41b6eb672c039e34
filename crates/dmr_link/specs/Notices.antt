-- The results of octets: the notices of all peers of a site, in one order.
use Rattle.std.specs.Prelude.{ℕ, List, [], ◌∷◌, Option, Some, None, option_map}
use Rattle.dmr_core.specs.declared.event.Event.{Event}
use Rattle.dmr_core.specs.declared.event.Event.TheVariants.{Up}
use Rattle.dmr_frames.specs.declared.frame.Refusal.{Refusal}
use Rattle.dmr_frames.specs.declared.version.Version.{Version}
use Rattle.dmr_link.specs.declared.notices.PeerNotice.{PeerNotice}
use Rattle.dmr_link.specs.declared.notices.PeerNotice.TheVariants as peer
use Rattle.dmr_link.specs.declared.notices.LineFault.{LineFault}
use Rattle.dmr_link.specs.declared.notices.Notice.{Notice as ANotice}
use Rattle.dmr_link.specs.declared.notices.Notice.TheVariants as notice
use Rattle.dmr_link.specs.declared.notices.SiteNotice.{SiteNotice}
use Rattle.dmr_link.specs.declared.notices.SiteNotice.TheVariants as site

-- an event of the site, an accepted HELLO of a carrier, a refused carrier, or a rejected line of an operator. An
-- accepted HELLO is the carrier's Up, in this version of the link. The site does not learn of the last two
pub data Notice : Type 0 where
  Happened : (event : Event) → Notice
  Accepted : (carrier : ℕ) (version : Version) → Notice
  Refused : (carrier : ℕ) (refusal : Refusal) → Notice
  Rejected : (fault : LineFault) → Notice

-- the notice that a value of the program for the site means
abbrev pub site_notice : SiteNotice → Notice
site_notice (site.Happened event) = Happened event
site_notice (site.Accepted c version) = Accepted c version

-- the event of a notice for the site
abbrev pub event_of_notice : SiteNotice → Event
event_of_notice (site.Happened event) = event
event_of_notice (site.Accepted c version) = Up c

-- the notice that a value of the program for the peer alone means
abbrev pub peer_notice : PeerNotice → Notice
peer_notice (peer.Refused c refusal) = Refused c refusal
peer_notice (peer.Rejected fault) = Rejected fault

-- the notice that a value of the program means
abbrev pub notice_meant : ANotice → Notice
notice_meant (notice.Site n) = site_notice n
notice_meant (notice.Peer a) = peer_notice a

-- the notice, if there is one, as a list
abbrev pub list_of_notice : Option Notice → List Notice
list_of_notice None = []
list_of_notice (Some notice) = notice ∷ []

-- what a value of the program means, if there is one, as a list
abbrev pub notices_meant : Option ANotice → List Notice
notices_meant notice = list_of_notice (option_map notice_meant notice)
