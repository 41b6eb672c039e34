-- The steps of a link. Only contracts inside this crate name these definitions, except `is_live` and `IsLinkNumbering`;
-- nothing above depends on the others. `Ghosts` of a trait is what an implementation of it shows to contracts.
use Rattle.std.specs.Prelude.{◌≡◌, ℕ, ◌<◌, ◌≤◌, Bool, true, false, ◌||◌, List, [], ◌++◌, length}
use Rattle.std.specs.Prelude.{Option, Some, None, Result, Ok, Err, IfErr}
use Rattle.dmr_core.specs.declared.event.Event.TheVariants.{Lost}
use Rattle.dmr_wire.specs.Answers.{Answer}
use Rattle.dmr_wire.specs.declared.wire.Wire.{Ghosts as Wire}
use Rattle.dmr_link.specs.declared.desk.Desk.{Ghosts as Desk}
use Rattle.dmr_link.specs.declared.desk.Gate.{Ghosts as Gate}
use Rattle.dmr_link.specs.Notices.{Notice}
use Rattle.dmr_link.specs.Notices.{Happened, Accepted, Refused, Rejected}
use Rattle.dmr_link.specs.declared.notices.SiteNotice.{SiteNotice}
use Rattle.dmr_link.specs.declared.notices.SiteNotice.TheVariants as site
use Rattle.dmr_wire.specs.declared.closing.Closing.{Closing}
use Rattle.dmr_wire.specs.declared.closing.Closing.TheVariants.{Over, WriteFailed}
use Rattle.dmr_link.specs.declared.ended.Ended.{Ended}
use Rattle.dmr_link.specs.declared.ended.Ended.TheVariants as ended
use Rattle.dmr_link.specs.declared.stream.Stream.{Stream}
use Rattle.dmr_link.specs.declared.stream.Stream.TheVariants as stream
use Rattle.dmr_link.specs.declared.link_state.LinkState.{LinkState}
use Rattle.dmr_link.specs.declared.pending.Pending.{Pending}
use Rattle.dmr_link.specs.Closing.{ended_of}
use Rattle.dmr_link.specs.Happenings.{Stage, Outside, Blocked, stage_after, stage_at}
use Rattle.dmr_link.specs.Limits.{most_interruptions, most_reads}
use Rattle.dmr_link.specs.Moves.{Moment, Moves, WritesText, moment}
use Rattle.dmr_link.specs.Numbering.{first_number}
use Rattle.dmr_link.specs.Sound.{IsNumberingOf}
use Rattle.dmr_frames.specs.Versions.{version_octet}
use Rattle.dmr_link.specs.Notices.{list_of_notice}
use Rattle.dmr_link.specs.Peers.{opened_for, is_going, up_of, all_produce, left_after, closes_by}
use Rattle.dmr_link.specs.Peers.{numbered}
use Rattle.dmr_link.specs.Desks.{HasRefused, KeepsDesk}
use Rattle.dmr_link.specs.Sessions.{Sides, IsQuiet, IsOver, is_kept, is_lost, is_pending, sides}

-- the number of the next TX after the WELCOME that is kept, if one is, is written
abbrev pub next_when_answered : Option SiteNotice → Option ℕ → Option ℕ
next_when_answered None next = next
next_when_answered (Some (site.Happened event)) next = next
next_when_answered (Some (site.Accepted c version)) next = first_number (version_octet version)

-- the number of a link's next TX, after that WELCOME, is one of its connection's version
abbrev pub IsLinkNumbering : Stream → Option SiteNotice → Type 0
IsLinkNumbering stream.Closed kept = Unit {0}
IsLinkNumbering (stream.Frames state) kept =
    IsNumberingOf state.connection (next_when_answered kept state.numbering)
IsLinkNumbering (stream.Lines begun) kept = Unit {0}

-- ---- pending notices

-- nothing is pending
abbrev pub nothing_pending : Pending
nothing_pending = record { kept = None; lost = None }

-- the first pending notice, if there is one: the event that is kept goes before a Lost
abbrev pub first_of : Option SiteNotice → Option ℕ → Option SiteNotice
first_of (Some notice) lost = Some notice
first_of None None = None
first_of None (Some c) = Some (site.Happened (Lost c))

-- the first notice of a queue, if there is one
abbrev pub first_pending : Pending → Option SiteNotice
first_pending p = first_of p.kept p.lost

-- the Lost that is pending after the first notice was removed
abbrev pub lost_without : Option SiteNotice → Option ℕ → Option ℕ
lost_without (Some notice) lost = lost
lost_without None lost = None

-- the queue after its first notice was removed
abbrev pub without_first : Pending → Pending
without_first p = record { kept = None; lost = lost_without p.kept p.lost }

-- a measure of pending notices, which becomes less with each that is removed
abbrev pub weight_of : Option SiteNotice → Option ℕ → ℕ
weight_of (Some notice) lost = 2
weight_of None (Some c) = 1
weight_of None None = 0

-- the measure of a queue
abbrev pub pending_weight : Pending → ℕ
pending_weight p = weight_of p.kept p.lost

-- a link with this queue
abbrev pub with_pending : LinkState → Pending → LinkState
with_pending l p = record {
  who = l.who;
  connection = l.connection;
  pending = p;
  is_cut = l.is_cut;
  unread = l.unread;
  closing = l.closing;
}

-- ---- a link's steps

-- a link after its connection was closed in this way
abbrev pub closed_as : LinkState → Closing → LinkState
closed_as l closing = record {
  who = l.who;
  connection = stream.Closed;
  pending = record { kept = l.pending.kept; lost = up_of l.connection };
  is_cut = l.is_cut;
  unread = l.unread;
  closing = closing;
}

-- the event that is kept after a notice: that of the notice, or the one that was kept before
abbrev pub kept_then : Option SiteNotice → Option Notice → Option SiteNotice
kept_then kept (Some (Happened event)) = Some (site.Happened event)
kept_then kept (Some (Accepted c version)) = Some (site.Accepted c version)
kept_then kept other = kept

-- the notice, if it is for the peer alone
abbrev pub peer_notice_of : Option Notice → Option Notice
peer_notice_of None = None
peer_notice_of (Some (Happened event)) = None
peer_notice_of (Some (Accepted c version)) = None
peer_notice_of (Some (Refused c refusal)) = Some (Refused c refusal)
peer_notice_of (Some (Rejected fault)) = Some (Rejected fault)

-- how a connection was closed, after octets that may have closed it
abbrev pub closing_then : Closing → Option Closing → Closing
closing_then old None = old
closing_then old (Some new) = new

-- a link after octets that produce this notice, if any, and close its connection in this way, if they do
abbrev pub with_outcome : LinkState → Option Notice → Option Closing → LinkState
with_outcome l notice closing = record {
  who = l.who;
  connection = l.connection;
  pending = record { kept = kept_then l.pending.kept notice; lost = l.pending.lost };
  is_cut = l.is_cut;
  unread = l.unread;
  closing = closing_then l.closing closing;
}

-- a link after the first of its unread octets, which produce this notice, if any, and leave the rest unread
abbrev pub state_after : LinkState → List ℕ → Option Notice → List ℕ → LinkState
state_after l octets notice rest = record {
  who = l.who;
  connection = left_after l.connection octets;
  pending = record { kept = kept_then l.pending.kept notice; lost = l.pending.lost };
  is_cut = l.is_cut;
  unread = rest;
  closing = closing_then l.closing (closes_by l.connection octets);
}

-- a link took a piece: the first of its unread octets, at least one. They produce one notice, or none. A notice for the
-- peer alone is `returned`
pub record TakesPiece (old new : LinkState) (returned : Option Notice) : Type 0 where
  pub octets : List ℕ
  pub rest : List ℕ
  pub notice : Option Notice
  pub few : length rest < length old.unread
  pub in_two : old.unread ≡ octets ++ rest
  pub means : all_produce old.connection octets ≡ list_of_notice notice
  pub alone : returned ≡ peer_notice_of notice
  pub leaves : new ≡ state_after old octets notice rest

-- a connection is open, or an event of it is pending
abbrev pub is_live : LinkState → Bool
is_live l = is_going l.connection || is_kept l.pending.kept || is_lost l.pending.lost

-- a link whose next TX has this number
abbrev pub with_next : LinkState → Option ℕ → LinkState
with_next l next = record {
  who = l.who;
  connection = numbered l.connection next;
  pending = l.pending;
  is_cut = l.is_cut;
  unread = l.unread;
  closing = l.closing;
}

-- a link after octets were written: the first if the port took all of them, else the second with its connection closed
abbrev pub after_write : Bool → LinkState → LinkState → LinkState
after_write true whole l = whole
after_write false whole l = closed_as l WriteFailed

-- octets were written, unless the connection was cut
abbrev pub Replies : Bool → LinkState → Option (List Answer) → List ℕ → LinkState → LinkState
    → Option (List Answer) → Type 0
Replies true old reported octets written new now = (new ≡ old) × (now ≡ reported)
Replies false old reported octets written new now =
    (whole : Bool) × WritesText reported octets whole now × (new ≡ after_write whole written old)

-- an event could not be handed in and is pending, or this proposition holds
abbrev pub IsHeld : {X : Type 0} → Result X Ended → LinkState → Type 0 → Type 0
IsHeld (Ok done) l P = P
IsHeld (Err ended.TermOver) l P = is_pending l ≡ true
IsHeld (Err ended.GateShut) l P = is_pending l ≡ true
IsHeld (Err other) l P = ⊥

-- a step stopped for this reason: an event could not be handed in and is pending, or the connection is closed in this
-- way and nothing is pending
abbrev pub IsStop : Ended → LinkState → Type 0
IsStop ended.TermOver l = is_pending l ≡ true
IsStop ended.GateShut l = is_pending l ≡ true
IsStop ended.Idle l = ⊥
IsStop ended.Paused l = ⊥
IsStop other l = IsOver l × (ended_of l.closing ≡ other)

-- what desk and gate say of the reason for which a step stopped. If the term is over, the desk refused an event. If the
-- gate is shut, a link tried to enter a gate that was shut, and was this gate after that
abbrev pub HasReason : {D G : Type 0} → Desk D → D → Gate G → G → Ended → Type 0
HasReason its desk gating gate stop = (stop ≡ ended.TermOver → HasRefused its desk)
    × (stop ≡ ended.GateShut → (before : _) × gating.shuts before gate)

-- the moment of a call at which link, port, desk and gate are so
abbrev pub moment_of : {W D G : Type 0} → Wire W → Desk D → Gate G → LinkState → W → D → G → ℕ
    → Stage → Moment
moment_of wire its gating link port desk gate row stage =
    moment link (sides (wire.reported port) (its.calls desk) (gating.passed gate)) row stage

-- a step of a call that reads nothing and may hand in events. It began with `link`, `port`, `desk` and `gate`, and left
-- the others
pub record Steps {W D G X : Type 0} (wire : Wire W) (its : Desk D) (gating : Gate G) (link : LinkState)
    (port : W) (desk : D) (gate : G) (after : LinkState) (left : W) (later : D) (passed : G)
    (result : Result X Ended) : Type 0 where
  pub keeps : KeepsDesk its desk later
  pub moves : Moves (moment_of wire its gating link port desk gate 0 Outside)
      (moment_of wire its gating after left later passed 0 (stage_after result)) 0
  pub why : IfErr result (HasReason its later gating passed)

-- all events were handed in and the connection is open, or the step stopped
abbrev pub IsSettled : {X : Type 0} → Result X Ended → LinkState → Type 0
IsSettled (Ok done) l = IsQuiet l
IsSettled (Err stop) l = IsStop stop l

-- a step hands in all pending events, or stops. It processes no octet
pub record HandsIn {W D G : Type 0} (wire : Wire W) (its : Desk D) (gating : Gate G) (link : LinkState)
    (port : W) (desk : D) (gate : G) (after : LinkState) (left : W) (later : D) (passed : G)
    (result : Result (Unit {0}) Ended) : Type 0 where
  pub step : Steps wire its gating link port desk gate after left later passed result
  pub stops : IsSettled result after
  pub unread : after.unread ≡ link.unread

-- a read may follow: the connection is open, everything is answered, and not too many reads in a row were interrupted
abbrev pub MayRead : LinkState → ℕ → Type 0
MayRead l row = IsQuiet l × (l.unread ≡ []) × (row ≤ most_interruptions)

-- how many interruptions came last, in a row, after a read
abbrev pub row_then : Option ℕ → ℕ
row_then None = 0
row_then (Some row) = row

-- how many interruptions came last, in a row, after a step
abbrev pub row_after : Result ℕ Ended → ℕ
row_after (Ok row) = row
row_after (Err stop) = 0

-- the stage of a call after a read
abbrev pub stage_then_read : Option ℕ → Stage
stage_then_read None = Blocked
stage_then_read (Some row) = Outside

-- the link after one turn: no notice is pending and all octets were processed, or the turn stopped
abbrev pub HasTurned : Result ℕ Ended → LinkState → Type 0
HasTurned (Ok row) l = MayRead l row
HasTurned (Err ended.Idle) l = IsQuiet l × (l.unread ≡ [])
HasTurned (Err stop) l = IsStop stop l

-- the link after a call that ended with this result, after this many reads
abbrev pub EndsBy : Ended → LinkState → ℕ → Type 0
EndsBy ended.Idle l reads = IsQuiet l × (l.unread ≡ [])
EndsBy ended.Paused l reads = IsQuiet l × (l.unread ≡ []) × (reads ≡ most_reads)
EndsBy stop l reads = IsStop stop l

-- a call of listen
pub record Listens (old new : LinkState) (before after : Sides) (result : Ended) : Type 0 where
  pub row : ℕ
  pub reads : ℕ
  pub moves : Moves (moment old before 0 Outside) (moment new after row (stage_at result)) reads
  pub few : reads ≤ most_reads
  pub ends : EndsBy result new reads

-- the pending Lost, else that of the carrier that is up
abbrev pub lost_then : Option ℕ → Option ℕ → Option ℕ
lost_then None up = up
lost_then (Some c) up = Some c

-- a link after a cut
abbrev pub cut_state : LinkState → LinkState
cut_state l = record {
  who = l.who;
  connection = stream.Closed;
  pending = record { kept = l.pending.kept; lost = lost_then l.pending.lost (up_of l.connection) };
  is_cut = true;
  unread = l.unread;
  closing = Over;
}

-- a link after a connection has begun
abbrev pub with_new_connection : LinkState → LinkState
with_new_connection l = record {
  who = l.who;
  connection = opened_for l.who;
  pending = l.pending;
  is_cut = false;
  unread = [];
  closing = l.closing;
}
