-- The number of a link's next TX is one of its connection's version, since it follows from the octets that came and
-- their answers.
use Rattle.std.proofs.Common.{◌≡◌, ℕ, suc, List, [], ◌∷◌, ◌++◌, Bool, true, false, ◌==◌, Option, Some, None, map, length, refl, sym, ap}
use Rattle.std.proofs.Common.{◌∙◌, subst, append_assoc, arith}
use Rattle.std.specs.Prelude.{if◌then◌else◌}
use Rattle.std.proofs.lemmas.List.{append-nil}
use Rattle.std.proofs.lemmas.List.Sums.{fold-append}
use Rattle.std.proofs.lemmas.Bool.{eq-eqb, false≢true}
use Rattle.dmr_frames.specs.declared.frame.FrameIn.{FrameIn}
use Rattle.dmr_frames.specs.declared.frame.FrameOut.{FrameOut}
use Rattle.dmr_frames.specs.declared.cutter.Step.{Step}
use Rattle.dmr_frames.specs.declared.cutter.Step.TheVariants.{Need, Frame, Fault}
use Rattle.dmr_frames.specs.declared.version.Version.{Version}
use Rattle.dmr_frames.specs.declared.version.FrameTable.TheVariants.{First, Later}
use Rattle.dmr_frames.specs.Frames.{IsNumbered}
use Rattle.dmr_frames.specs.Reading.{step_at, rest_after}
use Rattle.dmr_frames.specs.Rest.{Open, Faulty}
use Rattle.dmr_frames.specs.Versions.{version_octet, version_of, chosen_by}
use Rattle.dmr_core.specs.declared.entry.Entry.{Entry}
use Rattle.dmr_core.specs.declared.event.Event.{Event}
use Rattle.dmr_link.specs.declared.connection.CarrierIdentity.{CarrierIdentity}
use Rattle.dmr_link.specs.declared.connection.Connection.{Connection}
use Rattle.dmr_link.specs.declared.connection.Connection.TheVariants.{Closed, Waiting, Running}
use Rattle.dmr_link.specs.declared.desk.Deposit.{Deposit}
use Rattle.dmr_link.specs.declared.notices.SiteNotice.{SiteNotice}
use Rattle.dmr_link.specs.declared.notices.SiteNotice.TheVariants as site
use Rattle.dmr_link.specs.declared.stream.Peer.{Peer}
use Rattle.dmr_link.specs.declared.stream.Peer.TheVariants.{Carrier}
use Rattle.dmr_link.specs.declared.stream.Stream.{Stream}
use Rattle.dmr_link.specs.declared.stream.Stream.TheVariants as stream
use Rattle.dmr_link.specs.declared.link_state.LinkState.{LinkState}
use Rattle.dmr_link.specs.Meaning.{is_accepted, is_last, is_repeat, newest_after, event_of, refusal_of_first, meaning_of_octets}
use Rattle.dmr_link.specs.Meaning.{left_by_octets}
use Rattle.dmr_link.specs.Notices.{list_of_notice}
use Rattle.dmr_link.specs.Notices.{Notice, Happened, Accepted, Refused, Rejected}
use Rattle.dmr_link.specs.Numbering.{next_after, first_number, next_after_frames}
use Rattle.dmr_link.specs.Peers.{entry_of_deposit, next_onward, left_from, meaning_from}
use Rattle.dmr_link.specs.Session.{event_frames, is_poll_of, session_frames, welcome, events_in}
use Rattle.dmr_link.specs.CarrierStates.{is_open}
use Rattle.dmr_link.specs.Sessions.{Session, How, Going, InputOver, ReadFaulty, WriteFaulty, CutAfter, IsAt, HasPast, IsClosed, kept_of}
use Rattle.dmr_link.specs.Sessions.{lost_of, notices_waiting, has_ended}
use Rattle.dmr_link.specs.Sound.{IsNumberingOf}
use Rattle.dmr_link.specs.Steps.{new_connection, waiting_produces, running_produces, waiting_leaves, running_leaves, notice_of_octet}
use Rattle.dmr_link.specs.Steps.{connection_after_octet, notices_of_octets, connection_after_octets}
use Rattle.dmr_link.specs.LinkSteps.{next_when_answered, IsLinkNumbering}
use Rattle.dmr_link.proofs.NumbersFollowVersions.{begins_numbered, event_frames_number}
use Rattle.dmr_link.proofs.OctetsMeanWhatTheyProduce.{octets-open, octets-left}

-- ---- the notices of a connection whose carrier is up: an acceptance in its version, and then events

abbrev IsEvent : Notice → Type 0
IsEvent (Happened event) = Unit {0}
IsEvent (Accepted c version) = ⊥
IsEvent (Refused c refusal) = ⊥
IsEvent (Rejected fault) = ⊥

abbrev AreEvents : List Notice → Type 0
AreEvents [] = Unit {0}
AreEvents (n ∷ ns) = IsEvent n × AreEvents ns

events_more : (ns : List Notice) (o : Option Notice) → AreEvents ns → AreEvents (list_of_notice o) → AreEvents (ns ++ list_of_notice o)
events_more [] o are more = more
events_more (n ∷ ns) o are more = (are.0, events_more ns o are.1 more)

-- these notices are an acceptance in this version, and then events
record BeganIn (who : CarrierIdentity) (version : Version) (ns : List Notice) : Type 0 where
  events : List Notice
  is : ns ≡ Accepted who.carrier version ∷ events
  each : AreEvents events

-- these notices led to this connection
abbrev HasLed : CarrierIdentity → List Notice → Connection → Type 0
HasLed who ns Closed = Unit {0}
HasLed who ns (Waiting (Open (First greatest) q)) = (greatest ≡ who.greatest) × (ns ≡ [])
HasLed who ns (Waiting (Open (Later version) q)) = ⊥
HasLed who ns (Waiting (Faulty cause)) = ⊥
HasLed who ns (Running (Open (First version) q) newest) = ⊥
HasLed who ns (Running (Open (Later version) q) newest) = BeganIn who version ns
HasLed who ns (Running (Faulty cause) newest) = ⊥

began_more : (who : CarrierIdentity) (version : Version) (ns : List Notice) (o : Option Notice) → AreEvents (list_of_notice o) →
    BeganIn who version ns → BeganIn who version (ns ++ list_of_notice o)
began_more who version ns o more began = record {
  events = began.events ++ list_of_notice o;
  is = ap (λ (xs : List Notice). xs ++ list_of_notice o) began.is;
  each = events_more began.events o began.each more;
}

module _ (who : CarrierIdentity) (ns : List Notice) where
  first_led : (f : FrameIn) (b : Bool) → ns ≡ [] →
      HasLed who (ns ++ list_of_notice (if b then Some (Accepted who.carrier (chosen_by who.greatest f)) else refusal_of_first who f))
      (if b then Running (Open (Later (chosen_by who.greatest f)) []) None else Closed)
  first_led f true none = record {
    events = [];
    is = ap (λ (xs : List Notice). xs ++ Accepted who.carrier (chosen_by who.greatest f) ∷ [])
        none;
    each = tt;
  }
  first_led f false none = tt

  waiting_led : (q : List ℕ) (x : ℕ) (s : Step) → ns ≡ [] → HasLed who (ns ++ list_of_notice (waiting_produces who s))
      (waiting_leaves who (rest_after (First who.greatest) q x s) s)
  waiting_led q x Need none = (refl, append-nil ns ∙ none)
  waiting_led q x (Frame f) none = first_led f (is_accepted who f) none
  waiting_led q x (Fault cause) none = tt

  later_led : (version : Version) (newest : Option ℕ) (f : FrameIn) (last again : Bool) → BeganIn who version ns →
      HasLed who (ns ++ list_of_notice (if again then None else Some (Happened (event_of who.carrier f))))
      (if last then Closed else Running (Open (Later version) []) newest)
  later_led version newest f true again began = tt
  later_led version newest f false true began = began_more who version ns None tt began
  later_led version newest f false false began = began_more who version ns (Some (Happened (event_of who.carrier f))) (tt, tt) began

  running_led : (version : Version) (newest : Option ℕ) (q : List ℕ) (x : ℕ) (s : Step) → BeganIn who version ns →
      HasLed who (ns ++ list_of_notice (running_produces who.carrier newest s)) (running_leaves (rest_after (Later version) q x s) newest s)
  running_led version newest q x Need began = began_more who version ns None tt began
  running_led version newest q x (Frame f) began = later_led version (newest_after newest f) f (is_last f) (is_repeat newest f) began
  running_led version newest q x (Fault cause) began = tt

  octet_led : (k : Connection) (x : ℕ) → HasLed who ns k → HasLed who (ns ++ list_of_notice (notice_of_octet who k x))
      (connection_after_octet who k x)
  octet_led Closed x led = tt
  octet_led (Waiting (Faulty cause)) x led = absurd led
  octet_led (Waiting (Open (Later version) q)) x led = absurd led
  octet_led (Waiting (Open (First greatest) q)) x led =
      let P : Version → Type 0 = λ g. HasLed who (ns ++ list_of_notice (notice_of_octet who (Waiting (Open (First g) q)) x))
      (connection_after_octet who (Waiting (Open (First g) q)) x) in
      subst P (sym led.0) (waiting_led q x (step_at (version_of (First who.greatest)) q x) led.1)
  octet_led (Running (Faulty cause) newest) x led = absurd led
  octet_led (Running (Open (First version) q) newest) x led = absurd led
  octet_led (Running (Open (Later version) q) newest) x led = running_led version newest q x (step_at version q x) led

octets_led : (who : CarrierIdentity) (octets : List ℕ) (ns : List Notice) (k : Connection) → HasLed who ns k →
    HasLed who (ns ++ notices_of_octets who k octets) (connection_after_octets who k octets)
octets_led who [] ns k led =
    let P : List Notice → Type 0 = λ xs. HasLed who xs k in
    subst P (sym (append-nil ns)) led
octets_led who (x ∷ octets) ns k led =
    let P : List Notice → Type 0 = λ xs. HasLed who xs (connection_after_octets who k (x ∷ octets)) in
    subst P (append_assoc ns (list_of_notice (notice_of_octet who k x)) (notices_of_octets who (connection_after_octet who k x) octets))
    (octets_led who octets (ns ++ list_of_notice (notice_of_octet who k x)) (connection_after_octet who k x) (octet_led who ns k x led))

-- the meaning of a connection's octets led to the connection after them
meaning_led : (who : CarrierIdentity) (octets : List ℕ) → HasLed who (meaning_of_octets who octets false) (left_by_octets who octets)
meaning_led who octets = rw (octets-open who octets, octets-left who octets) (octets_led who octets [] (new_connection who) (refl, refl))

-- ---- the number after an answer

-- the number after the frames of events is of the same version as the number before them
events_number : (version : Version) (carrier : ℕ) (events : List Notice) (entries : List Entry) (next : Option ℕ) → AreEvents events →
    IsNumbered version next →
    IsNumbered version (next_after_frames next (session_frames carrier events entries))
events_number version carrier [] entries next are is = is
events_number version carrier (Accepted c v ∷ events) entries next are is = absurd are.0
events_number version carrier (Refused c refusal ∷ events) entries next are is = absurd are.0
events_number version carrier (Rejected fault ∷ events) entries next are is = absurd are.0
events_number version carrier (Happened event ∷ events) [] next are is = is
events_number version carrier (Happened event ∷ events) (entry ∷ entries) next are is =
    let P : Option ℕ → Type 0 = IsNumbered version in
    let said : List FrameOut = if is_poll_of carrier entry.event then event_frames entry.event entry.acts.list else [] in
    subst P (sym (fold-append next_after next said (session_frames carrier events entries)))
    (events_number version carrier events entries (next_after_frames next said) are.1 (said_numbers (is_poll_of carrier entry.event)))
  where
    said_numbers : (b : Bool) → IsNumbered version (next_after_frames next (if b then event_frames entry.event entry.acts.list else []))
    said_numbers true = event_frames_number version entry.event entry.acts.list next is
    said_numbers false = is

-- the notice that is kept is the acceptance, or an event
kept_number : (version : Version) (kept : Option SiteNotice) (next : Option ℕ) → AreEvents (kept_of kept) → IsNumbered version next →
    IsNumbered version (next_when_answered kept next)
kept_number version None next are is = is
kept_number version (Some (site.Accepted c v)) next are is = absurd are.0
kept_number version (Some (site.Happened event)) next are is = is

tail_events : (done : List Notice) (more : List Notice) (events : List Notice) → events ≡ done ++ more → AreEvents events → AreEvents done ×
    AreEvents more
tail_events [] more events is are =
    let P : List Notice → Type 0 = AreEvents in (tt, subst P is are)
tail_events (n ∷ done) more events is are =
    let P : List Notice → Type 0 = AreEvents in
    let both : AreEvents (n ∷ (done ++ more)) = subst P is are in
    let rest = tail_events done more (done ++ more) refl both.1 in
    ((both.0, rest.0), rest.1)

-- ---- a link

abbrev accepts_first : List Notice → Bool
accepts_first (Accepted c v ∷ ns) = true
accepts_first other = false

abbrev version_first : Version → List Notice → Version
version_first version (Accepted c v ∷ ns) = v
version_first version other = version

abbrev carrier_first : ℕ → List Notice → ℕ
carrier_first carrier (Accepted c v ∷ ns) = c
carrier_first carrier other = carrier

abbrev after_first : List Notice → List Notice
after_first [] = []
after_first (n ∷ ns) = ns

-- the acceptance is kept
first_kept : (who : CarrierIdentity) (version : Version) (kept : Option SiteNotice) → BeganIn who version (kept_of kept) →
    IsNumbered version (next_when_answered kept None)
first_kept who version None began = absurd (false≢true (ap accepts_first began.is))
first_kept who version (Some (site.Happened event)) began = absurd (false≢true (ap accepts_first began.is))
first_kept who version (Some (site.Accepted c v)) began =
    let P : Version → Type 0 = λ u. IsNumbered u (first_number (version_octet v)) in
    subst P (ap (version_first version) began.is) (begins_numbered v)

-- the acceptance was answered, and events came after it
module _ (who : CarrierIdentity) (version v : Version) (c : ℕ) (ds : List Notice) (kept : Option SiteNotice)
    (began : BeganIn who version (Accepted c v ∷ (ds ++ kept_of kept))) where
  its_events : AreEvents ds × AreEvents (kept_of kept)
  its_events = tail_events ds (kept_of kept) began.events (sym (ap after_first began.is)) began.each

  is_its_carrier : c == who.carrier ≡ true
  is_its_carrier = eq-eqb c who.carrier (ap (carrier_first c) began.is)

  welcomed : (b : Bool) (entries : List Entry) → b ≡ true → IsNumbered v
      (next_after_frames None ((if b then welcome v else []) ++ session_frames who.carrier ds entries))
  welcomed true entries is = events_number v who.carrier ds entries (first_number (version_octet v)) its_events.0 (begins_numbered v)
  welcomed false entries is = absurd (false≢true is)

  first_answered : (entry : Entry) (entries : List Entry) → IsNumbered version
      (next_when_answered kept (next_after_frames None (session_frames who.carrier (Accepted c v ∷ ds) (entry ∷ entries))))
  first_answered entry entries =
      let P : Version → Type 0 = λ u. IsNumbered u
      (next_when_answered kept (next_after_frames None (session_frames who.carrier (Accepted c v ∷ ds) (entry ∷ entries)))) in
      subst P (ap (version_first version) began.is) (kept_number v kept _ its_events.1 (welcomed (c == who.carrier) entries is_its_carrier))

answered_number : (who : CarrierIdentity) (version : Version) (done : List Notice) (kept : Option SiteNotice) (calls : List Deposit) →
    BeganIn who version (done ++ kept_of kept) →
    events_in done ≡ map (λ d. d.event) calls → IsNumbered version
    (next_when_answered kept (next_after_frames None (session_frames who.carrier done (map entry_of_deposit calls))))
answered_number who version [] kept calls began events = first_kept who version kept began
answered_number who version (Happened event ∷ ds) kept calls began events = absurd (false≢true (ap accepts_first began.is))
answered_number who version (Refused c refusal ∷ ds) kept calls began events = absurd (false≢true (ap accepts_first began.is))
answered_number who version (Rejected fault ∷ ds) kept calls began events = absurd (false≢true (ap accepts_first began.is))
answered_number who version (Accepted c v ∷ ds) kept [] began events = let none : suc (length (events_in ds)) ≡ 0 =
    ap (λ (es : List Event). length es) events in absurd (omega (arith, none))
answered_number who version (Accepted c v ∷ ds) kept (call ∷ calls) began events =
    first_answered who version v c ds kept began (entry_of_deposit call) (map entry_of_deposit calls)

led_numbered : (who : CarrierIdentity) (done : List Notice) (kept : Option SiteNotice) (calls : List Deposit) (k : Connection) →
    HasLed who (done ++ kept_of kept) k → events_in done ≡ map (λ d. d.event) calls →
    IsNumberingOf k (next_when_answered kept (next_after_frames None (session_frames who.carrier done (map entry_of_deposit calls))))
led_numbered who done kept calls Closed led events = tt
led_numbered who done kept calls (Waiting rest) led events = tt
led_numbered who done kept calls (Running (Faulty cause) newest) led events = led
led_numbered who done kept calls (Running (Open (First version) q) newest) led events = led
led_numbered who done kept calls (Running (Open (Later version) q) newest) led events =
    answered_number who version done kept calls led events

closed_numbered : (k : Stream) (kept : Option SiteNotice) → IsClosed k → IsLinkNumbering k kept
closed_numbered stream.Closed kept closed = tt
closed_numbered (stream.Lines begun) kept closed = tt
closed_numbered (stream.Frames state) kept closed = shut state.connection closed
  where
    shut : (k : Connection) → is_open k ≡ false → IsNumberingOf k (next_when_answered kept state.numbering)
    shut Closed closed = tt
    shut (Waiting rest) closed = tt
    shut (Running rest newest) closed = absurd (false≢true (sym closed))

module _ (who : CarrierIdentity) (l : LinkState) (whose : l.who ≡ Carrier who) where
  going_numbered : (read behind : List ℕ) (done : List Notice) (calls : List Deposit) →
      meaning_from l.who read false ≡ done ++ notices_waiting l → events_in done ≡ map (λ d. d.event) calls →
      IsAt Going l read (next_onward l.who None done calls) behind → IsLinkNumbering l.connection l.pending.kept
  going_numbered read behind done calls means events place =
      let here : l.connection ≡ left_from (Carrier who) read (next_onward (Carrier who) None done calls) =
      place.1 ∙ ap (λ (w : Peer). left_from w read (next_onward w None done calls)) whose in
      let all : meaning_of_octets who read false ≡ done ++ kept_of l.pending.kept =
      ap (λ (w : Peer). meaning_from w read false) (sym whose)
      ∙ means
      ∙ ap (λ (lost : Option ℕ). done ++ (kept_of l.pending.kept ++ lost_of lost)) place.2
      ∙ ap (λ (ns : List Notice). done ++ ns) (append-nil (kept_of l.pending.kept))
      in
      let P : List Notice → Type 0 = λ ns. HasLed who ns (left_by_octets who read) in
      rw here (led_numbered who done l.pending.kept calls (left_by_octets who read) (subst P all (meaning_led who read)) events)

  how_numbered : (how : How) (read behind : List ℕ) (done : List Notice) (calls : List Deposit) →
      meaning_from l.who read (has_ended how) ≡ done ++ notices_waiting l → events_in done ≡ map (λ d. d.event) calls →
      IsAt how l read (next_onward l.who None done calls) behind → IsLinkNumbering l.connection l.pending.kept
  how_numbered Going read behind done calls means events place = going_numbered read behind done calls means events place
  how_numbered InputOver read behind done calls means events place = closed_numbered l.connection l.pending.kept place.1
  how_numbered ReadFaulty read behind done calls means events place = closed_numbered l.connection l.pending.kept place.1
  how_numbered WriteFaulty read behind done calls means events place = closed_numbered l.connection l.pending.kept place.0
  how_numbered (CutAfter n false) read behind done calls means events place = closed_numbered l.connection l.pending.kept place.1
  how_numbered (CutAfter n true) read behind done calls means events place = closed_numbered l.connection l.pending.kept place.1

  pub link_numbered : (past : List Session) → HasPast l past → IsLinkNumbering l.connection l.pending.kept
  link_numbered [] is = closed_numbered l.connection l.pending.kept is.0.connection
  link_numbered (s ∷ ss) is = how_numbered s.how is.0.read is.0.behind is.0.done s.calls is.0.means is.0.events is.0.place
