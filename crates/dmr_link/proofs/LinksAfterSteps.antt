-- A link is as its session leads to, after an answer or a Lost, and before anything has ended it.
use Rattle.std.proofs.Common.{◌≡◌, ℕ, List, [], ◌∷◌, ◌++◌, Bool, true, false, Option, Some, None, refl, sym, ap, ◌∙◌, append_assoc}
use Rattle.std.proofs.lemmas.List.{append-nil}
use Rattle.dmr_core.specs.declared.act.Acts.{Acts}
use Rattle.dmr_core.specs.declared.event.Event.{Event}
use Rattle.dmr_core.specs.declared.event.Event.TheVariants.{Lost}
use Rattle.dmr_link.specs.Notices.{Notice}
use Rattle.dmr_link.specs.Notices.{Happened, site_notice, event_of_notice}
use Rattle.dmr_link.specs.declared.notices.SiteNotice.{SiteNotice}
use Rattle.dmr_link.specs.declared.notices.SiteNotice.TheVariants as site
use Rattle.dmr_link.specs.declared.desk.Deposit.{Deposit}
use Rattle.dmr_wire.specs.declared.closing.Closing.TheVariants as closing
use Rattle.dmr_link.specs.declared.stream.Peer.{Peer}
use Rattle.dmr_link.specs.declared.stream.Peer.TheVariants.{Carrier, Operator}
use Rattle.dmr_link.specs.declared.stream.Stream.{Stream}
use Rattle.dmr_link.specs.declared.stream.Stream.TheVariants as stream
use Rattle.dmr_link.specs.declared.link_state.LinkState.{LinkState}
use Rattle.dmr_link.specs.CarrierStates.{state_on}
use Rattle.dmr_link.specs.Meaning.{left_by_octets}
use Rattle.dmr_link.specs.Session.{events_in}
use Rattle.dmr_link.specs.Peers.{meaning_from, left_from, text_onward, next_onward, text_to_peer, answer_text, next_after_answer, up_of}
use Rattle.dmr_link.specs.Peers.{is_going, numbered, numbering_of}
use Rattle.dmr_link.specs.Sessions.{How, Going, InputOver, ReadFaulty, WriteFaulty, CutAfter, Session, with_taken, how_then, with_how}
use Rattle.dmr_link.specs.Sessions.{with_calls, closed_by, has_ended, kept_of, lost_of, notices_waiting, IsAt, IsLeftBy, IsOn, IsQuiet}
use Rattle.dmr_link.specs.Sessions.{IsTaken}
use Rattle.dmr_link.specs.LinkSteps.{closed_as, with_next, with_pending}
use Rattle.dmr_link.proofs.TextsGrow.{IsOwn, events_of, events_more, text-append, text_event, next_event, text_lost, text_extra}
use Rattle.dmr_link.proofs.TextsGrow.{meaning_end, next_of, lost_own}

-- a connection, by its parts
abbrev pub session : List ℕ → List ℕ → How → Bool → List Deposit → Session
session came taken how cut calls = record { came = came; taken = taken; how = how; is_cut = cut; calls = calls }

abbrev pub deposit : Event → Acts → Deposit
deposit event acts = record { event = event; acts = acts }

-- the link after the desk took the event that was kept
abbrev pub unkept : LinkState → LinkState
unkept l = with_pending l (record { kept = None; lost = l.pending.lost })

abbrev pub unlost : LinkState → LinkState
unlost l = with_pending l (record { kept = l.pending.kept; lost = None })

-- the link after the answer to that event was written, too
abbrev pub replied : LinkState → SiteNotice → Acts → LinkState
replied l e acts = with_next (unkept l) (next_after_answer (numbering_of l.connection) e acts)

-- the notice that was kept is done
means_kept : (l : LinkState) (e : SiteNotice) (ns done : List Notice) → l.pending.kept ≡ Some e → ns ≡ done ++ notices_waiting l →
    ns ≡ (done ++ site_notice e ∷ []) ++ notices_waiting (unkept l)
means_kept l e ns done kept means =
    means
    ∙ ap (λ (k : Option SiteNotice). done ++ (kept_of k ++ lost_of l.pending.lost)) kept
    ∙ sym (append_assoc done (site_notice e ∷ []) (lost_of l.pending.lost))

-- ---- how a connection has ended, or not

-- while a link is quiet, its connection has not ended
pub by_going : (l : LinkState) → IsQuiet l → (s : Session) (P : How → Type 0) →
    (IsLeftBy l (session s.came s.taken Going s.is_cut s.calls) → P Going) → (how : How) →
    IsLeftBy l (session s.came s.taken how s.is_cut s.calls) → P how
by_going l quiet s P here Going h = here h
by_going l quiet s P here InputOver h = absurd (quiet.stays h.place.1)
by_going l quiet s P here ReadFaulty h = absurd (quiet.stays h.place.1)
by_going l quiet s P here WriteFaulty h = absurd (quiet.stays h.place.0)
by_going l quiet s P here (CutAfter n false) h = absurd (quiet.stays h.place.1)
by_going l quiet s P here (CutAfter n true) h = absurd (quiet.stays h.place.1)

-- nor has it while the link keeps an event and was not cut
by_kept : (l : LinkState) (e : SiteNotice) → l.pending.kept ≡ Some e → l.is_cut ≡ false → (s : Session) (P : How → Type 0) →
    (IsLeftBy l (session s.came s.taken Going s.is_cut s.calls) → P Going) → (how : How) →
    IsLeftBy l (session s.came s.taken how s.is_cut s.calls) → P how
by_kept l e kept is s P here Going h = here h
by_kept l e kept is s P here InputOver h = let e1 = h.place.2 in absurd (cc (e1, kept))
by_kept l e kept is s P here ReadFaulty h = let e1 = h.place.2 in absurd (cc (e1, kept))
by_kept l e kept is s P here WriteFaulty h = let e1 = h.place.1 in absurd (cc (e1, kept))
by_kept l e kept is s P here (CutAfter n false) h = let e1 = h.place.2 in absurd (cc (e1, is))
by_kept l e kept is s P here (CutAfter n true) h = let e1 = h.place.2 in absurd (cc (e1, is))

pub left_open : (l : LinkState) → IsQuiet l → (s : Session) → IsLeftBy l s → IsOn s
left_open l quiet s h =
    by_going l quiet s (λ how. (how ≡ Going) × (s.is_cut ≡ false)) (λ h. (refl, sym h.cut ∙ h.place.3)) s.how h

pub left_kept : (l : LinkState) (e : SiteNotice) → l.pending.kept ≡ Some e → l.is_cut ≡ false → (s : Session) → IsLeftBy l s → IsOn s
left_kept l e kept is s h =
    by_kept l e kept is s (λ how. (how ≡ Going) × (s.is_cut ≡ false)) (λ h. (refl, sym h.cut ∙ is)) s.how h

-- ---- the number of the next TX

-- while a connection goes on, the number is the one that follows from its text
number_here : (who : Peer) (read : List ℕ) (done : List Notice) (calls : List Deposit) →
    numbering_of (left_from who read (next_onward who None done calls)) ≡ next_onward who None done calls
number_here (Carrier who) read done calls = refl
number_here Operator read done calls = refl

renumbered : (who : Peer) (read : List ℕ) (old next new : Option ℕ) → next ≡ new →
    numbered (left_from who read old) next ≡ left_from who read new
renumbered (Carrier who) read old next new is = ap (λ (n : Option ℕ). stream.Frames (state_on who (left_by_octets who read) n)) is
renumbered Operator read old next new is = refl

going_numbered : (k : Stream) (next : Option ℕ) → is_going (numbered k next) ≡ is_going k
going_numbered stream.Closed next = refl
going_numbered (stream.Frames state) next = refl
going_numbered (stream.Lines begun) next = refl

-- ---- the event that was kept is handed in

module _ (l : LinkState) (e : SiteNotice) (acts : Acts) (kept : l.pending.kept ≡ Some e) where
  abbrev next : Option ℕ
  next = next_after_answer (numbering_of l.connection) e acts

  numbers : (read : List ℕ) (done : List Notice) (calls : List Deposit) →
      l.connection ≡ left_from l.who read (next_onward l.who None done calls) →
      numbering_of l.connection ≡ next_onward l.who None done calls
  numbers read done calls at = ap (λ (q : Stream). numbering_of q) at ∙ number_here l.who read done calls

  -- the text of the answer, after the notices that are done
  abbrev answer : List Notice → List Deposit → List ℕ
  answer done calls = text_onward l.who (next_onward l.who None done calls) (site_notice e ∷ []) (deposit (event_of_notice e) acts ∷ [])

  -- the connection was cut, and no answer is written
  muted : (came taken : List ℕ) (how : How) (cut : Bool) (calls : List Deposit) → l.is_cut ≡ true →
      IsLeftBy l (session came taken how cut calls) → IsLeftBy (unkept l)
      (session came taken how cut (calls ++ deposit (event_of_notice e) acts ∷ []))
  muted came taken Going cut calls is h = let e1 = h.place.3 in absurd (cc (e1, is))
  muted came taken InputOver cut calls is h = let e1 = h.place.2 in absurd (cc (e1, kept))
  muted came taken ReadFaulty cut calls is h = let e1 = h.place.2 in absurd (cc (e1, kept))
  muted came taken WriteFaulty cut calls is h = let e1 = h.place.1 in absurd (cc (e1, kept))
  muted came taken (CutAfter n false) cut calls is h = let e1 = h.place.3 in absurd (cc (e1, kept))
  muted came taken (CutAfter n true) cut calls is h = record {
    read = h.read;
    behind = h.behind;
    done = h.done ++ site_notice e ∷ [];
    came = h.came;
    means = means_kept l e (meaning_from l.who h.read true) h.done kept h.means;
    events = events_more h.done calls e acts h.events;
    taken = (
      h.taken.0 ++ answer h.done calls,
      sym (append_assoc taken h.taken.0 (answer h.done calls))
          ∙ ap (λ (t : List ℕ). t ++ answer h.done calls) h.taken.1
          ∙ sym (text-append l.who None h.done (site_notice e ∷ []) calls (deposit (event_of_notice e) acts ∷ []) h.events),
    );
    place = h.place;
    cut = h.cut;
    why = h.why;
  }

  pub left_muted : (s : Session) → l.is_cut ≡ true → IsLeftBy l s → IsLeftBy (unkept l)
      (with_calls s (deposit (event_of_notice e) acts ∷ []))
  left_muted s is h = muted s.came s.taken s.how s.is_cut s.calls is h

  kept_own : (read : List ℕ) (done : List Notice) → meaning_from l.who read false ≡ done ++ notices_waiting l → IsOwn l.who (site_notice e)
  kept_own read done means =
      next_of l.who read done (lost_of l.pending.lost) (site_notice e)
      (means ∙ ap (λ (k : Option SiteNotice). done ++ (kept_of k ++ lost_of l.pending.lost)) kept)

  -- the answer is written
  answered : (came taken : List ℕ) (cut : Bool) (calls : List Deposit) → IsLeftBy l (session came taken Going cut calls) →
      IsLeftBy (replied l e acts) (session came (taken ++ answer_text (numbering_of l.connection) e acts) Going cut
      (calls ++ deposit (event_of_notice e) acts ∷ []))
  answered came taken cut calls h = record {
    read = h.read;
    behind = h.behind;
    done = h.done ++ site_notice e ∷ [];
    came = h.came;
    means = means_kept l e (meaning_from l.who h.read false) h.done kept h.means;
    events = events_more h.done calls e acts h.events;
    taken =
        (λ i. h.taken i ++ answer_text (numbers h.read h.done calls h.place.1 i) e acts)
        ∙ sym (text_event l.who h.done calls e acts h.events (kept_own h.read h.done h.means));
    place = (
      h.place.0,
      ap (λ (q : Stream). numbered q next) h.place.1
          ∙ renumbered l.who h.read (next_onward l.who None h.done calls) next
          (next_onward l.who None (h.done ++ site_notice e ∷ []) (calls ++ deposit (event_of_notice e) acts ∷ []))
          (ap (λ (n : Option ℕ). next_after_answer n e acts) (numbers h.read h.done calls h.place.1)
          ∙ sym (next_event l.who h.done calls e acts h.events (kept_own h.read h.done h.means))),
      h.place.2,
      h.place.3,
    );
    cut = h.cut;
    why = λ at. h.why (sym (going_numbered l.connection next) ∙ at);
  }

  pub left_answered : (s : Session) → l.is_cut ≡ false → IsLeftBy l s →
      IsLeftBy (replied l e acts) (with_taken (with_calls s (deposit (event_of_notice e) acts ∷ []))
      (answer_text (numbering_of l.connection) e acts))
  left_answered s is h =
      by_kept l e kept is s (λ how. IsLeftBy (replied l e acts)
      (session s.came (s.taken ++ answer_text (numbering_of l.connection) e acts) how s.is_cut
      (s.calls ++ deposit (event_of_notice e) acts ∷ [])))
      (answered s.came s.taken s.is_cut s.calls) s.how h

  -- the write of the answer fails
  module _ (part : List ℕ) (octet : ℕ) (missing : List ℕ) (short : part ++ octet ∷ missing ≡ answer_text (numbering_of l.connection) e acts)
    where
      broken : (came taken : List ℕ) (cut : Bool) (calls : List Deposit) → l.is_cut ≡ false →
          IsLeftBy l (session came taken Going cut calls) →
          IsLeftBy (closed_as (unkept l) closing.WriteFailed)
          (session came (taken ++ part) WriteFaulty cut (calls ++ deposit (event_of_notice e) acts ∷ []))
      broken came taken cut calls is h =
          let until : meaning_from l.who h.read false ≡ h.done ++ site_notice e ∷ [] =
          h.means ∙ (λ i. h.done ++ (kept_of (kept i) ++ lost_of (h.place.2 i))) in
          let events : events_in (h.done ++ site_notice e ∷ []) ≡ events_of (calls ++ deposit (event_of_notice e) acts ∷ []) =
          events_more h.done calls e acts h.events in
          let uncut : cut ≡ false = sym h.cut ∙ is in
          record {
            read = h.read;
            behind = h.behind;
            done = h.done ++ site_notice e ∷ [];
            came = h.came;
            means =
                meaning_end l.who h.read (next_onward l.who None h.done calls)
                ∙ (λ i. until i ++ lost_of (up_of (sym h.place.1 i)));
            events = events;
            taken = record {
              before = h.done;
              last = site_notice e;
              more = [];
              first = calls ++ deposit (event_of_notice e) acts ∷ [];
              later = [];
              part = part;
              octet = octet;
              missing = missing;
              means = until;
              reached = sym (append-nil (h.done ++ site_notice e ∷ []));
              split = sym (append-nil (calls ++ deposit (event_of_notice e) acts ∷ []));
              events = events;
              whole = ap (λ (t : List ℕ). t ++ part)
                  (h.taken ∙ sym (text_extra l.who h.done calls (deposit (event_of_notice e) acts ∷ []) h.events));
              short =
                  append_assoc taken part (octet ∷ missing)
                  ∙ (λ i. h.taken i ++ short i)
                  ∙ ap (λ (n : Option ℕ). text_to_peer l.who h.done calls ++ answer_text n e acts) (numbers h.read h.done calls h.place.1)
                  ∙ sym (text_event l.who h.done calls e acts h.events (kept_own h.read h.done h.means));
            };
            place = (refl, refl);
            cut = h.cut;
            why = λ at. ap (λ (b : Bool). closed_by l.who WriteFaulty b h.read) uncut;
          }

      pub left_broken : (s : Session) → l.is_cut ≡ false → IsLeftBy l s →
          IsLeftBy (closed_as (unkept l) closing.WriteFailed)
          (with_how (with_taken (with_calls s (deposit (event_of_notice e) acts ∷ [])) part) WriteFaulty)
      left_broken s is h =
          by_kept l e kept is s (λ how. IsLeftBy (closed_as (unkept l) closing.WriteFailed)
          (session s.came (s.taken ++ part) (how_then how WriteFaulty) s.is_cut (s.calls ++ deposit (event_of_notice e) acts ∷ [])))
          (broken s.came s.taken s.is_cut s.calls is) s.how h

-- ---- the Lost that must follow an Up is handed in

module _ (l : LinkState) (c : ℕ) (acts : Acts) (lost : l.pending.lost ≡ Some c) (none : l.pending.kept ≡ None) where
  means_lost : (ns done : List Notice) → ns ≡ done ++ notices_waiting l →
      ns ≡ (done ++ Happened (Lost c) ∷ []) ++ notices_waiting (unlost l)
  means_lost ns done means =
      means
      ∙ (λ i. done ++ (kept_of (none i) ++ lost_of (lost i)))
      ∙ sym (append-nil (done ++ Happened (Lost c) ∷ []))
      ∙ ap (λ (k : Option SiteNotice). (done ++ Happened (Lost c) ∷ []) ++ (kept_of k ++ [])) (sym none)

  own : (read : List ℕ) (done : List Notice) → meaning_from l.who read true ≡ done ++ notices_waiting l → IsOwn l.who (Happened (Lost c))
  own read done means = lost_own l.who read done c (means ∙ (λ i. done ++ (kept_of (none i) ++ lost_of (lost i))))

  -- what it took, by how the connection ended
  taken_lost : (how : How) (read taken : List ℕ) (done : List Notice) (calls : List Deposit) → events_in done ≡ events_of calls →
      IsOwn l.who (Happened (Lost c)) → IsTaken l.who how read done taken calls →
      IsTaken l.who how read (done ++ Happened (Lost c) ∷ []) taken (calls ++ deposit (Lost c) acts ∷ [])
  taken_lost Going read taken done calls same mine took = took ∙ sym (text_lost l.who done calls c acts same mine)
  taken_lost InputOver read taken done calls same mine took = took ∙ sym (text_lost l.who done calls c acts same mine)
  taken_lost ReadFaulty read taken done calls same mine took = took ∙ sym (text_lost l.who done calls c acts same mine)
  taken_lost (CutAfter n false) read taken done calls same mine took = took ∙ sym (text_lost l.who done calls c acts same mine)
  taken_lost (CutAfter n true) read taken done calls same mine took = (took.0, took.1 ∙ sym (text_lost l.who done calls c acts same mine))
  taken_lost WriteFaulty read taken done calls same mine took = record {
    before = took.before;
    last = took.last;
    more = took.more ++ Happened (Lost c) ∷ [];
    first = took.first;
    later = took.later ++ deposit (Lost c) acts ∷ [];
    part = took.part;
    octet = took.octet;
    missing = took.missing;
    means = took.means;
    reached =
        ap (λ (ns : List Notice). ns ++ Happened (Lost c) ∷ []) took.reached
        ∙ append_assoc (took.before ++ took.last ∷ []) took.more (Happened (Lost c) ∷ []);
    split =
        ap (λ (ds : List Deposit). ds ++ deposit (Lost c) acts ∷ []) took.split
        ∙ append_assoc took.first took.later (deposit (Lost c) acts ∷ []);
    events = took.events;
    whole = took.whole;
    short = took.short;
  }

  -- the state of the link, by how the connection ended: it has ended, since a Lost is pending
  place_lost : (how : How) (read : List ℕ) (next new : Option ℕ) (behind : List ℕ) → IsAt how l read next behind →
      (has_ended how ≡ true) × IsAt how (unlost l) read new behind
  place_lost Going read next new behind place = let e1 = place.2 in absurd (cc (e1, lost))
  place_lost InputOver read next new behind place = (refl, place)
  place_lost ReadFaulty read next new behind place = (refl, place)
  place_lost WriteFaulty read next new behind place = (refl, place)
  place_lost (CutAfter n false) read next new behind place = (refl, place)
  place_lost (CutAfter n true) read next new behind place = (refl, place)

  over : (came taken : List ℕ) (how : How) (cut : Bool) (calls : List Deposit) →
      IsLeftBy l (session came taken how cut calls) → IsLeftBy (unlost l) (session came taken how cut (calls ++ deposit (Lost c) acts ∷ []))
  over came taken how cut calls h =
      let placed = place_lost how h.read _ _ h.behind h.place in
      let mine : IsOwn l.who (Happened (Lost c)) =
      own h.read h.done (ap (meaning_from l.who h.read) (sym placed.0) ∙ h.means) in
      record {
        read = h.read;
        behind = h.behind;
        done = h.done ++ Happened (Lost c) ∷ [];
        came = h.came;
        means = means_lost (meaning_from l.who h.read (has_ended how)) h.done h.means;
        events = events_more h.done calls (site.Happened (Lost c)) acts h.events;
        taken = taken_lost how h.read taken h.done calls h.events mine h.taken;
        place = placed.1;
        cut = h.cut;
        why = h.why;
      }

  pub left_over : (s : Session) → IsLeftBy l s → IsLeftBy (unlost l) (with_calls s (deposit (Lost c) acts ∷ []))
  left_over s h = over s.came s.taken s.how s.is_cut s.calls h
