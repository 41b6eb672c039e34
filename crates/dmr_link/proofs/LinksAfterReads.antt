-- A link is as its session leads to, after a read and after each piece.
use Rattle.std.proofs.Common.{◌≡◌, ℕ, List, [], ◌∷◌, ◌++◌, Bool, true, false, Option, Some, None, refl, sym, ap, subst, ◌∙◌, append_assoc}
use Rattle.std.proofs.lemmas.List.{append-nil}
use Rattle.std.proofs.lemmas.List.Elements.{filter_map-append}
use Rattle.dmr_core.specs.declared.event.Event.{Event}
use Rattle.dmr_link.specs.Notices.{Notice}
use Rattle.dmr_link.specs.Notices.{Happened, Accepted, Refused, Rejected}
use Rattle.dmr_link.specs.declared.notices.SiteNotice.{SiteNotice}
use Rattle.dmr_link.specs.declared.desk.Deposit.{Deposit}
use Rattle.dmr_wire.specs.declared.closing.Closing.{Closing}
use Rattle.dmr_wire.specs.declared.closing.Closing.TheVariants as closing
use Rattle.dmr_link.specs.declared.stream.Peer.{Peer}
use Rattle.dmr_link.specs.declared.stream.Stream.{Stream}
use Rattle.dmr_link.specs.declared.link_state.LinkState.{LinkState}
use Rattle.dmr_link.specs.Notices.{list_of_notice}
use Rattle.dmr_link.specs.Session.{events_in, event_in}
use Rattle.dmr_link.specs.Peers.{meaning_from, left_from, text_onward, next_onward, text_to_peer, peer_notice_text, up_of, all_produce}
use Rattle.dmr_link.specs.Peers.{left_after, closes_by}
use Rattle.dmr_link.specs.Sessions.{Going, InputOver, ReadFaulty, WriteFaulty, Session, with_came, with_taken, how_then, with_how}
use Rattle.dmr_link.specs.Sessions.{closed_by, kept_of, lost_of, notices_waiting, IsClosed, IsLeftBy, IsQuiet}
use Rattle.dmr_link.specs.LinkSteps.{closed_as, kept_then, peer_notice_of, closing_then, state_after}
use Rattle.dmr_link.proofs.ClosingsByOctets.{closes_how, closing_more}
use Rattle.dmr_link.proofs.TextsGrow.{events_of, text_quiet, next_quiet, text_alone, next_alone, text_nothing, next_nothing, meaning_more}
use Rattle.dmr_link.proofs.TextsGrow.{left_more, meaning_end, next_of}
use Rattle.dmr_link.proofs.LinksAfterSteps.{by_going, session}

-- ---- a piece of unread octets is processed

-- the link with these octets unread
abbrev pub with_unread : LinkState → List ℕ → LinkState
with_unread l octets = record {
  who = l.who;
  connection = l.connection;
  pending = l.pending;
  is_cut = l.is_cut;
  unread = octets;
  closing = l.closing;
}

-- the notice, if it is for the peer alone, as a list
abbrev peer_only : Option Notice → List Notice
peer_only n = list_of_notice (peer_notice_of n)

peer_only_kept : (n : Option Notice) → list_of_notice n ≡ peer_only n ++ kept_of (kept_then None n)
peer_only_kept None = refl
peer_only_kept (Some (Happened e)) = refl
peer_only_kept (Some (Accepted c version)) = refl
peer_only_kept (Some (Refused c r)) = refl
peer_only_kept (Some (Rejected fault)) = refl

peer_only_none : (n : Option Notice) → events_in (peer_only n) ≡ []
peer_only_none None = refl
peer_only_none (Some (Happened e)) = refl
peer_only_none (Some (Accepted c version)) = refl
peer_only_none (Some (Refused c r)) = refl
peer_only_none (Some (Rejected fault)) = refl

-- a notice for the peer alone is not kept
alone_is : (n : Option Notice) (it : Notice) → peer_notice_of n ≡ Some it → n ≡ Some it
alone_is None it is = cc
alone_is (Some (Happened e)) it is = cc
alone_is (Some (Accepted c version)) it is = cc
alone_is (Some (Refused c r)) it is = is
alone_is (Some (Rejected fault)) it is = is

kept_none : (n : Option Notice) (it : Notice) → peer_notice_of n ≡ Some it → kept_then None n ≡ None
kept_none None it is = refl
kept_none (Some (Happened e)) it is = cc
kept_none (Some (Accepted c version)) it is = cc
kept_none (Some (Refused c r)) it is = refl
kept_none (Some (Rejected fault)) it is = refl

-- no TX is sent for it
next_nowhere : (who : Peer) (next : Option ℕ) (n : Option Notice) → next_onward who next (peer_only n) [] ≡ next
next_nowhere who next None = next_nothing who next
next_nowhere who next (Some (Happened e)) = next_nothing who next
next_nowhere who next (Some (Accepted c version)) = next_nothing who next
next_nowhere who next (Some (Refused c r)) = next_alone who next (Refused c r)
next_nowhere who next (Some (Rejected fault)) = next_alone who next (Rejected fault)

module _ (l : LinkState) (xs : List ℕ) (it : Option Notice) (rest : List ℕ) (head : l.unread ≡ xs ++ rest)
    (brings : all_produce l.connection xs ≡ list_of_notice it) (quiet : IsQuiet l) where
  -- the notices that are done, and the one that is kept, after the piece
  means_taken : (read : List ℕ) (done : List Notice) → (next : Option ℕ) → l.connection ≡ left_from l.who read next →
      l.pending.lost ≡ None → meaning_from l.who read false ≡ done ++ notices_waiting l →
      meaning_from l.who (read ++ xs) false ≡ (done ++ peer_only it) ++ kept_of (kept_then l.pending.kept it)
  means_taken read done next at lost means =
      meaning_more l.who read next xs
      ∙ (λ i. means i ++ all_produce (sym at i) xs)
      ∙ ap (λ (ns : List Notice). (done ++ notices_waiting l) ++ ns) brings
      ∙ (λ i. (done ++ (kept_of (quiet.kept i) ++ lost_of (lost i))) ++ peer_only_kept it i)
      ∙ (λ i. append-nil done i ++ (peer_only it ++ kept_of (kept_then (sym quiet.kept i) it)))
      ∙ sym (append_assoc done (peer_only it) (kept_of (kept_then l.pending.kept it)))

  goes_on : (came taken text : List ℕ) (cut : Bool) (calls : List Deposit) (h : IsLeftBy l (session came taken Going cut calls)) →
      text ≡ text_to_peer l.who (h.done ++ peer_only it) calls →
      IsLeftBy (state_after l xs it rest) (session came text Going cut calls)
  goes_on came taken text cut calls h spoken =
      let k : Stream = l.connection in
      let stays : IsClosed (left_from l.who h.read (next_onward l.who None h.done calls)) → ⊥ = let P : Stream → Type 0 = λ q. IsClosed q →
      ⊥ in subst P h.place.1 quiet.stays in
      record {
        read = h.read ++ xs;
        behind = rest;
        done = h.done ++ peer_only it;
        came = h.came ∙ ap (λ (b : List ℕ). h.read ++ b) (h.place.0 ∙ head) ∙ sym (append_assoc h.read xs rest);
        means =
            means_taken h.read h.done _ h.place.1 h.place.2 h.means
            ∙ sym (append-nil ((h.done ++ peer_only it) ++ kept_of (kept_then l.pending.kept it)))
            ∙ append_assoc (h.done ++ peer_only it) (kept_of (kept_then l.pending.kept it)) []
            ∙ ap (λ (p : Option ℕ). (h.done ++ peer_only it) ++ (kept_of (kept_then l.pending.kept it) ++ lost_of p)) (sym h.place.2);
        events = filter_map-append event_in h.done (peer_only it) ∙ (λ i. h.events i ++ peer_only_none it i) ∙ append-nil (events_of calls);
        taken = spoken;
        place = (
          refl,
          ap (λ (q : Stream). left_after q xs) h.place.1
              ∙ sym (left_more l.who h.read (next_onward l.who None h.done calls) xs)
              ∙ ap (left_from l.who (h.read ++ xs))
              (sym (next_quiet l.who h.done (peer_only it) calls h.events
              ∙ next_nowhere l.who (next_onward l.who None h.done calls) it)),
          h.place.2,
          h.place.3,
        );
        cut = h.cut;
        why = λ at.
            let how = closes_how k xs quiet.stays at in
            ap (λ (b : Bool). closed_by l.who Going b (h.read ++ xs)) (sym h.cut ∙ h.place.3)
            ∙ closing_more l.who h.read (next_onward l.who None h.done calls) xs stays
            ∙ ap (λ (q : Stream). closes_by q xs) (sym h.place.1)
            ∙ how.1
            ∙ ap (λ (c : Option Closing). Some (closing_then l.closing c)) (sym how.1);
      }

  -- the piece produces no notice for the peer alone, and nothing is written
  quietly : (came taken : List ℕ) (cut : Bool) (calls : List Deposit) → peer_notice_of it ≡ None →
      IsLeftBy l (session came taken Going cut calls) → IsLeftBy (state_after l xs it rest) (session came taken Going cut calls)
  quietly came taken cut calls silent h =
      goes_on came taken taken cut calls h
      (h.taken ∙ sym (append-nil (text_to_peer l.who h.done calls))
      ∙ ap (λ (t : List ℕ). text_to_peer l.who h.done calls ++ t)
      (sym (ap (λ (n : Option Notice). text_onward l.who (next_onward l.who None h.done calls) (list_of_notice n) []) silent
      ∙ text_nothing l.who (next_onward l.who None h.done calls)))
      ∙ sym (text_quiet l.who h.done (peer_only it) calls h.events))

  pub left_received : (s : Session) → peer_notice_of it ≡ None → IsLeftBy l s → IsLeftBy (state_after l xs it rest) s
  left_received s silent h = by_going l quiet s (λ how. IsLeftBy (state_after l xs it rest) (session s.came s.taken how s.is_cut s.calls))
      (quietly s.came s.taken s.is_cut s.calls silent) s.how h

  -- the piece produces a notice for the peer alone
  module _ (n : Notice) (notice : peer_notice_of it ≡ Some n) where
    until : (read : List ℕ) (done : List Notice) → (next : Option ℕ) → l.connection ≡ left_from l.who read next → l.pending.lost ≡ None →
        meaning_from l.who read false ≡ done ++ notices_waiting l →
        meaning_from l.who (read ++ xs) false ≡ done ++ n ∷ []
    until read done next at lost means =
        means_taken read done next at lost means
        ∙ (λ i. (done ++ list_of_notice (notice i)) ++ kept_of (kept_then (quiet.kept i) it))
        ∙ ap (λ (p : Option SiteNotice). (done ++ n ∷ []) ++ kept_of p) (kept_none it n notice)
        ∙ append-nil (done ++ n ∷ [])

    spelled : (read : List ℕ) (done : List Notice) (calls : List Deposit) → (next : Option ℕ) → l.connection ≡ left_from l.who read next →
        l.pending.lost ≡ None → meaning_from l.who read false ≡ done ++ notices_waiting l → events_in done ≡ events_of calls →
        text_to_peer l.who (done ++ n ∷ []) calls ≡ text_to_peer l.who done calls ++ peer_notice_text n
    spelled read done calls next at lost means events =
        text_quiet l.who done (n ∷ []) calls events
        ∙ ap (λ (t : List ℕ). text_to_peer l.who done calls ++ t)
        (text_alone l.who (next_onward l.who None done calls) n
        (next_of l.who (read ++ xs) done [] n (until read done next at lost means)))

    reported_all : (came taken : List ℕ) (cut : Bool) (calls : List Deposit) →
        IsLeftBy l (session came taken Going cut calls) → IsLeftBy (state_after l xs it rest)
        (session came (taken ++ peer_notice_text n) Going cut calls)
    reported_all came taken cut calls h =
        goes_on came taken (taken ++ peer_notice_text n) cut calls h
        (ap (λ (t : List ℕ). t ++ peer_notice_text n) h.taken
        ∙ sym (spelled h.read h.done calls _ h.place.1 h.place.2 h.means h.events)
        ∙ ap (λ (p : Option Notice). text_to_peer l.who (h.done ++ list_of_notice p) calls) (sym notice))

    pub left_reported : (s : Session) → IsLeftBy l s → IsLeftBy (state_after l xs it rest) (with_taken s (peer_notice_text n))
    left_reported s h = by_going l quiet s
        (λ how. IsLeftBy (state_after l xs it rest) (session s.came (s.taken ++ peer_notice_text n) how s.is_cut s.calls))
        (reported_all s.came s.taken s.is_cut s.calls) s.how h

    module _ (part : List ℕ) (octet : ℕ) (missing : List ℕ) (short : part ++ octet ∷ missing ≡ peer_notice_text n) where
      reported_part : (came taken : List ℕ) (cut : Bool) (calls : List Deposit) →
          IsLeftBy l (session came taken Going cut calls) → IsLeftBy (closed_as (state_after l xs it rest) closing.WriteFailed)
          (session came (taken ++ part) WriteFaulty cut calls)
      reported_part came taken cut calls h =
          let k : Stream = l.connection in
          let means : meaning_from l.who (h.read ++ xs) false ≡ h.done ++ n ∷ [] = until h.read h.done _ h.place.1 h.place.2 h.means in
          let at : left_from l.who (h.read ++ xs) (next_onward l.who None h.done calls) ≡ left_after k xs =
          left_more l.who h.read (next_onward l.who None h.done calls) xs ∙ ap (λ (q : Stream). left_after q xs) (sym h.place.1) in
          let none : kept_then l.pending.kept it ≡ None =
          ap (λ (p : Option SiteNotice). kept_then p it) quiet.kept ∙ kept_none it n notice in
          let events : events_in (h.done ++ n ∷ []) ≡ events_of calls =
          filter_map-append event_in h.done (n ∷ []) ∙ (λ i. h.events i ++ events_in (list_of_notice (sym notice i)))
          ∙ ap (λ (es : List Event). events_of calls ++ es) (peer_only_none it) ∙ append-nil (events_of calls) in
          record {
            read = h.read ++ xs;
            behind = rest;
            done = h.done ++ n ∷ [];
            came = h.came ∙ ap (λ (b : List ℕ). h.read ++ b) (h.place.0 ∙ head) ∙ sym (append_assoc h.read xs rest);
            means =
                meaning_end l.who (h.read ++ xs) (next_onward l.who None h.done calls)
                ∙ (λ i. means i ++ lost_of (up_of (at i)))
                ∙ ap (λ (p : Option SiteNotice). (h.done ++ n ∷ []) ++ (kept_of p ++ lost_of (up_of (left_after k xs)))) (sym none);
            events = events;
            taken = record {
              before = h.done;
              last = n;
              more = [];
              first = calls;
              later = [];
              part = part;
              octet = octet;
              missing = missing;
              means = means;
              reached = sym (append-nil (h.done ++ n ∷ []));
              split = sym (append-nil calls);
              events = events;
              whole = ap (λ (t : List ℕ). t ++ part) h.taken;
              short =
                  append_assoc taken part (octet ∷ missing)
                  ∙ (λ i. h.taken i ++ short i)
                  ∙ sym (spelled h.read h.done calls _ h.place.1 h.place.2 h.means h.events);
            };
            place = (refl, none);
            cut = h.cut;
            why = λ e. ap (λ (b : Bool). closed_by l.who WriteFaulty b (h.read ++ xs)) (sym h.cut ∙ h.place.3);
          }

      pub left_reported_part : (s : Session) → IsLeftBy l s → IsLeftBy (closed_as (state_after l xs it rest) closing.WriteFailed)
          (with_how (with_taken s part) WriteFaulty)
      left_reported_part s h = by_going l quiet s
          (λ how. IsLeftBy (closed_as (state_after l xs it rest) closing.WriteFailed)
          (session s.came (s.taken ++ part) (how_then how WriteFaulty) s.is_cut s.calls))
          (reported_part s.came s.taken s.is_cut s.calls) s.how h

-- ---- a read

module _ (l : LinkState) (xs : List ℕ) (none : l.unread ≡ []) (quiet : IsQuiet l) where
  came_on : (came taken : List ℕ) (cut : Bool) (calls : List Deposit) →
      IsLeftBy l (session came taken Going cut calls) → IsLeftBy (with_unread l xs) (session (came ++ xs) taken Going cut calls)
  came_on came taken cut calls h =
      let gone : h.behind ≡ [] = h.place.0 ∙ none in
      record {
        read = h.read;
        behind = xs;
        done = h.done;
        came =
            ap (λ (t : List ℕ). t ++ xs) h.came
            ∙ ap (λ (t : List ℕ). (h.read ++ t) ++ xs) gone
            ∙ ap (λ (t : List ℕ). t ++ xs) (append-nil h.read);
        means = h.means;
        events = h.events;
        taken = h.taken;
        place = (refl, h.place.1, h.place.2, h.place.3);
        cut = h.cut;
        why = h.why;
      }

  pub left_came : (s : Session) → IsLeftBy l s → IsLeftBy (with_unread l xs) (with_came s xs)
  left_came s h = by_going l quiet s (λ how. IsLeftBy (with_unread l xs) (session (s.came ++ xs) s.taken how s.is_cut s.calls))
      (came_on s.came s.taken s.is_cut s.calls) s.how h

  means_ended : (read : List ℕ) (done : List Notice) → (next : Option ℕ) → l.connection ≡ left_from l.who read next →
      l.pending.lost ≡ None → meaning_from l.who read false ≡ done ++ notices_waiting l →
      meaning_from l.who read true ≡ done ++ (kept_of l.pending.kept ++ lost_of (up_of l.connection))
  means_ended read done next at lost means =
      meaning_end l.who read next
      ∙ (λ i. means i ++ lost_of (up_of (sym at i)))
      ∙ (λ i. (done ++ (kept_of (quiet.kept i) ++ lost_of (lost i))) ++ lost_of (up_of l.connection))
      ∙ (λ i. append-nil done i ++ (kept_of (sym quiet.kept i) ++ lost_of (up_of l.connection)))

  input_over : (came taken : List ℕ) (cut : Bool) (calls : List Deposit) →
      IsLeftBy l (session came taken Going cut calls) → IsLeftBy (closed_as (with_unread l xs) closing.Over)
      (session came taken InputOver cut calls)
  input_over came taken cut calls h = record {
    read = h.read;
    behind = [];
    done = h.done;
    came = h.came ∙ ap (λ (t : List ℕ). h.read ++ t) (h.place.0 ∙ none);
    means = means_ended h.read h.done _ h.place.1 h.place.2 h.means;
    events = h.events;
    taken = h.taken;
    place = (refl, refl, quiet.kept);
    cut = h.cut;
    why = λ at. ap (λ (b : Bool). closed_by l.who InputOver b h.read) (sym h.cut ∙ h.place.3);
  }

  pub left_input_over : (s : Session) → IsLeftBy l s → IsLeftBy (closed_as (with_unread l xs) closing.Over) (with_how s InputOver)
  left_input_over s h = by_going l quiet s
      (λ how. IsLeftBy (closed_as (with_unread l xs) closing.Over) (session s.came s.taken (how_then how InputOver) s.is_cut s.calls))
      (input_over s.came s.taken s.is_cut s.calls) s.how h

  read_failed : (came taken : List ℕ) (cut : Bool) (calls : List Deposit) →
      IsLeftBy l (session came taken Going cut calls) → IsLeftBy (closed_as (with_unread l xs) closing.ReadFailed)
      (session came taken ReadFaulty cut calls)
  read_failed came taken cut calls h = record {
    read = h.read;
    behind = [];
    done = h.done;
    came = h.came ∙ ap (λ (t : List ℕ). h.read ++ t) (h.place.0 ∙ none);
    means = means_ended h.read h.done _ h.place.1 h.place.2 h.means;
    events = h.events;
    taken = h.taken;
    place = (refl, refl, quiet.kept);
    cut = h.cut;
    why = λ at. ap (λ (b : Bool). closed_by l.who ReadFaulty b h.read) (sym h.cut ∙ h.place.3);
  }

  pub left_read_failed : (s : Session) → IsLeftBy l s → IsLeftBy (closed_as (with_unread l xs) closing.ReadFailed) (with_how s ReadFaulty)
  left_read_failed s h = by_going l quiet s
      (λ how. IsLeftBy (closed_as (with_unread l xs) closing.ReadFailed)
      (session s.came s.taken (how_then how ReadFaulty) s.is_cut s.calls)) (read_failed s.came s.taken s.is_cut s.calls) s.how h
