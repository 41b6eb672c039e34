-- The meanings of a link's connections, added up.
use Rattle.std.proofs.Common.{◌≡◌, List, [], ◌∷◌, ◌++◌, map, refl, sym, ap, ◌∙◌, subst, append_assoc}
use Rattle.std.specs.Prelude.{All}
use Rattle.std.proofs.lemmas.List.{append-nil, map-append}
use Rattle.std.proofs.lemmas.List.Elements.{All-head, All-tail, filter_map-append}
use Rattle.dmr_link.specs.Notices.{Notice}
use Rattle.dmr_link.specs.declared.desk.Deposit.{Deposit}
use Rattle.dmr_link.specs.declared.stream.Peer.{Peer}
use Rattle.dmr_link.specs.declared.link_state.LinkState.{LinkState}
use Rattle.dmr_link.specs.Pending.{Accounts, pending_notices}
use Rattle.dmr_link.specs.Session.{event_in, events_in}
use Rattle.dmr_link.specs.Sessions.{Session, IsOver, IsLeftBy, HasPast, WasServed}
use Rattle.dmr_desk.specs.Meaning.{AllMean, AreAccounted, IsAccounted, IsOneMeaning}
use Rattle.dmr_desk.specs.Work.{deposits_of_sessions}

-- ---- each connection

-- what each connection means, and that nothing is pending of a link that is over
module _ (laws : (l : LinkState) (s : Session) → IsLeftBy l s → Accounts l s)
    (over_owes : (l : LinkState) → IsOver l → pending_notices l ≡ []) where
  newest : (l : LinkState) (s : Session) (h : IsLeftBy l s) → IsAccounted l.who s (laws l s h).done (pending_notices l)
  newest l s h = let a = laws l s h in record { means = a.means; events = a.events; taken = a.taken }

  older : (who : Peer) (s : Session) → WasServed who s → (done : List Notice) × IsAccounted who s done []
  older who s w =
      let a = laws w.link s w.stands in
      let P : Peer → Type 0 = λ p. IsAccounted p s a.done [] in
      let Q : List Notice → Type 0 = λ ns. IsAccounted w.link.who s a.done ns in
      (a.done, subst P w.same (subst Q (over_owes w.link w.over) (newest w.link s w.stands)))

  all_older : (who : Peer) (ss : List Session) → All (WasServed who) ss → (done : List Notice) × AreAccounted who ss done []
  all_older who [] all = ([], (refl, refl))
  all_older who (s ∷ ss) all =
      let own = older who s (All-head (WasServed who) s ss all) in
      let earlier = all_older who ss (All-tail (WasServed who) s ss all) in
      (earlier.0 ++ own.0, (earlier.0, own.0, refl, earlier.1, own.1))

  accounted : (l : LinkState) (past : List Session) → HasPast l past → (done : List Notice) ×
      AreAccounted l.who past done (pending_notices l)
  accounted l [] h = ([], (refl, over_owes l h.0))
  accounted l (s ∷ ss) h =
      let earlier = all_older l.who ss h.1 in
      let own = laws l s h.0 in
      (earlier.0 ++ own.done, (earlier.0, own.done, refl, earlier.1, newest l s h.0))

-- ---- all together

all_mean : (who : Peer) (past : List Session) (done owing : List Notice) → AreAccounted who past done owing →
    AllMean who past (done ++ owing)
all_mean who [] done owing are = (λ i. are.0 i ++ are.1 i)
all_mean who (s ∷ ss) done owing are =
    let P : List Notice → Type 0 = λ ns. AllMean who ss ns in (
      are.0,
      are.1 ++ owing,
      ap (λ (ns : List Notice). ns ++ owing) are.2 ∙ append_assoc are.0 are.1 owing,
      subst P (append-nil are.0) (all_mean who ss are.0 [] are.3),
      are.4.means,
    )

all_events : (who : Peer) (past : List Session) (done owing : List Notice) → AreAccounted who past done owing →
    events_in done ≡ map (λ (d : Deposit). d.event) (deposits_of_sessions past)
all_events who [] done owing are = ap events_in are.0
all_events who (s ∷ ss) done owing are =
    ap events_in are.2 ∙ filter_map-append event_in are.0 are.1
    ∙ (λ i. all_events who ss are.0 [] are.3 i ++ are.4.events i)
    ∙ sym (map-append (λ (d : Deposit). d.event) (deposits_of_sessions ss) s.calls)

pub one_meaning : ((l : LinkState) (s : Session) → IsLeftBy l s → Accounts l s) → ((l : LinkState) → IsOver l → pending_notices l ≡ []) →
    (l : LinkState) (past : List Session) → HasPast l past → IsOneMeaning l past
one_meaning laws over_owes l past h =
    let a = accounted laws over_owes l past h in
    record {
      done = a.0;
      means = all_mean l.who past a.0 (pending_notices l) a.1;
      events = all_events l.who past a.0 (pending_notices l) a.1;
      connections = a.1;
    }
