-- A link is as the newest of its connections left it, and the others are over.
use Rattle.std.proofs.Common.{◌≡◌, ℕ, ◌+◌, ◌-◌, List, [], ◌∷◌, ◌++◌, Bool, true, false, cond, ◌||◌, Option, Some, None, length, refl, sym}
use Rattle.std.proofs.Common.{ap, subst, ◌∙◌, arith, append_assoc}
use Rattle.std.specs.Prelude.{All, nat_lt}
use Rattle.std.proofs.lemmas.List.{append-nil, length-append}
use Rattle.std.proofs.lemmas.List.Elements.{All-nil, All-cons}
use Rattle.dmr_wire.specs.Answers.{Answer, Opened, NotYet, Finished, Came, InputEnded, ReadInterrupted, ReadBlocked, ReadFailed, Took}
use Rattle.dmr_wire.specs.Answers.{WriteInterrupted, WriteBlocked, WriteFailed, Again, Silent, Reports}
use Rattle.dmr_link.specs.Notices.{Notice}
use Rattle.dmr_link.specs.declared.notices.SiteNotice.{SiteNotice}
use Rattle.dmr_link.specs.declared.connection.CarrierIdentity.{CarrierIdentity}
use Rattle.dmr_link.specs.declared.connection.Connection.{Connection}
use Rattle.dmr_link.specs.CarrierStates.{is_open, up_by}
use Rattle.dmr_link.specs.declared.connection.Connection.TheVariants.{Closed, Waiting, Running}
use Rattle.dmr_link.specs.declared.desk.Deposit.{Deposit}
use Rattle.dmr_link.specs.declared.ended.Ended.{Ended}
use Rattle.dmr_link.specs.declared.ended.Ended.TheVariants as ended
use Rattle.std.proofs.lemmas.Bool.{false≢true}
use Rattle.dmr_wire.specs.declared.closing.Closing.{Closing}
use Rattle.dmr_wire.specs.declared.closing.Closing.TheVariants as closing
use Rattle.dmr_link.specs.declared.stream.Peer.{Peer}
use Rattle.dmr_link.specs.declared.stream.Peer.TheVariants.{Carrier, Operator}
use Rattle.dmr_link.specs.declared.stream.Stream.{Stream}
use Rattle.dmr_link.specs.declared.stream.Stream.TheVariants as stream
use Rattle.dmr_link.specs.declared.link_state.LinkState.{LinkState}
use Rattle.dmr_frames.specs.declared.frame.Cause.{Cause}
use Rattle.dmr_link.specs.Closing.{ended_of}
use Rattle.dmr_link.specs.Happenings.{Happening, Answered, Deposited, Passed, answers_in, deposits_in, Outside, Disordered, stage_after_all}
use Rattle.dmr_link.specs.Happenings.{stage_at}
use Rattle.dmr_link.specs.Moves.{Moves, moment}
use Rattle.dmr_link.specs.Passages.{Passage}
use Rattle.dmr_link.specs.Peers.{meaning_from, text_to_peer, opened_for, is_going, up_of, left_from, next_onward}
use Rattle.dmr_link.specs.Sessions.{How, Going, InputOver, ReadFaulty, WriteFaulty, CutAfter, Session, new_session, with_how, with_calls}
use Rattle.dmr_link.specs.Sessions.{Progress, progress_at, in_writing, progress_after_answer, progress_after_answers, reads_in, IsTaken}
use Rattle.dmr_link.specs.Sessions.{kept_of, lost_of, notices_waiting, closed_by, IsClosed, IsAt, IsLeftBy, IsOver, WasServed, HasPast}
use Rattle.dmr_link.specs.Sessions.{sessions_after, is_kept, is_lost, cut_session, cut_past, EndsAs, Sides, sides, Serves, Cuts}
use Rattle.dmr_link.specs.Sessions.{progress_after_all, has_ended}
use Rattle.dmr_link.specs.LinkSteps.{is_live, lost_then, cut_state, with_new_connection, EndsBy, Listens}
use Rattle.dmr_link.proofs.StepsFollow.{happens_none, ends_in_block}
use Rattle.dmr_link.proofs.GatePassages.{gate_passed}
use Rattle.dmr_link.proofs.LinkSteps.{rests}
use Rattle.dmr_link.proofs.TextsGrow.{text_nothing, next_nothing, meaning_end, meaning_nothing, left_nothing}

-- ---- answers and deposits, separately

calls_nil : (s : Session) → with_calls s [] ≡ s
calls_nil s = (λ i. record { came = s.came; taken = s.taken; how = s.how; is_cut = s.is_cut; calls = append-nil s.calls i })

calls_more : (s : Session) (xs ys : List Deposit) → with_calls (with_calls s xs) ys ≡ with_calls s (xs ++ ys)
calls_more s xs ys = (λ i. record { came = s.came; taken = s.taken; how = s.how; is_cut = s.is_cut; calls = append_assoc s.calls xs ys i })

abbrev deposited : Deposit → Progress → Progress
deposited d h = record { session = with_calls h.session (d ∷ []); row = h.row; writing = h.writing }

deposited_cond : (d : Deposit) (a b : Progress) (t : Bool) → cond t (deposited d a) (deposited d b) ≡ deposited d (cond t a b)
deposited_cond d a b true = refl
deposited_cond d a b false = refl

deposited_took : (d : Deposit) (h : Progress) (octets : List ℕ) → progress_after_answer (deposited d h) (Took octets) ≡ deposited d
    (progress_after_answer h (Took octets))
deposited_took d h [] = refl
deposited_took d h (x ∷ octets) = refl

deposited_progress : (d : Deposit) (h : Progress) (a : Answer) → progress_after_answer (deposited d h) a ≡ deposited d
    (progress_after_answer h a)
deposited_progress d h Opened = refl
deposited_progress d h NotYet = refl
deposited_progress d h Finished = refl
deposited_progress d h (Came octets) = refl
deposited_progress d h InputEnded = refl
deposited_progress d h ReadInterrupted =
    deposited_cond d (progress_at h.session (h.row + 1)) (progress_at (with_how h.session ReadFaulty) 0) (nat_lt h.row 16)
deposited_progress d h ReadBlocked = refl
deposited_progress d h ReadFailed = refl
deposited_progress d h (Took octets) = deposited_took d h octets
deposited_progress d h WriteInterrupted =
    deposited_cond d (in_writing h.session (h.writing + 1)) (progress_at (with_how h.session WriteFaulty) 0) (nat_lt h.writing 16)
deposited_progress d h WriteBlocked = refl
deposited_progress d h WriteFailed = refl
deposited_progress d h Again = refl
deposited_progress d h Silent = refl

deposited_all : (d : Deposit) (h : Progress) (answers : List Answer) → progress_after_answers (deposited d h) answers ≡ deposited d
    (progress_after_answers h answers)
deposited_all d h [] = refl
deposited_all d h (a ∷ answers) =
    ap (λ (k : Progress). progress_after_answers k answers) (deposited_progress d h a) ∙ deposited_all d (progress_after_answer h a) answers

split_happened : (h : Progress) (xs : List Happening) → (progress_after_all h xs).session ≡ with_calls
    (progress_after_answers h (answers_in xs)).session (deposits_in xs)
split_happened h [] = sym (calls_nil h.session)
split_happened h (Answered a ∷ xs) = split_happened (progress_after_answer h a) xs
split_happened h (Passed p ∷ xs) = split_happened h xs
split_happened h (Deposited d ∷ xs) =
    split_happened (deposited d h) xs
    ∙ ap (λ (k : Progress). with_calls k.session (deposits_in xs)) (deposited_all d h (answers_in xs))
    ∙ calls_more (progress_after_answers h (answers_in xs)).session (d ∷ []) (deposits_in xs)

split_writing : (h : Progress) (xs : List Happening) → (progress_after_all h xs).writing ≡
    (progress_after_answers h (answers_in xs)).writing
split_writing h [] = refl
split_writing h (Answered a ∷ xs) = split_writing (progress_after_answer h a) xs
split_writing h (Passed p ∷ xs) = split_writing h xs
split_writing h (Deposited d ∷ xs) = split_writing (deposited d h) xs ∙ ap (λ (k : Progress). k.writing) (deposited_all d h (answers_in xs))

-- ---- a link that is live, or not

pub over_dead : (l : LinkState) → IsOver l → is_live l ≡ false
over_dead l h = (λ i. h.connection i || is_kept (h.kept i) || is_lost (h.lost i))

never : {P : Type 0} (l : LinkState) → IsOver l → is_live l ≡ true → P
never l h live = let e : is_live l ≡ false = over_dead l h in absurd (cc (e, live))

none_is : (o : Option SiteNotice) → is_kept o ≡ false → o ≡ None
none_is None e = refl
none_is (Some event) e = cc

not_lost : (o : Option ℕ) → is_lost o ≡ false → o ≡ None
not_lost None e = refl
not_lost (Some c) e = cc

all_false : (a b c : Bool) → (a || b || c) ≡ false → (a ≡ false) × (b ≡ false) × (c ≡ false)
all_false true b c e = cc
all_false false true c e = cc
all_false false false true e = cc
all_false false false false e = (refl, refl, refl)

pub dead_over : (l : LinkState) → is_live l ≡ false → IsOver l
dead_over l dead =
    let h = all_false (is_going l.connection) (is_kept l.pending.kept) (is_lost l.pending.lost) dead in
    record { connection = h.0; kept = none_is l.pending.kept h.1; lost = not_lost l.pending.lost h.2 }

-- ---- serve

ends_over : (l : LinkState) (k : Closing) → l.closing ≡ k → IsOver l → EndsAs (ended_of k) l []
ends_over l closing.Over is over = (over, ap ended_of is)
ends_over l closing.Bye is over = (over, ap ended_of is)
ends_over l closing.ReadFailed is over = (over, ap ended_of is)
ends_over l closing.WriteFailed is over = (over, ap ended_of is)
ends_over l (closing.Bad why) is over = (over, ap ended_of is)
ends_over l (closing.Refused why hello) is over = (over, ap ended_of is)

still_has_past : (l : LinkState) (past : List Session) → HasPast l past → HasPast l (sessions_after past [] [])
still_has_past l [] h = h
still_has_past l (s ∷ ss) h = let P : Session → Type 0 = IsLeftBy l in (subst P (sym (calls_nil s)) h.0, h.1)

pub still_serves : (l : LinkState) (x : Sides) → is_live l ≡ false → Serves l l x x (ended_of l.closing)
still_serves l x dead = record {
  same = refl;
  happened = [];
  happens = happens_none x;
  order = rests l.closing (ended_of l.closing) refl;
  passages = gate_passed [] (ended_of l.closing) (rests l.closing (ended_of l.closing) refl);
  wire = tt;
  stands = still_has_past l;
  turns = λ s ss h. tt;
  rested = λ s ss h. refl;
  few = omega arith;
  ends = ends_over l l.closing refl (dead_over l dead);
}

ends_as : (stop : Ended) (l : LinkState) (xs : List Happening) (reads : ℕ) → stage_after_all Outside xs ≡ stage_at stop →
    reads_in (answers_in xs) ≡ reads → EndsBy stop l reads → EndsAs stop l (answers_in xs)
ends_as ended.Closed l xs reads at e h = h
ends_as ended.ReadFault l xs reads at e h = h
ends_as ended.WriteFault l xs reads at e h = h
ends_as (ended.BadFrame why) l xs reads at e h = h
ends_as ended.TermOver l xs reads at e h = h
ends_as ended.Idle l xs reads at e h = (h.0, h.1, ends_in_block xs at)
ends_as ended.Paused l xs reads at e h = (h.0, h.1, e ∙ h.2)
ends_as ended.GateShut l xs reads at e h = h

module _ (old new : LinkState) (x y : Sides) (stop : Ended) (live : is_live old ≡ true) (w : Listens old new x y stop) where
  moved : (past : List Session) → HasPast old past → HasPast new
      (sessions_after past (answers_in w.moves.happened) (deposits_in w.moves.happened))
  moved [] h = never old h.0 live
  moved (s ∷ ss) h =
      let one = w.moves.stands s h.0 in
      let P : Session → Type 0 = IsLeftBy new in
      let Q : Peer → Type 0 = λ who. All (WasServed who) ss in (
        subst P (ap (λ (k : Progress). k.session) (sym one.2) ∙ split_happened (progress_at s 0) w.moves.happened) one.1,
        subst Q (sym w.moves.same) h.1,
      )

  pub works_serves : Serves old new x y stop
  works_serves = record {
    same = w.moves.same;
    happened = w.moves.happened;
    happens = w.moves.happens;
    order = w.moves.order;
    passages = gate_passed w.moves.happened stop w.moves.order;
    wire = w.moves.wire;
    stands = moved;
    turns = λ s ss h. w.moves.turns s h.0;
    rested = λ s ss h. sym (split_writing (progress_at s 0) w.moves.happened) ∙ ap (λ (k : Progress). k.writing) (w.moves.stands s h.0).2;
    few = omega (arith, w.moves.counted, w.few);
    ends = ends_as stop new w.moves.happened w.reads w.moves.order w.moves.counted w.ends;
  }

-- ---- an operators' link is never closed for a cause

-- a connection was closed for a cause
abbrev is_bad : Closing → Bool
is_bad (closing.Bad why) = true
is_bad (closing.Refused why hello) = true
is_bad other = false

abbrev is_bad_in : Option Closing → Bool
is_bad_in None = false
is_bad_in (Some k) = is_bad k

closed_good : (b : Bool) (how : How) (read : List ℕ) → is_bad_in (closed_by Operator how b read) ≡ false
closed_good true how read = refl
closed_good false Going read = refl
closed_good false InputOver read = refl
closed_good false ReadFaulty read = refl
closed_good false WriteFaulty read = refl
closed_good false (CutAfter n kept) read = refl

bad_is : (k : Closing) (why : Cause) → ended_of k ≡ ended.BadFrame why → is_bad k ≡ true
bad_is closing.Over why e = cc
bad_is closing.Bye why e = cc
bad_is closing.ReadFailed why e = cc
bad_is closing.WriteFailed why e = cc
bad_is (closing.Bad other) why e = refl
bad_is (closing.Refused other hello) why e = refl

pub no_cause : (l : LinkState) (past : List Session) (why : Cause) → l.who ≡ Operator → HasPast l past → IsOver l →
    ended_of l.closing ≡ ended.BadFrame why → ⊥
no_cause l [] why who h over e = false≢true (sym (ap is_bad h.1) ∙ bad_is l.closing why e)
no_cause l (s ∷ ss) why who h over e =
    false≢true
    (sym (closed_good s.is_cut s.how h.0.read)
    ∙ ap (λ (p : Peer). is_bad_in (closed_by p s.how s.is_cut h.0.read)) (sym who)
    ∙ ap is_bad_in (h.0.why over.connection)
    ∙ bad_is l.closing why e)

pub bad_ends : (l : LinkState) (stop : Ended) (why : Cause) (answers : List Answer) → stop ≡ ended.BadFrame why → EndsAs stop l answers →
    IsOver l × (ended_of l.closing ≡ ended.BadFrame why)
bad_ends l stop why answers is ends = let P : Ended → Type 0 = λ e. EndsAs e l answers in subst P is ends

-- ---- open

opened_open : (who : Peer) → IsClosed (opened_for who) → ⊥
opened_open (Carrier identity) e = cc
opened_open Operator e = cc

opened_at : (who : Peer) → opened_for who ≡ left_from who [] (next_onward who None [] [])
opened_at who = sym (left_nothing who) ∙ ap (left_from who []) (sym (next_nothing who None))

module _ (l : LinkState) (over : IsOver l) where
  begins : IsLeftBy (with_new_connection l) new_session
  begins = record {
    read = [];
    behind = [];
    done = [];
    came = refl;
    means = meaning_nothing l.who ∙ (λ i. kept_of (sym over.kept i) ++ lost_of (sym over.lost i));
    events = refl;
    taken = sym (text_nothing l.who None);
    place = (refl, opened_at l.who, over.lost, refl);
    cut = refl;
    why = λ e. absurd (opened_open l.who e);
  }

  was : (past : List Session) → HasPast l past → All (WasServed l.who) past
  was [] h = All-nil (WasServed l.who)
  was (s ∷ ss) h = All-cons (WasServed l.who) s ss (record { link = l; same = refl; over = over; stands = h.0 }) h.1

  pub opens : (past : List Session) → HasPast l past → HasPast (with_new_connection l) (new_session ∷ past)
  opens past h = (begins, was past h)

-- ---- cut

module _ (l : LinkState) where
  taken_cut : (read : List ℕ) (done : List Notice) (taken : List ℕ) (calls : List Deposit) (n : ℕ) (b : Bool) →
      taken ≡ text_to_peer l.who done calls → IsTaken l.who (CutAfter n b) read done taken calls
  taken_cut read done taken calls n true e = ([], append-nil taken ∙ e)
  taken_cut read done taken calls n false e = e

  place_cut : (read behind : List ℕ) (next : Option ℕ) (n : ℕ) (o : Option SiteNotice) → l.pending.kept ≡ o → length read ≡ n →
      IsAt (CutAfter n (is_kept o)) (cut_state l) read next behind
  place_cut read behind next n None is e = (e, refl, refl, is)
  place_cut read behind next n (Some event) is e = (e, refl, refl)

  none_up : (who : CarrierIdentity) (k : Connection) → is_open k ≡ false → None ≡ up_by who k
  none_up who Closed at = refl
  none_up who (Waiting rest) at = refl
  none_up who (Running rest newest) at = cc

  lost_still : (o : Option ℕ) (k : Stream) → IsClosed k → o ≡ lost_then o (up_of k)
  lost_still (Some c) k at = refl
  lost_still None stream.Closed at = refl
  lost_still None (stream.Frames session) at = none_up session.who session.connection at
  lost_still None (stream.Lines with_new_connection) at = cc

  waits_on : (ns done : List Notice) → IsClosed l.connection → ns ≡ done ++ notices_waiting l → ns ≡ done ++ notices_waiting (cut_state l)
  waits_on ns done at means =
      means ∙ ap (λ (o : Option ℕ). done ++ (kept_of l.pending.kept ++ lost_of o)) (lost_still l.pending.lost l.connection at)

  -- a connection that had ended stays as it ended
  ended_cut : (came taken : List ℕ) (how : How) (cut : Bool) (calls : List Deposit)
      (h : IsLeftBy l (record { came = came; taken = taken; how = how; is_cut = cut; calls = calls })) →
      IsClosed l.connection → IsAt how (cut_state l) h.read (next_onward l.who None h.done calls) h.behind →
      IsLeftBy (cut_state l) (record { came = came; taken = taken; how = how; is_cut = true; calls = calls })
  ended_cut came taken how cut calls h closed place = record {
    read = h.read;
    behind = h.behind;
    done = h.done;
    came = h.came;
    means = waits_on (meaning_from l.who h.read (has_ended how)) h.done closed h.means;
    events = h.events;
    taken = h.taken;
    place = place;
    cut = refl;
    why = λ e. refl;
  }

  cut_by : (came taken : List ℕ) (how : How) (cut : Bool) (calls : List Deposit) →
      (h : IsLeftBy l (record { came = came; taken = taken; how = how; is_cut = cut; calls = calls })) →
      IsLeftBy (cut_state l) (cut_session l (record { came = came; taken = taken; how = how; is_cut = cut; calls = calls }))
  cut_by came taken Going cut calls h =
      let both : length came ≡ length h.read + length h.behind = ap length h.came ∙ length-append h.read h.behind in
      let same : length h.behind ≡ length l.unread = ap length h.place.0 in
      record {
        read = h.read;
        behind = h.behind;
        done = h.done;
        came = h.came;
        means =
            meaning_end l.who h.read (next_onward l.who None h.done calls)
            ∙ (λ i. h.means i ++ lost_of (up_of (sym h.place.1 i)))
            ∙ append_assoc h.done (notices_waiting l) (lost_of (up_of l.connection))
            ∙ ap (λ (t : List Notice). h.done ++ t)
            (append_assoc (kept_of l.pending.kept) (lost_of l.pending.lost) (lost_of (up_of l.connection)))
            ∙ (λ i. h.done ++ (kept_of l.pending.kept ++ (lost_of (h.place.2 i) ++ lost_of (up_of l.connection))))
            ∙ (λ i. h.done ++ (kept_of l.pending.kept ++ lost_of (lost_then (sym h.place.2 i) (up_of l.connection))));
        events = h.events;
        taken = taken_cut h.read h.done taken calls (length came - length l.unread) (is_kept l.pending.kept) h.taken;
        place = place_cut h.read h.behind (next_onward l.who None h.done calls) (length came - length l.unread) l.pending.kept refl
            (omega arith);
        cut = refl;
        why = λ e. refl;
      }
  cut_by came taken InputOver cut calls h = ended_cut came taken InputOver cut calls h h.place.1 (h.place.0, refl, h.place.2)
  cut_by came taken ReadFaulty cut calls h = ended_cut came taken ReadFaulty cut calls h h.place.1 (h.place.0, refl, h.place.2)
  cut_by came taken WriteFaulty cut calls h = ended_cut came taken WriteFaulty cut calls h h.place.0 (refl, h.place.1)
  cut_by came taken (CutAfter n false) cut calls h =
      ended_cut came taken (CutAfter n false) cut calls h h.place.1 (h.place.0, refl, refl, h.place.3)
  cut_by came taken (CutAfter n true) cut calls h = ended_cut came taken (CutAfter n true) cut calls h h.place.1 (h.place.0, refl, refl)

  has_past_cut : (s : Session) → IsLeftBy l s → IsLeftBy (cut_state l) (cut_session l s)
  has_past_cut s h = cut_by s.came s.taken s.how s.is_cut s.calls h

no_answers : (answers : List Answer) → Reports (Some []) answers (Some []) → answers ≡ []
no_answers answers tells =
    let h = tells.follows [] refl in
    let none : h.0 ≡ [] = cc in
    sym (h.2 ∙ ap (λ (r : List Answer). r ++ answers) none)

-- the link moves after a cut, before a port that reported no answer
abbrev Unseen : LinkState → LinkState → List Deposit → List Deposit → Type 0
Unseen l new calls later =
    Moves (moment (cut_state l) (sides (Some []) calls None) 0 Disordered) (moment new (sides (Some []) later None) 0 Disordered) 0

cut_has_past : (l new : LinkState) (calls later : List Deposit) → is_live l ≡ true → (m : Unseen l new calls later) →
    (past : List Session) → HasPast l past → HasPast new (cut_past l past (deposits_in m.happened))
cut_has_past l new calls later live m [] h = never l h.0 live
cut_has_past l new calls later live m (s ∷ ss) h =
    let one = m.stands (cut_session l s) (has_past_cut l s h.0) in
    let P : Session → Type 0 = IsLeftBy new in
    let Q : Peer → Type 0 = λ who. All (WasServed who) ss in (
      subst P
          (ap (λ (k : Progress). k.session) (sym one.2)
          ∙ split_happened (progress_at (cut_session l s) 0) m.happened
          ∙ ap (λ (r : List Answer). with_calls (progress_after_answers (progress_at (cut_session l s) 0) r).session
          (deposits_in m.happened)) (no_answers (answers_in m.happened) m.happens.port))
          one.1,
      subst Q (sym m.same) h.1,
    )

pub cuts : (l new : LinkState) (calls later : List Deposit) → is_live l ≡ true →
    ((reported : Option (List Answer)) (passed : Option (List Passage)) →
    Moves (moment (cut_state l) (sides reported calls passed) 0 Disordered) (moment new (sides reported later passed) 0 Disordered) 0) →
    Cuts l new calls later
cuts l new calls later live moves =
    let m : Unseen l new calls later = moves (Some []) None in
    record {
      same = m.same;
      deposits = deposits_in m.happened;
      desk = m.happens.desk;
      stands = cut_has_past l new calls later live m;
    }
