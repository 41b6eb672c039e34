-- A worker's steps, one after another.
use Rattle.std.proofs.Common.{◌≡◌, ℕ, ◌+◌, ◌-◌, inl, inr, cond, List, [], ◌∷◌, ◌++◌, Option, Some, None, refl, sym, ◌∙◌, ap, subst}
use Rattle.std.proofs.Common.{append_assoc, arith, true, false, Bool, ◌||◌, length, map}
use Rattle.std.specs.Prelude.{nat_lt}
use Rattle.std.proofs.lemmas.List.{append-nil}
use Rattle.dmr_wire.specs.Answers.{Answer, Opened, NotYet, Finished, Came, InputEnded, ReadInterrupted, ReadBlocked, ReadFailed, Took}
use Rattle.dmr_wire.specs.Answers.{WriteInterrupted, WriteBlocked, WriteFailed, Again, Silent, Reports}
use Rattle.dmr_link.specs.declared.desk.Deposit.{Deposit}
use Rattle.dmr_link.specs.declared.ended.Ended.{Ended}
use Rattle.dmr_link.specs.declared.ended.Ended.TheVariants as ended
use Rattle.dmr_link.specs.declared.stream.Peer.{Peer}
use Rattle.dmr_link.specs.declared.link_state.LinkState.{LinkState}
use Rattle.dmr_link.specs.Happenings.{Happening, Answered, Deposited, Passed, answers_in, deposits_in, passages_in}
use Rattle.dmr_link.specs.Passages.{Passage, Passes}
use Rattle.dmr_link.specs.Peers.{is_going}
use Rattle.dmr_link.specs.Questions.{Questioned}
use Rattle.dmr_link.specs.Recorded.{sessions_after_silence}
use Rattle.dmr_link.specs.Sessions.{How, Going, InputOver, ReadFaulty, WriteFaulty, CutAfter, how_then, Session, new_session, with_how}
use Rattle.dmr_link.specs.Sessions.{with_calls, Progress, progress_at, in_writing, octets_taken, progress_after_answer}
use Rattle.dmr_link.specs.Sessions.{progress_after_answers, IsQuiet, IsOver, HasPast, sessions_after, is_kept, is_lost, how_cut, cut_past}
use Rattle.dmr_link.specs.Sessions.{EndsAs, Happens, Serves, Cuts}
use Rattle.dmr_link.specs.LinkSteps.{is_live}
use Rattle.dmr_link.proofs.LinkLaws.{dead_over, over_dead, happens_none, happens_more}
use Rattle.dmr_desk.specs.declared.ending.Ending.TheVariants as ending
use Rattle.dmr_desk.specs.Work.{StationState, WorkState, moment, sides_at, Answers, ChangesLink, Step, Asked, Served, Waited, happened_in}
use Rattle.dmr_desk.specs.Work.{happened_of, with_newest_deposits, past_then, past_after, deposits_of_sessions, IsAsk, StopsAt, IsCall}
use Rattle.dmr_desk.specs.Work.{IsOrderly, Steps, WorksUntil, IsAboutToWait as IsWaiting, IsAtWork as IsGoing}

going_live : (b kept lost : Bool) → (b ≡ false → ⊥) → (b || kept || lost) ≡ true
going_live true kept lost h = refl
going_live false kept lost h = absurd (h refl)

pub quiet_live : (l : LinkState) → IsQuiet l → is_live l ≡ true
quiet_live l h = going_live (is_going l.connection) (is_kept l.pending.kept) (is_lost l.pending.lost) h.stays

-- ---- one step more

went_nowhere : (m : WorkState) → Steps m m []
went_nowhere m = record {
  who = refl;
  happens = happens_none (sides_at m.at m.calls);
  stands = λ past h. h;
  view = λ past h. sym (append-nil (deposits_of_sessions past));
  orderly = λ past h. tt;
}

-- ---- questions to the desk

questioned_none : (a : Option ℕ) → Questioned a 0 a
questioned_none None = tt
questioned_none (Some n) = omega arith

questioned_then : (a b c : Option ℕ) (n m : ℕ) → Questioned a n b → Questioned b m c → Questioned a (n + m) c
questioned_then a b None n m h k = tt
questioned_then a None (Some z) n m h k = absurd k
questioned_then None (Some y) (Some z) n m h k = absurd h
questioned_then (Some x) (Some y) (Some z) n m h k = omega arith

-- one more question, and one more step
one_more : (a b c : Option ℕ) (d : Step) (ds : List Step) → Questioned a (length ds) b → Questioned b 1 c → Questioned a (length (d ∷ ds)) c
one_more a b c d ds h k =
    let e : length ds + 1 ≡ length (d ∷ ds) = omega arith in
    let P : ℕ → Type 0 = λ n. Questioned a n c in
    subst P e (questioned_then a b c (length ds) 1 h k)

-- nothing has changed since
pub unquestioned : (a b c : Option ℕ) → c ≡ b → Questioned a 1 b → Questioned a 1 c
unquestioned a b c same h = let P : Option ℕ → Type 0 = λ o. Questioned a 1 o in subst P (sym same) h

-- the same steps, whatever the desk counts
steps_at : (m n : WorkState) (q : Option ℕ) (ds : List Step) → Steps m n ds → Steps m (moment n.at n.calls q) ds
steps_at m n q ds w = record { who = w.who; happens = w.happens; stands = w.stands; view = w.view; orderly = w.orderly }

pub going_from : (m : WorkState) → IsGoing m m
going_from m = ([], went_nowhere m, λ live. tt, questioned_none m.questions)

deposits_both : (xs ys : List Happening) → deposits_in (xs ++ ys) ≡ deposits_in xs ++ deposits_in ys
deposits_both [] ys = refl
deposits_both (Answered a ∷ xs) ys = deposits_both xs ys
deposits_both (Deposited d ∷ xs) ys = ap (λ (r : List Deposit). d ∷ r) (deposits_both xs ys)
deposits_both (Passed p ∷ xs) ys = deposits_both xs ys

-- one more step
went_on : (m n o : WorkState) (ds : List Step) (d : Step) → Steps m n ds → o.at.link.who ≡ n.at.link.who →
    Happens (sides_at n.at n.calls) (happened_in d) (sides_at o.at o.calls)
    → ((past : List Session) → HasPast n.at.link past → HasPast o.at.link (past_then past d))
    → ((past : List Session) → HasPast n.at.link past → deposits_of_sessions (past_then past d) ≡ deposits_of_sessions past ++ deposits_in
    (happened_in d))
    → ((past : List Session) → HasPast n.at.link (past_after past ds) → IsOrderly m.at.link.who past ds →
    IsOrderly m.at.link.who past (d ∷ ds))
    → Steps m o (d ∷ ds)
went_on m n o ds d w who happens stands view orderly = record {
  who = who ∙ w.who;
  happens = happens_more (sides_at m.at m.calls) (sides_at n.at n.calls) (sides_at o.at o.calls) (happened_of ds)
      (happened_in d) w.happens happens;
  stands = λ past h. stands (past_after past ds) (w.stands past h);
  view = λ past h.
      view (past_after past ds) (w.stands past h)
      ∙ ap (λ (c : List Deposit). c ++ deposits_in (happened_in d)) (w.view past h)
      ∙ append_assoc (deposits_of_sessions past) (deposits_in (happened_of ds)) (deposits_in (happened_in d))
      ∙ ap (λ (c : List Deposit). deposits_of_sessions past ++ c) (sym (deposits_both (happened_of ds) (happened_in d)));
  orderly = λ past h. orderly past (w.stands past h) (w.orderly past h);
}

-- ---- what happened in a step

passes_none : (before after : Option (List Passage)) → after ≡ before → Passes before [] after
passes_none before after same = record { follows = λ whole e. (whole, sym same ∙ e, sym (append-nil whole)) }

pub no_answers : (deposits : List Deposit) → answers_in (map Deposited deposits) ≡ []
no_answers [] = refl
no_answers (d ∷ deposits) = no_answers deposits

all_deposits : (deposits : List Deposit) → deposits_in (map Deposited deposits) ≡ deposits
all_deposits [] = refl
all_deposits (d ∷ deposits) = ap (λ (r : List Deposit). d ∷ r) (all_deposits deposits)

no_passages : (deposits : List Deposit) → passages_in (map Deposited deposits) ≡ []
no_passages [] = refl
no_passages (d ∷ deposits) = no_passages deposits

-- the port gave an answer, and the desk took these
answered : (n o : WorkState) (x : Answer) (deposits : List Deposit) → Reports n.at.reported (x ∷ []) o.at.reported →
    o.at.passed ≡ n.at.passed → o.calls ≡ n.calls ++ deposits
    → Happens (sides_at n.at n.calls) (Answered x ∷ map Deposited deposits) (sides_at o.at o.calls)
answered n o x deposits reported passed desk =
    let P : List Answer → Type 0 = λ r. Reports n.at.reported (x ∷ r) o.at.reported in
    let Q : List Passage → Type 0 = λ r. Passes n.at.passed r o.at.passed in
    record {
      port = subst P (sym (no_answers deposits)) reported;
      desk = desk ∙ ap (λ (r : List Deposit). n.calls ++ r) (sym (all_deposits deposits));
      gate = subst Q (sym (no_passages deposits)) (passes_none n.at.passed o.at.passed passed);
    }

-- ---- what the desk took, in one list

either : (t : Bool) (a b : Progress) (calls : List Deposit) → a.session.calls ≡ calls → b.session.calls ≡ calls →
    (cond t a b).session.calls ≡ calls
either true a b calls p q = p
either false a b calls p q = q

took_calls : (s : Session) (octets : List ℕ) → (octets_taken s octets).session.calls ≡ s.calls
took_calls s [] = refl
took_calls s (x ∷ octets) = refl

progress_calls : (h : Progress) (a : Answer) → (progress_after_answer h a).session.calls ≡ h.session.calls
progress_calls h Opened = refl
progress_calls h NotYet = refl
progress_calls h Finished = refl
progress_calls h (Came octets) = refl
progress_calls h InputEnded = refl
progress_calls h ReadInterrupted =
    either (nat_lt h.row 16) (progress_at h.session (h.row + 1)) (progress_at (with_how h.session ReadFaulty) 0) h.session.calls refl refl
progress_calls h ReadBlocked = refl
progress_calls h ReadFailed = refl
progress_calls h (Took octets) = took_calls h.session octets
progress_calls h WriteInterrupted = either (nat_lt h.writing 16) (in_writing h.session (h.writing + 1))
    (progress_at (with_how h.session WriteFaulty) 0) h.session.calls refl refl
progress_calls h WriteBlocked = refl
progress_calls h WriteFailed = refl
progress_calls h Again = refl
progress_calls h Silent = refl

all_calls : (h : Progress) (answers : List Answer) → (progress_after_answers h answers).session.calls ≡ h.session.calls
all_calls h [] = refl
all_calls h (a ∷ answers) = all_calls (progress_after_answer h a) answers ∙ progress_calls h a

ask_view : (past : List Session) (x : Answer) → IsAsk x → deposits_of_sessions (past_then past (Asked x)) ≡ deposits_of_sessions past ++ []
ask_view past Opened is = refl
ask_view past NotYet is = sym (append-nil (deposits_of_sessions past))
ask_view past Finished is = sym (append-nil (deposits_of_sessions past))
ask_view past x is = absurd is

-- a live link has a connection
serve_view : (l : LinkState) (past : List Session) (answers : List Answer) (deposits : List Deposit) → is_live l ≡ true → HasPast l past
    → deposits_of_sessions (sessions_after past answers deposits) ≡ deposits_of_sessions past ++ deposits
serve_view l [] answers deposits live h = let dead : is_live l ≡ false = over_dead l h.0 in absurd (cc (dead, live))
serve_view l (s ∷ ss) answers deposits live h =
    ap (λ (c : List Deposit). deposits_of_sessions ss ++ (c ++ deposits)) (all_calls (progress_at s 0) answers)
    ∙ sym (append_assoc (deposits_of_sessions ss) s.calls deposits)

silent_view : (l : LinkState) (past : List Session) (deposits : List Deposit) → is_live l ≡ true → HasPast l past →
    deposits_of_sessions (with_newest_deposits (sessions_after_silence past) deposits) ≡ deposits_of_sessions past ++ deposits
silent_view l [] deposits live h = let dead : is_live l ≡ false = over_dead l h.0 in absurd (cc (dead, live))
silent_view l (s ∷ ss) deposits live h = sym (append_assoc (deposits_of_sessions ss) s.calls deposits)

-- ---- an ask

went_asking : (m n o : WorkState) (g : IsGoing m n) (x : Answer) → is_live n.at.link ≡ false → IsAsk x → o.at.link.who ≡ n.at.link.who →
    Reports n.at.reported (x ∷ []) o.at.reported → o.at.passed ≡ n.at.passed → o.calls ≡ n.calls
    → ((past : List Session) → HasPast n.at.link past → HasPast o.at.link (past_then past (Asked x))) → Steps m o (Asked x ∷ g.0)
went_asking m n o g x dead is who reported passed desk stands =
    went_on m n o g.0 (Asked x) g.1 who (answered n o x [] reported passed (desk ∙ sym (append-nil n.calls))) stands
    (λ past h. ask_view past x is)
    (λ past h orderly. (is, (n.at.link, dead_over n.at.link dead, h), orderly))

still_has_past : (l k : LinkState) (past : List Session) → k ≡ l → HasPast l past → HasPast k past
still_has_past l k past same h = let P : LinkState → Type 0 = λ t. HasPast t past in subst P (sym same) h

pub went_ready : (m n : WorkState) (mid o : StationState) (q : Option ℕ) → IsGoing m n → Questioned n.questions 1 q →
    is_live n.at.link ≡ false → Answers n.at Opened mid → ChangesLink mid o
    → ((past : List Session) → HasPast mid.link past → HasPast o.link (new_session ∷ past)) → IsGoing m (moment o n.calls q)
went_ready m n mid o q g asked dead answers turns stands =
    let P : Option (List Answer) → Type 0 = λ reported. Reports n.at.reported (Opened ∷ []) reported in (
      Asked Opened ∷ g.0,
      went_asking m n (moment o n.calls q) g Opened dead tt (turns.who ∙ ap (λ (l : LinkState). l.who) answers.link)
          (subst P (sym turns.reported) answers.reported) (turns.passed ∙ answers.passed) refl
          (λ past h. stands past (still_has_past n.at.link mid.link past answers.link h)),
      λ live. tt,
      one_more m.questions n.questions q (Asked Opened) g.0 g.3 asked,
    )

pub went_not_yet : (m n : WorkState) (o : StationState) (q : Option ℕ) → IsGoing m n → Questioned n.questions 1 q →
    is_live n.at.link ≡ false → Answers n.at NotYet o → IsGoing m (moment o n.calls q)
went_not_yet m n o q g asked dead answers = (
  Asked NotYet ∷ g.0,
  went_asking m n (moment o n.calls q) g NotYet dead tt (ap (λ (l : LinkState). l.who) answers.link) answers.reported answers.passed refl
      (λ past h. still_has_past n.at.link o.link past answers.link h),
  λ live. let e : is_live o.link ≡ false = ap is_live answers.link ∙ dead in absurd (cc (e, live)),
  one_more m.questions n.questions q (Asked NotYet) g.0 g.3 asked,
)

pub went_finished : (m n : WorkState) (o : StationState) (q : Option ℕ) → IsGoing m n → Questioned n.questions 1 q →
    is_live n.at.link ≡ false → Answers n.at Finished o → WorksUntil m (moment o n.calls q) ending.Finished
went_finished m n o q g asked dead answers = (
  Asked Finished ∷ g.0,
  went_asking m n (moment o n.calls q) g Finished dead tt (ap (λ (l : LinkState). l.who) answers.link) answers.reported answers.passed refl
      (λ past h. still_has_past n.at.link o.link past answers.link h),
  (tt, subst IsOver (sym answers.link) (dead_over n.at.link dead)),
  one_more m.questions n.questions q (Asked Finished) g.0 g.3 asked,
)

-- ---- a call of serve

stops_at : (e : Ended) (l : LinkState) (answers : List Answer) → EndsAs e l answers → StopsAt e answers
stops_at ended.Idle l answers h = h.2
stops_at ended.Paused l answers h = h.2
stops_at ended.TermOver l answers h = tt
stops_at ended.GateShut l answers h = tt
stops_at ended.Closed l answers h = tt
stops_at ended.ReadFault l answers h = tt
stops_at ended.WriteFault l answers h = tt
stops_at (ended.BadFrame why) l answers h = tt

was_call : (n o : WorkState) (who : Peer) (past : List Session) (e : Ended)
    (s : Serves n.at.link o.at.link (sides_at n.at n.calls) (sides_at o.at o.calls) e) → n.at.link.who ≡ who → HasPast n.at.link past →
    IsCall who past s.happened e
was_call n o who past e s same h =
    let P : Peer → Type 0 = λ p. IsCall p past s.happened e in
    let is : IsCall n.at.link.who past s.happened e = record {
      wire = s.wire;
      few = s.few;
      order = s.order;
      passages = s.passages;
      turns = λ t ts e. s.turns t ts (subst (HasPast n.at.link) e h);
      rested = λ t ts e. s.rested t ts (subst (HasPast n.at.link) e h);
      stops = stops_at e o.at.link (answers_in s.happened) s.ends;
    } in
    subst P same is

went_serving : (m n o : WorkState) (e : Ended) (g : IsGoing m n) → is_live n.at.link ≡ true →
    (s : Serves n.at.link o.at.link (sides_at n.at n.calls) (sides_at o.at o.calls) e) → Steps m o (Served s.happened e ∷ g.0)
went_serving m n o e g live s =
    went_on m n o g.0 (Served s.happened e) g.1 s.same s.happens s.stands
    (λ past h. serve_view n.at.link past (answers_in s.happened) (deposits_in s.happened) live h)
    (λ past h orderly. (was_call n o m.at.link.who (past_after past g.0) e s g.1.who h, g.2 live, orderly))

pub went_idle : (m n o : WorkState) → IsGoing m n → Questioned n.questions 1 o.questions → is_live n.at.link ≡ true →
    Serves n.at.link o.at.link (sides_at n.at n.calls) (sides_at o.at o.calls) ended.Idle → IsWaiting m o
went_idle m n o g asked live s = (
  Served s.happened ended.Idle ∷ g.0,
  went_serving m n o ended.Idle g live s,
  tt,
  s.ends.0,
  s.ends.1,
  one_more m.questions n.questions o.questions (Served s.happened ended.Idle) g.0 g.3 asked,
)

pub went_paused : (m n o : WorkState) → IsGoing m n → Questioned n.questions 1 o.questions → is_live n.at.link ≡ true →
    Serves n.at.link o.at.link (sides_at n.at n.calls) (sides_at o.at o.calls) ended.Paused → IsGoing m o
went_paused m n o g asked live s = (
  Served s.happened ended.Paused ∷ g.0,
  went_serving m n o ended.Paused g live s,
  λ alive. tt,
  one_more m.questions n.questions o.questions (Served s.happened ended.Paused) g.0 g.3 asked,
)

pub went_refused : (m n o : WorkState) → IsGoing m n → Questioned n.questions 1 o.questions → is_live n.at.link ≡ true →
    Serves n.at.link o.at.link (sides_at n.at n.calls) (sides_at o.at o.calls) ended.TermOver → WorksUntil m o ending.TermOver
went_refused m n o g asked live s = (
  Served s.happened ended.TermOver ∷ g.0,
  went_serving m n o ended.TermOver g live s,
  tt,
  inr (tt, one_more m.questions n.questions o.questions (Served s.happened ended.TermOver) g.0 g.3 asked),
)

pub went_shut : (m n o : WorkState) → IsGoing m n → Questioned n.questions 1 o.questions → is_live n.at.link ≡ true →
    Serves n.at.link o.at.link (sides_at n.at n.calls) (sides_at o.at o.calls) ended.GateShut → WorksUntil m o ending.GateShut
went_shut m n o g asked live s = (
  Served s.happened ended.GateShut ∷ g.0,
  went_serving m n o ended.GateShut g live s,
  tt,
  one_more m.questions n.questions o.questions (Served s.happened ended.GateShut) g.0 g.3 asked,
)

-- the endings of a connection, and no other
closing_over : (e : Ended) (l : LinkState) (answers : List Answer) → (e ≡ ended.Idle → ⊥) → (e ≡ ended.TermOver → ⊥) →
    (e ≡ ended.GateShut → ⊥) → (e ≡ ended.Paused → ⊥) → EndsAs e l answers → IsOver l
closing_over ended.Idle l answers a b c d h = absurd (a refl)
closing_over ended.TermOver l answers a b c d h = absurd (b refl)
closing_over ended.GateShut l answers a b c d h = absurd (c refl)
closing_over ended.Paused l answers a b c d h = absurd (d refl)
closing_over ended.Closed l answers a b c d h = h.0
closing_over ended.ReadFault l answers a b c d h = h.0
closing_over ended.WriteFault l answers a b c d h = h.0
closing_over (ended.BadFrame why) l answers a b c d h = h.0

pub went_closed : (m n o : WorkState) (e : Ended) → IsGoing m n → Questioned n.questions 1 o.questions → is_live n.at.link ≡ true →
    Serves n.at.link o.at.link (sides_at n.at n.calls) (sides_at o.at o.calls) e
    → (e ≡ ended.Idle → ⊥) → (e ≡ ended.TermOver → ⊥) → (e ≡ ended.GateShut → ⊥) → (e ≡ ended.Paused → ⊥) → IsGoing m o
went_closed m n o e g asked live s a b c d = (
  Served s.happened e ∷ g.0,
  went_serving m n o e g live s,
  λ alive. let dead : is_live o.at.link ≡ false =
      over_dead o.at.link (closing_over e o.at.link (answers_in s.happened) a b c d s.ends) in absurd (cc (dead, alive)),
  one_more m.questions n.questions o.questions (Served s.happened e) g.0 g.3 asked,
)

-- ---- a wait

pub went_again : (m n : WorkState) (o : StationState) (q : Option ℕ) → IsWaiting m n → Questioned n.questions 1 q → Answers n.at Again o →
    IsGoing m (moment o n.calls q)
went_again m n o q g asked answers = (
  Waited Again [] ∷ g.0,
  went_on m n (moment o n.calls q) g.0 (Waited Again []) g.1 (ap (λ (l : LinkState). l.who) answers.link)
      (answered n (moment o n.calls q) Again [] answers.reported answers.passed (sym (append-nil n.calls)))
      (λ past h. still_has_past n.at.link o.link past answers.link h)
      (λ past h. sym (append-nil (deposits_of_sessions past)))
      (λ past h orderly. (refl, g.2, orderly)),
  λ live. tt,
  one_more m.questions n.questions q (Waited Again []) g.0 g.5 asked,
)

cut_how : (l : LinkState) (s : Session) (how : How) → l.pending.kept ≡ None → l.unread ≡ [] →
    how_cut l s how ≡ how_then how (CutAfter (length s.came) false)
cut_how l s Going kept unread =
    let none : length s.came - 0 ≡ length s.came = omega arith in
    (λ i. CutAfter (length s.came - length (unread i)) (is_kept (kept i))) ∙ ap (λ (n : ℕ). CutAfter n false) none
cut_how l s InputOver kept unread = refl
cut_how l s ReadFaulty kept unread = refl
cut_how l s WriteFaulty kept unread = refl
cut_how l s (CutAfter n b) kept unread = refl

-- a cut of a link that keeps nothing and has nothing unread is what silence does
silent_cut : (l : LinkState) (past : List Session) (deposits : List Deposit) → l.pending.kept ≡ None → l.unread ≡ [] →
    cut_past l past deposits ≡ with_newest_deposits (sessions_after_silence past) deposits
silent_cut l [] deposits kept unread = refl
silent_cut l (s ∷ ss) deposits kept unread =
    (λ i. with_calls (record { came = s.came; taken = s.taken; how = cut_how l s s.how kept unread i; is_cut = true; calls = s.calls })
    deposits ∷ ss)

went_cutting : (m n : WorkState) (o : StationState) (later : List Deposit) (q : Option ℕ) (g : IsWaiting m n) (mid : StationState) →
    Answers n.at Silent mid → ChangesLink mid o → (k : Cuts mid.link o.link n.calls later)
    → Steps m (moment o later q) (Waited Silent k.deposits ∷ g.0)
went_cutting m n o later q g mid answers turns k =
    let reported : Reports n.at.reported (Silent ∷ []) o.reported = let P : Option (List Answer) →
    Type 0 = λ t. Reports n.at.reported (Silent ∷ []) t in subst P (sym turns.reported) answers.reported in
    let kept : mid.link.pending.kept ≡ None = ap (λ (l : LinkState). l.pending.kept) answers.link ∙ g.3.kept in
    let unread : mid.link.unread ≡ [] = ap (λ (l : LinkState). l.unread) answers.link ∙ g.4 in
    went_on m n (moment o later q) g.0 (Waited Silent k.deposits) g.1 (k.same ∙ ap (λ (l : LinkState). l.who) answers.link)
    (answered n (moment o later q) Silent k.deposits reported (turns.passed ∙ answers.passed) k.desk)
    (λ past h. let P : List Session → Type 0 = HasPast o.link in subst P (silent_cut mid.link past k.deposits kept unread)
    (k.stands past (still_has_past n.at.link mid.link past answers.link h)))
    (λ past h. silent_view n.at.link past k.deposits (quiet_live n.at.link g.3) h
    ∙ ap (λ (c : List Deposit). deposits_of_sessions past ++ c) (sym (all_deposits k.deposits)))
    (λ past h orderly. (tt, g.2, orderly))

pub went_cut : (m n : WorkState) (o : StationState) (later : List Deposit) (q : Option ℕ) (mid : StationState) → IsWaiting m n →
    Questioned n.questions 1 q → Answers n.at Silent mid → ChangesLink mid o → Cuts mid.link o.link n.calls later → IsOver o.link →
    IsGoing m (moment o later q)
went_cut m n o later q mid g asked answers turns k over = (
  Waited Silent k.deposits ∷ g.0,
  went_cutting m n o later q g mid answers turns k,
  λ live. let dead : is_live o.link ≡ false = over_dead o.link over in absurd (cc (dead, live)),
  one_more m.questions n.questions q (Waited Silent k.deposits) g.0 g.5 asked,
)

pub went_cut_over : (m n : WorkState) (o : StationState) (later : List Deposit) (q : Option ℕ) (mid : StationState) → IsWaiting m n →
    Questioned n.questions 1 q → Answers n.at Silent mid → ChangesLink mid o → Cuts mid.link o.link n.calls later →
    WorksUntil m (moment o later q) ending.TermOver
went_cut_over m n o later q mid g asked answers turns k = (
  Waited Silent k.deposits ∷ g.0,
  went_cutting m n o later q g mid answers turns k,
  tt,
  inr (tt, one_more m.questions n.questions q (Waited Silent k.deposits) g.0 g.5 asked),
)

-- ---- the desk was asked whether the term is over

pub same_calls : (M : WorkState → WorkState → Type 0) (m : WorkState) (at : StationState) (calls later : List Deposit) (q : Option ℕ) →
    later ≡ calls → M m (moment at calls q) → M m (moment at later q)
same_calls M m at calls later q e h = let P : List Deposit → Type 0 = λ c. M m (moment at c q) in subst P (sym e) h

pub going_over : (m n : WorkState) (q : Option ℕ) → IsGoing m n → Questioned n.questions 1 q →
    WorksUntil m (moment n.at n.calls q) ending.TermOver
going_over m n q g asked = (g.0, steps_at m n q g.0 g.1, tt, inl (questioned_then m.questions n.questions q (length g.0) 1 g.3 asked))

pub waiting_over : (m n : WorkState) (q : Option ℕ) → IsWaiting m n → Questioned n.questions 1 q →
    WorksUntil m (moment n.at n.calls q) ending.TermOver
waiting_over m n q g asked = (g.0, steps_at m n q g.0 g.1, tt, inl (questioned_then m.questions n.questions q (length g.0) 1 g.5 asked))

-- ---- how a connection was closed was reported to the port

pub same_station_state : (m : WorkState) (at later : StationState) (calls : List Deposit) (q : Option ℕ) → later ≡ at →
    IsGoing m (moment at calls q) → IsGoing m (moment later calls q)
same_station_state m at later calls q e h = let P : StationState → Type 0 = λ s. IsGoing m (moment s calls q) in subst P (sym e) h
