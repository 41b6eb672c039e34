-- The answers of a worker's steps, read in one go.
use Rattle.std.proofs.Common.{◌≡◌, ◌⊎◌, inl, inr, ℕ, ◌+◌, ◌≤◌, Bool, true, false, cond, List, [], ◌∷◌, ◌++◌, Option, Some, map, refl, sym}
use Rattle.std.proofs.Common.{ap, ◌∙◌, subst, arith}
use Rattle.std.specs.Prelude.{nat_lt}
use Rattle.std.proofs.lemmas.Option.{same_Some}
use Rattle.std.proofs.lemmas.List.Sums.{fold-append}
use Rattle.std.proofs.lemmas.List.Elements.{filter_map-append}
use Rattle.dmr_wire.specs.Answers.{Answer, Reports, Opened, NotYet, Finished, Came, InputEnded, ReadInterrupted, ReadBlocked, ReadFailed}
use Rattle.dmr_wire.specs.Answers.{Took, WriteInterrupted, WriteBlocked, WriteFailed, Again, Silent}
use Rattle.dmr_link.specs.declared.desk.Deposit.{Deposit}
use Rattle.dmr_link.specs.declared.ended.Ended.{Ended}
use Rattle.dmr_link.specs.declared.ended.Ended.TheVariants as ended
use Rattle.dmr_link.specs.declared.stream.Peer.{Peer}
use Rattle.dmr_link.specs.Happenings.{Happening, answers_in, deposits_in, port_answer}
use Rattle.dmr_link.specs.Recorded.{Reading, reading_at, of_progress, reading_after_any, reading_after_all, sessions_after_silence}
use Rattle.dmr_link.specs.Sessions.{Session, new_session, Progress, ReadFaulty, WriteFaulty, progress_at, in_writing, with_how}
use Rattle.dmr_link.specs.Sessions.{octets_taken, progress_after_answer, progress_after_answers, is_wire, reads_in, AreOfWire}
use Rattle.dmr_link.specs.Sessions.{sessions_after}
use Rattle.dmr_desk.specs.Meaning.{in_record, read_on, IsOneRecord}
use Rattle.dmr_desk.specs.Work.{Step, Asked, Served, Waited, happened_in, happened_of, with_newest_deposits, past_after, IsAsk, IsWait}
use Rattle.dmr_desk.specs.Work.{MayBeginServe, StopsAt, IsCall, IsOrderly}
use Rattle.dmr_desk.proofs.WorkerLemmas.{no_answers}

-- ---- lists

-- ---- without what a desk took

abbrev bare : Progress → Progress
bare h = record { session = in_record h.session; row = h.row; writing = h.writing }

bare_cond : (t : Bool) (a b : Progress) → cond t (bare a) (bare b) ≡ bare (cond t a b)
bare_cond true a b = refl
bare_cond false a b = refl

bare_took : (s : Session) (octets : List ℕ) → octets_taken (in_record s) octets ≡ bare (octets_taken s octets)
bare_took s [] = refl
bare_took s (x ∷ octets) = refl

bare_progress : (h : Progress) (a : Answer) → progress_after_answer (bare h) a ≡ bare (progress_after_answer h a)
bare_progress h Opened = refl
bare_progress h NotYet = refl
bare_progress h Finished = refl
bare_progress h (Came octets) = refl
bare_progress h InputEnded = refl
bare_progress h ReadInterrupted =
    bare_cond (nat_lt h.row 16) (progress_at h.session (h.row + 1)) (progress_at (with_how h.session ReadFaulty) 0)
bare_progress h ReadBlocked = refl
bare_progress h ReadFailed = refl
bare_progress h (Took octets) = bare_took h.session octets
bare_progress h WriteInterrupted =
    bare_cond (nat_lt h.writing 16) (in_writing h.session (h.writing + 1)) (progress_at (with_how h.session WriteFaulty) 0)
bare_progress h WriteBlocked = refl
bare_progress h WriteFailed = refl
bare_progress h Again = refl
bare_progress h Silent = refl

bare_all : (h : Progress) (answers : List Answer) → progress_after_answers (bare h) answers ≡ bare (progress_after_answers h answers)
bare_all h [] = refl
bare_all h (a ∷ answers) =
    ap (λ (k : Progress). progress_after_answers k answers) (bare_progress h a) ∙ bare_all (progress_after_answer h a) answers

-- ---- a call of serve

-- without a connection, answers of reads and writes change nothing
unheard : (row writing reads : ℕ) (a : Answer) → is_wire a ≡ true → reading_after_any
    (reading_at [] row writing reads) a ≡ reading_at [] row writing reads
unheard row writing reads Opened wire = cc
unheard row writing reads NotYet wire = cc
unheard row writing reads Finished wire = cc
unheard row writing reads (Came octets) wire = refl
unheard row writing reads InputEnded wire = refl
unheard row writing reads ReadInterrupted wire = refl
unheard row writing reads ReadBlocked wire = refl
unheard row writing reads ReadFailed wire = refl
unheard row writing reads (Took octets) wire = refl
unheard row writing reads WriteInterrupted wire = refl
unheard row writing reads WriteBlocked wire = refl
unheard row writing reads WriteFailed wire = refl
unheard row writing reads Again wire = cc
unheard row writing reads Silent wire = cc

none_progress : (row writing reads : ℕ) (answers : List Answer) → AreOfWire answers →
    reading_after_all (reading_at [] row writing reads) answers ≡ reading_at [] row writing reads
none_progress row writing reads [] wire = refl
none_progress row writing reads (a ∷ answers) wire =
    ap (λ (r : Reading). reading_after_all r answers) (unheard row writing reads a wire.0) ∙ none_progress row writing reads answers wire.1

-- ---- steps

-- a call may begin at this reading: it counts on no interruption that came last
abbrev Begins : Reading → Type 0
Begins r = (r.writing ≡ 0) × (((r.reads ≡ 0) × (r.row ≡ 0)) ⊎ (r.reads ≡ 64))

-- a reading agrees with a call after some of its reads; it began the call itself, or continues after the 64 reads of
-- the call before
record Matches (ss : List Session) (r : Reading) (k : Progress) (reads : ℕ) : Type 0 where
  pub past : r.past ≡ k.session ∷ ss
  pub writing : r.writing ≡ k.writing
  pub reads_are : (r.reads ≡ reads) ⊎ (reads ≡ 0)

-- how the answers of one call are read after an opening or a wait, and after the 64 reads of the call before
pub record RecordLaws : Type 0 where
  pub begun : (s : Session) (ss : List Session) (answers : List Answer) → AreOfWire answers → reads_in answers ≤ 64 →
      reading_after_all (reading_at (s ∷ ss) 0 0 0) answers ≡ of_progress ss (reads_in answers)
      (progress_after_answers (progress_at s 0) answers)
  pub paused : (s : Session) (ss : List Session) (row : ℕ) (answers : List Answer) → AreOfWire answers → reads_in answers ≤ 64 →
      (reading_after_all (reading_at (s ∷ ss) row 0 64) answers).past ≡ (progress_after_answers (progress_at s 0) answers).session ∷ ss
  pub writing : (s : Session) (ss : List Session) (row : ℕ) (answers : List Answer) → AreOfWire answers → reads_in answers ≤ 64 →
      (reading_after_all (reading_at (s ∷ ss) row 0 64) answers).writing ≡ (progress_after_answers (progress_at s 0) answers).writing
  pub reads : (s : Session) (ss : List Session) (row : ℕ) (answers : List Answer) → AreOfWire answers → reads_in answers ≤ 64 →
      ((reading_after_all (reading_at (s ∷ ss) row 0 64) answers).reads ≡ reads_in answers) ⊎ (reads_in answers ≡ 0)

-- a call, from its beginning
matched : RecordLaws → (s : Session) (ss : List Session) (row writing reads : ℕ) (answers : List Answer) →
    Begins (reading_at (s ∷ ss) row writing reads) → AreOfWire answers → reads_in answers ≤ 64 →
    Matches ss (reading_after_all (reading_at (s ∷ ss) row writing reads) answers) (progress_after_answers (progress_at s 0) answers)
    (reads_in answers)
matched laws s ss row writing reads answers begins wire few =
    let M : Reading → Type 0 = λ r. Matches ss (reading_after_all r answers) (progress_after_answers (progress_at s 0) answers)
    (reads_in answers) in
    elim begins.1 [
      | inl start ↦
          let same = laws.begun s ss answers wire few in
          let here : reading_at (s ∷ ss) 0 0 0 ≡ reading_at (s ∷ ss) row writing reads =
          (λ i. reading_at (s ∷ ss) (sym start.1 i) (sym begins.0 i) (sym start.0 i)) in
          subst M here (record {
            past = ap (λ (r : Reading). r.past) same;
            writing = ap (λ (r : Reading). r.writing) same;
            reads_are = inl (ap (λ (r : Reading). r.reads) same);
          })
      | inr full ↦
          let here : reading_at (s ∷ ss) row 0 64 ≡ reading_at (s ∷ ss) row writing reads =
          (λ i. reading_at (s ∷ ss) row (sym begins.0 i) (sym full i)) in
          subst M here (record {
            past = laws.paused s ss row answers wire few;
            writing = laws.writing s ss row answers wire few;
            reads_are = laws.reads s ss row answers wire few;
          })
    ]

-- the connections of a reading
abbrev Has : Reading → List Session → Type 0
Has r past = r.past ≡ map in_record past

-- a call adds to the reading what it does to the connections; after its 64 reads, another may begin
after_call : RecordLaws → (who : Peer) (now : List Session) (row writing reads : ℕ) (happened : List Happening) (stop : Ended) →
    Begins (reading_at (map in_record now) row writing reads) → IsCall who now happened stop →
    Has (reading_after_all (reading_at (map in_record now) row writing reads) (answers_in happened))
    (sessions_after now (answers_in happened) (deposits_in happened))
    × (reads_in (answers_in happened) ≡ 64 → Begins
    (reading_after_all (reading_at (map in_record now) row writing reads) (answers_in happened)))
after_call laws who [] row writing reads happened stop begins call =
    let same = none_progress row writing reads (answers_in happened) call.wire in (
      ap (λ (r : Reading). r.past) same,
      λ full. let P : Reading → Type 0 = λ r. Begins r in subst P (sym same) begins,
    )
after_call laws who (s ∷ ss) row writing reads happened stop begins call =
    let answers = answers_in happened in
    let m = matched laws (in_record s) (map in_record ss) row writing reads answers begins call.wire call.few in
    let unread : progress_after_answers (progress_at (in_record s) 0) answers ≡ bare (progress_after_answers (progress_at s 0) answers) =
    bare_all (progress_at s 0) answers in (
      m.past ∙ ap (λ (k : Progress). k.session ∷ map in_record ss) unread,
      λ full. (
        m.writing ∙ ap (λ (k : Progress). k.writing) unread ∙ call.rested s ss refl,
        inr (elim m.reads_are [ inl are ↦ are ∙ full | inr none ↦ absurd (omega arith) ]),
      ),
    )

-- if another call may begin directly after a call, that call made its 64 reads
paused_full : (happened : List Happening) (stop : Ended) (earlier : List Step) → MayBeginServe (Served happened stop ∷ earlier) →
    StopsAt stop (answers_in happened) → reads_in (answers_in happened) ≡ 64
paused_full happened ended.Paused earlier may stops = stops
paused_full happened ended.Idle earlier may stops = absurd may
paused_full happened ended.TermOver earlier may stops = absurd may
paused_full happened ended.GateShut earlier may stops = absurd may
paused_full happened ended.Closed earlier may stops = absurd may
paused_full happened ended.ReadFault earlier may stops = absurd may
paused_full happened ended.WriteFault earlier may stops = absurd may
paused_full happened (ended.BadFrame why) earlier may stops = absurd may

silent_bare : (past : List Session) (deposits : List Deposit) → sessions_after_silence (map in_record past) ≡ map in_record
    (with_newest_deposits (sessions_after_silence past) deposits)
silent_bare [] deposits = refl
silent_bare (s ∷ ss) deposits = refl

-- a reading of all answers of these steps
record Follows (past : List Session) (steps : List Step) (r : Reading) : Type 0 where
  pub has : Has r (past_after past steps)
  pub begins : MayBeginServe steps → Begins r

asked_more : (past : List Session) (earlier : List Step) (x : Answer) (r : Reading) → IsAsk x → Follows past earlier r →
    Follows past (Asked x ∷ earlier) (reading_after_any r x)
asked_more past earlier Opened r is f = record
    { has = ap (λ (ss : List Session). new_session ∷ ss) f.has; begins = λ may. (refl, inl (refl, refl)) }
asked_more past earlier NotYet r is f = record { has = f.has; begins = λ may. absurd may }
asked_more past earlier Finished r is f = record { has = f.has; begins = λ may. absurd may }
asked_more past earlier x r is f = absurd is

waited_more : (past : List Session) (earlier : List Step) (x : Answer) (deposits : List Deposit) (r : Reading) → IsWait x deposits →
    Follows past earlier r → Follows past (Waited x deposits ∷ earlier) (reading_after_any r x)
waited_more past earlier Again deposits r is f = record { has = f.has; begins = λ may. (refl, inl (refl, refl)) }
waited_more past earlier Silent deposits r is f = record
    { has = ap sessions_after_silence f.has ∙ silent_bare (past_after past earlier) deposits; begins = λ may. absurd may }
waited_more past earlier x deposits r is f = absurd is

served_more : RecordLaws → (who : Peer) (past : List Session) (earlier : List Step) (happened : List Happening) (stop : Ended)
    (r : Reading) → IsCall who (past_after past earlier) happened stop → MayBeginServe earlier → Follows past earlier r →
    Follows past (Served happened stop ∷ earlier) (reading_after_all r (answers_in happened))
served_more laws who past earlier happened stop r call may f =
    let now = past_after past earlier in
    let here : reading_at (map in_record now) r.row r.writing r.reads ≡ r = (λ i. reading_at (sym f.has i) r.row r.writing r.reads) in
    let P : Reading → Type 0 = λ x. Begins x in
    let Q : Reading → Type 0 = λ x. Follows past (Served happened stop ∷ earlier) (reading_after_all x (answers_in happened)) in
    let after = after_call laws who now r.row r.writing r.reads happened stop (subst P (sym here) (f.begins may)) call in
    subst Q here (record { has = after.0; begins = λ more. after.1 (paused_full happened stop earlier more call.stops) })

-- one more step
read_more : (past : List Session) (earlier : List Step) (d : Step) (answers : List Answer) (r : Reading) →
    answers_in (happened_in d) ≡ answers →
    Follows past (d ∷ earlier) (reading_after_all (reading_after_all r (answers_in (happened_of earlier))) answers) →
    Follows past (d ∷ earlier) (reading_after_all r (answers_in (happened_of (d ∷ earlier))))
read_more past earlier d answers r are f =
    let P : Reading → Type 0 = λ x. Follows past (d ∷ earlier) x in
    let split : answers_in (happened_of earlier ++ happened_in d) ≡ answers_in (happened_of earlier) ++ answers =
    filter_map-append port_answer (happened_of earlier) (happened_in d)
    ∙ ap (λ (xs : List Answer). answers_in (happened_of earlier) ++ xs) are in
    subst P (sym (ap (reading_after_all r) split ∙ fold-append reading_after_any r (answers_in (happened_of earlier)) answers)) f

abbrev start : List Session → Reading
start past = reading_at (map in_record past) 0 0 0

follows : RecordLaws → (who : Peer) (past : List Session) (steps : List Step) → IsOrderly who past steps →
    Follows past steps (reading_after_all (start past) (answers_in (happened_of steps)))
follows laws who past [] orderly = record { has = refl; begins = λ may. (refl, inl (refl, refl)) }
follows laws who past (Asked x ∷ earlier) orderly =
    read_more past earlier (Asked x) (x ∷ []) (start past) refl
    (asked_more past earlier x (reading_after_all (start past) (answers_in (happened_of earlier))) orderly.0
    (follows laws who past earlier orderly.2))
follows laws who past (Served happened stop ∷ earlier) orderly =
    read_more past earlier (Served happened stop) (answers_in happened) (start past) refl
    (served_more laws who past earlier happened stop (reading_after_all (start past) (answers_in (happened_of earlier))) orderly.0 orderly.1
    (follows laws who past earlier orderly.2))
follows laws who past (Waited x deposits ∷ earlier) orderly =
    read_more past earlier (Waited x deposits) (x ∷ []) (start past) (ap (λ (xs : List Answer). x ∷ xs) (no_answers deposits))
    (waited_more past earlier x deposits (reading_after_all (start past) (answers_in (happened_of earlier))) orderly.0
    (follows laws who past earlier orderly.2))

pub one_record : RecordLaws → (who : Peer) (past : List Session) (steps : List Step) → IsOrderly who past steps → IsOneRecord past steps
one_record laws who past steps orderly = sym (follows laws who past steps orderly).has

-- the same for a port that reports its record
pub record_since : RecordLaws → (who : Peer) (past : List Session) (steps : List Step) (begun whole : List Answer) →
    IsOrderly who past steps → (before after : Option (List Answer)) → Reports before (answers_in (happened_of steps)) after →
    before ≡ Some begun → after ≡ Some whole → (answers : List Answer) × (whole ≡ begun ++ answers) ×
    (map in_record (past_after past steps) ≡ read_on past answers)
record_since laws who past steps begun whole orderly before after tells some later =
    let f = tells.follows whole later in
    let same : f.0 ≡ begun = same_Some f.0 begun (sym f.1 ∙ some) in (
      answers_in (happened_of steps),
      f.2 ∙ ap (λ (xs : List Answer). xs ++ answers_in (happened_of steps)) same,
      one_record laws who past steps orderly,
    )

pub whole_record : RecordLaws → (who : Peer) (steps : List Step) (whole : List Answer) → IsOrderly who [] steps →
    (before after : Option (List Answer)) → Reports before (answers_in (happened_of steps)) after →
    before ≡ Some [] → after ≡ Some whole → map in_record (past_after [] steps) ≡ read_on [] whole
whole_record laws who steps whole orderly before after tells none some =
    let r = record_since laws who [] steps [] whole orderly before after tells none some in
    r.2 ∙ ap (read_on []) (sym r.1)
