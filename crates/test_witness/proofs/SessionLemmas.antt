-- What the steps of a link's worker make of a whole session.
use Rattle.std.proofs.Common.{◌≡◌, ℕ, List, [], ◌++◌, ◌+◌, ◌⊎◌, inl, inr, Option, Some, length, map, slice_get, sym, ◌∙◌, ap, subst, arith}
use Rattle.std.specs.Option.{option_map}
use Rattle.std.proofs.lemmas.Option.{same_Some, slice_get-map}
use Rattle.dmr_wire.specs.Answers.{Answer, Reports}
use Rattle.dmr_link.specs.declared.desk.Deposit.{Deposit}
use Rattle.dmr_link.specs.declared.stream.Peer.{Peer}
use Rattle.dmr_link.specs.Happenings.{answers_in, passages_in}
use Rattle.dmr_link.specs.Passages.{Passage, Passes}
use Rattle.dmr_link.specs.Sessions.{Session, HasPast}
use Rattle.dmr_desk.specs.declared.ending.Ending.{Ending}
use Rattle.dmr_desk.specs.declared.ending.Ending.TheVariants as ending
use Rattle.dmr_desk.specs.Meaning.{IsOneMeaning, in_record, read_on}
use Rattle.dmr_desk.specs.Pace.{AreTicks, Paced, Ticks}
use Rattle.dmr_desk.specs.Term.{End, IsTerm, Start}
use Rattle.dmr_desk.specs.Views.{view_of}
use Rattle.dmr_desk.specs.Work.{IsOrderly, Step, StationState, WorkState, Steps, happened_of, past_after, work_state}
use Rattle.test_witness.specs.Session.{IsNewStation, IsWholeSession}
use Rattle.dmr_pdu.proofs.ListLaws.{get_within}

pub at_place : {A B : Type 0} (f : A → B) (xs : List A) (k : ℕ) (x : A) → slice_get xs k ≡ Some x → slice_get (map f xs) k ≡ Some (f x)
at_place f xs k x here = slice_get-map f xs k ∙ ap (option_map f) here

-- from an empty record, a record has what was reported since
reported_since : (before after : Option (List Answer)) (answers whole : List Answer) → Reports before answers after → before ≡ Some [] →
    after ≡ Some whole → whole ≡ answers
reported_since before after answers whole reports fresh told =
    let begun = reports.follows whole told in
    begun.2 ∙ ap (λ (x : List Answer). x ++ answers) (same_Some begun.0 [] (sym begun.1 ∙ fresh))

-- the same of a gate, whose record was empty if it had one
passed_since : (before after : Option (List Passage)) (passages whole : List Passage) → Passes before passages after →
    ((begun : List Passage) → before ≡ Some begun → begun ≡ []) → after ≡ Some whole → whole ≡ passages
passed_since before after passages whole passes fresh told =
    let begun = passes.follows whole told in
    begun.2 ∙ ap (λ (x : List Passage). x ++ passages) (fresh begun.0 begun.1)

module _ (whole : (m n : WorkState) (steps : List Step) (answers : List Answer) → Steps m n steps → HasPast m.at.link [] →
    m.at.reported ≡ Some [] → n.at.reported ≡ Some answers → map in_record (past_after [] steps) ≡ read_on [] answers)
    (works : (m n : WorkState) (past : List Session) (steps : List Step) → Steps m n steps → HasPast m.at.link past →
    IsOneMeaning n.at.link (past_after past steps)) where
  pub session : (s t : StationState) (view : List Deposit) (answers : List Answer) (steps : List Step) →
      Steps (work_state s []) (work_state t view) steps → IsNewStation s → t.reported ≡ Some answers
      → IsWholeSession t answers view
  session s t view answers steps did fresh told =
      let P : Peer → Type 0 = λ who. IsOrderly who [] steps in
      record {
        steps = steps;
        orderly = subst P (sym did.who) (did.orderly [] fresh.link);
        answered = reported_since s.reported t.reported (answers_in (happened_of steps)) answers did.happens.port fresh.reported told;
        connections = whole (work_state s []) (work_state t view) steps answers did fresh.link fresh.reported told;
        deposits = did.view [] fresh.link ∙ sym did.happens.desk;
        means = works (work_state s []) (work_state t view) [] steps did fresh.link;
        passed = λ passages passed. passed_since s.passed t.passed (passages_in (happened_of steps)) passages did.happens.gate fresh.passed
            passed;
      }

-- ---- the ticker

given_by : (before after : Paced) (view : List Deposit) (e : Ending) → Ticks (Some before) [] (Some after) view e → AreTicks view ×
    ((after.ticks ≡ before.ticks + length view) ⊎ (after.ticks ≡ before.ticks + (length view + 1)))
given_by before after view ending.Finished ticks =
    (subst AreTicks (sym ticks.1) ticks.2, inl (ticks.3.0 ∙ ap (λ (ds : List Deposit). before.ticks + length ds) (sym ticks.1)))
given_by before after view ending.GateShut ticks = absurd ticks.3
given_by before after view ending.TermOver ticks = (
  subst AreTicks (sym ticks.1) ticks.2,
  elim ticks.3 [
    | inl all ↦ inl (all ∙ ap (λ (ds : List Deposit). before.ticks + length ds) (sym ticks.1))
    | inr one ↦ inr (one ∙ ap (λ (ds : List Deposit). before.ticks + (length ds + 1)) (sym ticks.1))
  ],
)

-- the ticker's view has a tick for each that its pacer gave, except that the last may have been dropped
pub ticks_of : (start : Start) (end : End) (before after : Paced) → IsTerm start end → start.pacer ≡ Some before → end.pacer ≡ Some after
    → AreTicks (view_of (length start.stations) end.journal)
    × ((after.ticks ≡ before.ticks + length (view_of (length start.stations) end.journal)) ⊎
    (after.ticks ≡ before.ticks + (length (view_of (length start.stations) end.journal) + 1)))
ticks_of start end before after term begun ended =
    let run = term.run in
    let all = run.ended.all_ended in
    let many = run.ended.actors in
    let ending = get_within end.ends (length start.stations) (omega arith) in
    let P : Option Paced → Option Paced → Type 0 = λ x y. Ticks x [] y (view_of (length start.stations) end.journal) ending.0 in
    given_by before after (view_of (length start.stations) end.journal) ending.0
    (subst (λ x. P x (Some after)) begun
    (subst (P start.pacer) ended (run.ended.ticker ending.0 (view_of (length start.stations) end.journal) ending.1
    (run.views (length start.stations) (omega arith)))))
