-- Rows of terms, as serving runs them.
use Rattle.std.proofs.Common.{◌≡◌, ℕ, ◌+◌, ◌<◌, List, [], ◌∷◌, ◌++◌, Option, Some, Result, Err, IfErr, length, refl, sym, ◌∙◌, ap, subst}
use Rattle.std.proofs.Common.{append_assoc, arith}
use Rattle.std.proofs.lemmas.List.{append-nil}
use Rattle.std.proofs.lemmas.Option.{same_Some, none-some}
use Rattle.dmr_core.specs.declared.entry.Entry.{Entry}
use Rattle.dmr_desk.specs.declared.fault.TermFault.{TermFault}
use Rattle.dmr_desk.specs.declared.fault.TermFault.TheVariants as term_fault
use Rattle.dmr_desk.specs.Refusing.{IsTermFault, left_at}
use Rattle.dmr_desk.specs.Term.{Start, End, IsTerm}
use Rattle.dmr_desk.specs.Terms.{Fits, HaveRun, Sees, journals_of, next_start, start_after}
use Rattle.dmr_keeper.specs.declared.keeper.KeepFault.{KeepFault}
use Rattle.dmr_keeper.specs.declared.time.TimedRecords.{TimedRecords}
use Rattle.dmr_keeper.specs.Carried.{Carry}
use Rattle.dmr_keeper.specs.Kept.{Kept}
use Rattle.dmr_trunk.specs.declared.holding.Keeping.{Keeping}
use Rattle.dmr_trunk.specs.Served.{HaveServed, HaveStoppedServing}
use Rattle.dmr_trunk.specs.Stored.{ArePassedOn, GoOn, HasMadeIfWanted, HaveStored, IsAtEnd, waiting_with}
use Rattle.dmr_trunk.proofs.StoredLemmas.{IsCarried, carried_at_first, carried_then, stored_at_first, stored_on, stored_then}
use Rattle.dmr_desk.proofs.TermLaws.{limit_stays}

-- ---- a row of terms

-- before the first term
abbrev pub run_none : (start : Start) (seen : Option (List (List Entry))) → HaveRun start 0 start seen seen
run_none start seen = record {
  ends = [];
  are = tt;
  count = refl;
  next_is = refl;
  seen = record { follows = λ whole same. (whole, same, sym (append-nil whole)) };
  fits = λ some. absurd (omega arith);
}

pub sees_then : (before between after : Option (List (List Entry))) (journals : List (List Entry)) (journal : List Entry) →
    Sees before journals between → Sees between (journal ∷ []) after → Sees before (journals ++ journal ∷ []) after
sees_then before between after journals journal one two = record {
  follows = λ whole same.
      let last = two.follows whole same in
      let begun = one.follows last.0 last.1 in (
        begun.0,
        begun.1,
        last.2 ∙ ap (λ (js : List (List Entry)). js ++ journal ∷ []) begun.2
            ∙ append_assoc begun.0 journals (journal ∷ []),
      );
}

pub fits_first : (start middle : Start) (ends : List End) (n : ℕ) → length ends ≡ n → middle ≡ start_after start ends →
    (0 < n → Fits start) → Fits middle → Fits start
fits_first start middle [] n count is first fits = let P : Start → Type 0 = λ s. Fits s in subst P is fits
fits_first start middle (end ∷ ends) n count is first fits = first (omega arith)

-- one more term
abbrev pub run_then : (start middle next : Start) (n : ℕ) (end : End) (before between after : Option (List (List Entry))) →
    HaveRun start n middle before between → IsTerm middle end → Fits middle → next ≡ next_start middle.limit end →
    Sees between (end.journal ∷ []) after → HaveRun start (n + 1) next before after
run_then start middle next n end before between after run is fits same sees =
    let P : Start → Type 0 = λ s. IsTerm s end in
    let counted = run.count in
    record {
      ends = end ∷ run.ends;
      are = (subst P run.next_is is, run.are);
      count = omega arith;
      next_is = same ∙ ap (λ (limit : ℕ). next_start limit end) (ap (λ (s : Start). s.limit) run.next_is ∙ limit_stays start run.ends);
      seen = sees_then before between after (journals_of run.ends) end.journal run.seen sees;
      fits = λ some. fits_first start middle run.ends n run.count run.next_is run.fits fits;
    }

-- ---- with records

-- this many terms have run. Their records were made and passed on so far, and this is carried now
abbrev pub IsUnderWay : {K : Type 0} → (K → Option Kept) → Start → ℕ → Start → Option (List (List Entry)) → Option (List (List Entry)) →
    Option Carry → Option Carry → Keeping K → List TimedRecords → Keeping K → List TimedRecords → Type 0
IsUnderWay kept start n next seen seen_then begun now first waiting store waiting_now =
    (run : HaveRun start n next seen seen_then)
    × IsCarried start.site.plan begun now (journals_of run.ends)
    × HaveStored start.site.plan begun (journals_of run.ends) (kept first.keeper) (first.queue ++ waiting) (store.queue ++ waiting_now)
    (kept store.keeper)

pub way_begins : {K : Type 0} (kept : K → Option Kept) (start : Start) (seen : Option (List (List Entry))) (begun : Option Carry)
    (first : Keeping K) (waiting : List TimedRecords) → IsUnderWay kept start 0 start seen seen begun begun first waiting first waiting
way_begins kept start seen begun first waiting = (
  run_none start seen,
  carried_at_first start.site.plan begun,
  stored_at_first start.site.plan begun (kept first.keeper)
      (first.queue ++ waiting),
)

pub way_on : {K : Type 0} (kept : K → Option Kept) (start middle next : Start) (n : ℕ) (end : End)
    (seen between seen_then : Option (List (List Entry))) (begun now after : Option Carry) (first : Keeping K) (waiting : List TimedRecords)
    (store : Keeping K) (waiting_now : List TimedRecords) (new : Option TimedRecords) (store_then : Keeping K)
    (waiting_then : List TimedRecords) →
    IsUnderWay kept start n middle seen between begun now first waiting store waiting_now → IsTerm middle end → Fits middle →
    next ≡ next_start middle.limit end → Sees between (end.journal ∷ []) seen_then →
    HasMadeIfWanted start.site.plan now end.journal new after →
    GoOn (store.queue ++ waiting_with waiting_now new) (kept store.keeper) (store_then.queue ++ waiting_then) (kept store_then.keeper) →
    IsUnderWay kept start (n + 1) next seen seen_then begun after first waiting store_then waiting_then
way_on kept start middle next n end seen between seen_then begun now after first waiting store waiting_now new store_then waiting_then way
    is fits same sees made goes =
    let plan = start.site.plan in
    let journals = journals_of way.0.ends in (
      run_then start middle next n end seen between seen_then way.0 is fits same sees,
      carried_then plan begun now journals end.journal new after way.1 made,
      stored_on plan begun (journals ++ end.journal ∷ []) (kept first.keeper) (first.queue ++ waiting)
          (store.queue ++ waiting_with waiting_now new) (store_then.queue ++ waiting_then) (kept store.keeper) (kept store_then.keeper)
          (stored_then plan begun now after journals end.journal new (kept first.keeper) (first.queue ++ waiting) store.queue waiting_now
          (kept store.keeper) way.1 made way.2) goes,
    )

pub way_ends : {K : Type 0} (kept : K → Option Kept) (refuses : K → TimedRecords → KeepFault → Type 0) (start next : Start) (n : ℕ)
    (seen seen_then : Option (List (List Entry))) (begun now : Option Carry) (first : Keeping K) (waiting : List TimedRecords)
    (store : Keeping K) (waiting_now : List TimedRecords) (last : Keeping K) →
    IsUnderWay kept start n next seen seen_then begun now first waiting store waiting_now →
    GoOn (store.queue ++ waiting_now) (kept store.keeper) last.queue (kept last.keeper) →
    ((before : Option Kept) (all : List TimedRecords) → ArePassedOn before all (store.queue ++ waiting_now) (kept store.keeper) →
    IsAtEnd kept refuses before all last.queue last.fault) → HaveServed kept refuses start n next seen seen_then begun first waiting
    last
way_ends kept refuses start next n seen seen_then begun now first waiting store waiting_now last way goes end = (
  way.0,
  record {
    stored = stored_on start.site.plan begun (journals_of way.0.ends) (kept first.keeper) (first.queue ++ waiting)
        (store.queue ++ waiting_now) last.queue (kept store.keeper) (kept last.keeper) way.2 goes;
    end = end (kept first.keeper) ((first.queue ++ waiting) ++ way.2.made) way.2.passed;
  },
)

pub way_stops : {K : Type 0} (kept : K → Option Kept) (refuses : K → TimedRecords → KeepFault → Type 0) (start next : Start)
    (terms done : ℕ) (fault : TermFault) (seen seen_then : Option (List (List Entry))) (begun now : Option Carry) (first : Keeping K)
    (waiting : List TimedRecords) (store : Keeping K) (waiting_now : List TimedRecords) (last : Keeping K) →
    IsUnderWay kept start done next seen seen_then begun now first waiting store waiting_now → done < terms → IsTermFault next fault →
    GoOn (store.queue ++ waiting_now) (kept store.keeper) last.queue (kept last.keeper) →
    ((before : Option Kept) (all : List TimedRecords) → ArePassedOn before all (store.queue ++ waiting_now) (kept store.keeper) →
    IsAtEnd kept refuses before all last.queue last.fault) → HaveStoppedServing kept refuses start terms done fault seen seen_then
    begun first waiting last
way_stops kept refuses start next terms done fault seen seen_then begun now first waiting store waiting_now last way fewer why goes end = (
  record { next = next; run = way.0; fewer = fewer; why = why },
  record {
    stored = stored_on start.site.plan begun (journals_of way.0.ends) (kept first.keeper) (first.queue ++ waiting)
        (store.queue ++ waiting_now) last.queue (kept store.keeper) (kept last.keeper) way.2 goes;
    end = end (kept first.keeper) ((first.queue ++ waiting) ++ way.2.made) way.2.passed;
  },
)

-- what an error ensures, if this is the error
pub at_err : {A E : Type 0} (P : E → Type 0) (r : Result A E) (e : E) → r ≡ Err e → IfErr r P → P e
at_err P r e is given = subst (λ x. IfErr x P) is given

-- ---- a term that is tried again

-- what is left after this fault, if anything is, is what was given
pub left_is_given : {A : Type 0} (fault : TermFault) (given left : A) → left_at fault given ≡ Some left → left ≡ given
left_is_given term_fault.BadStations given left is = sym (same_Some given left is)
left_is_given (term_fault.Open why) given left is = sym (same_Some given left is)
left_is_given term_fault.NoThread given left is = absurd (none-some left is)
left_is_given (term_fault.Audit why) given left is = absurd (none-some left is)
left_is_given (term_fault.Early actor) given left is = absurd (none-some left is)

-- a fault of a term from what is the same
pub fault_from : {A : Type 0} (a b : A) (begin : A → Start) (x y : TermFault) → a ≡ b → y ≡ x → IsTermFault (begin a) x →
    IsTermFault (begin b) y
fault_from {A = A} a b begin x y same is fault =
    let P : A → Type 0 = λ s. IsTermFault (begin s) y in
    let Q : TermFault → Type 0 = λ f. IsTermFault (begin a) f in
    subst P same (subst Q (sym is) fault)
