-- Records on their way from terms to the store.
use Rattle.std.proofs.Common.{◌≡◌, ℕ, zero, suc, ◌+◌, ◌-◌, ◌≤◌, ◌<◌, ◌^◌, List, [], ◌∷◌, ◌++◌, Option, None, Some, IfSome, IsSomeAnd, false}
use Rattle.std.proofs.Common.{true, IsOk, Result, Err, length, drop, append_assoc, refl, sym, ◌∙◌, ap, subst, arith}
use Rattle.std.proofs.lemmas.List.{append-nil}
use Rattle.dmr_core.specs.declared.entry.Entry.{Entry}
use Rattle.dmr_plan.specs.declared.settings.Settings.{Settings}
use Rattle.dmr_keeper.specs.declared.keeper.KeepFault.{KeepFault}
use Rattle.dmr_keeper.specs.declared.time.TermTime.{TermTime}
use Rattle.dmr_keeper.specs.declared.time.TimedRecords.{TimedRecords}
use Rattle.dmr_keeper.specs.Carried.{Carry, carried_after}
use Rattle.dmr_keeper.specs.Handing.{AreHandedOver, IsRefused, newest}
use Rattle.dmr_keeper.specs.Kept.{Kept}
use Rattle.dmr_keeper.specs.Records.{AreRecords}
use Rattle.dmr_keeper.specs.Ticks.{ticks_in}
use Rattle.dmr_keeper.proofs.KeepsLaws.{keeps_nothing, keeps_more}
use Rattle.dmr_trunk.specs.Stored.{IsRecordOf, HasMadeIfWanted, carried_after_all, AreRecordsOf, Passage, at_first, made, handed_over, lost}
use Rattle.dmr_trunk.specs.Stored.{ArePassedOn, GoOn, waiting_with, HaveStored, IsAtEnd}

-- ---- records that are made

-- with the time of the end of the term
pub is_record_of : (plan : Settings) (before : Carry) (journal : List Entry) (ended : ℕ) (made : Option TimedRecords) →
    IsSomeAnd made (λ (term : TimedRecords). AreRecords plan before journal term.records) →
    IsSomeAnd made (λ (term : TimedRecords). term.time ≡ record { ended = ended; tick_ms = plan.serving.tick_ms }) →
    IsSomeAnd made (IsRecordOf plan before journal)
is_record_of plan before journal ended (Some term) are at = (are, ap (λ (time : TermTime). time.tick_ms) at)
is_record_of plan before journal ended None are at = are

carried_on : (plan : Settings) (before : Carry) (journals : List (List Entry)) (journal : List Entry) →
    carried_after_all plan before (journals ++ journal ∷ []) ≡ carried_after plan (carried_after_all plan before journals) journal
carried_on plan before [] journal = refl
carried_on plan before (first ∷ journals) journal = carried_on plan (carried_after plan before first) journals journal

records_on : (plan : Settings) (before : Carry) (journals : List (List Entry)) (terms : List TimedRecords) (journal : List Entry)
    (term : TimedRecords) → AreRecordsOf plan before journals terms → IsRecordOf plan
    (carried_after_all plan before journals) journal term → AreRecordsOf plan before (journals ++ journal ∷ []) (terms ++ term ∷ [])
records_on plan before [] [] journal term are is = (is, tt)
records_on plan before (first ∷ journals) (one ∷ terms) journal term are is =
    (are.0, records_on plan (carried_after plan before first) journals terms journal term are.1 is)
records_on plan before [] (one ∷ terms) journal term are is = absurd are
records_on plan before (first ∷ journals) [] journal term are is = absurd are

-- ---- records that wait

-- the oldest of the later ones are lost, as long as 1,000 remain
dropped : (n : ℕ) (all handed earlier later : List TimedRecords) → n ≤ length later - 1000 → Passage all handed (earlier ++ later) →
    Passage all handed (earlier ++ drop n later)
dropped zero all handed earlier later few way = way
dropped (suc n) all handed earlier [] few way = way
dropped (suc n) all handed earlier (term ∷ later) few way =
    dropped n all handed earlier later (omega arith) (lost all handed earlier later term (omega arith) way)

pub newest_wait : (all handed earlier later : List TimedRecords) → Passage all handed (earlier ++ later) →
    Passage all handed (earlier ++ newest later)
newest_wait all handed earlier later way = dropped (length later - 1000) all handed earlier later (omega arith) way

made_wait : (all handed earlier later : List TimedRecords) (term : TimedRecords) → Passage all handed (earlier ++ later) →
    Passage (all ++ term ∷ []) handed (earlier ++ newest (later ++ term ∷ []))
made_wait all handed earlier later term way =
    let P : List TimedRecords → Type 0 = λ waiting. Passage (all ++ term ∷ []) handed waiting in
    newest_wait (all ++ term ∷ []) handed earlier (later ++ term ∷ [])
    (subst P (append_assoc earlier later (term ∷ [])) (made all handed (earlier ++ later) term way))

-- ---- records that the store keeps

-- none were handed over
pub passed_at_first : (kept : Option Kept) (waiting : List TimedRecords) → ArePassedOn kept waiting waiting kept
passed_at_first kept waiting = record { handed = []; way = at_first waiting; kept = keeps_nothing kept }

pub goes_same : (kept : Option Kept) (waiting : List TimedRecords) → GoOn waiting kept waiting kept
goes_same kept waiting before all passed = passed

pub goes_on : (kept between after : Option Kept) (first second third : List TimedRecords) → GoOn first kept second between →
    GoOn second between third after → GoOn first kept third after
goes_on kept between after first second third one two before all passed = two before all (one before all passed)

-- all that wait are one list
pub goes_moved : (kept : Option Kept) (earlier later together : List TimedRecords) → together ≡ newest (earlier ++ later) →
    GoOn (earlier ++ later) kept together kept
goes_moved kept earlier later together is before all passed =
    let P : List TimedRecords → Type 0 = λ waiting. Passage all passed.handed waiting in
    record {
      handed = passed.handed;
      way = subst P (sym is) (newest_wait all passed.handed [] (earlier ++ later) passed.way);
      kept = passed.kept;
    }

-- the store keeps the oldest, while others wait after them
pub goes_handed : (kept after : Option Kept) (old new later : List TimedRecords) → AreHandedOver kept old new after →
    GoOn (old ++ later) kept (new ++ later) after
goes_handed kept after old new later over before all passed =
    let P : List TimedRecords → Type 0 = λ waiting. Passage all passed.handed waiting in
    let whole : old ++ later ≡ over.handed ++ (new ++ later) =
    ap (λ (terms : List TimedRecords). terms ++ later) over.all ∙ append_assoc over.handed new later in
    record {
      handed = passed.handed ++ over.handed;
      way = handed_over all passed.handed over.handed (new ++ later) (subst P whole passed.way);
      kept = keeps_more before kept after passed.handed over.handed passed.kept over.kept;
    }

-- the store keeps the oldest, and no others wait
pub goes_handed_alone : (kept after : Option Kept) (old new : List TimedRecords) → AreHandedOver kept old new after →
    GoOn old kept new after
goes_handed_alone kept after old new over before all passed =
    let P : List TimedRecords → Type 0 = λ waiting. Passage all passed.handed waiting in
    record {
      handed = passed.handed ++ over.handed;
      way = handed_over all passed.handed over.handed new (subst P over.all passed.way);
      kept = keeps_more before kept after passed.handed over.handed passed.kept over.kept;
    }

-- nothing waits after these
pub goes_to_all : (kept after : Option Kept) (waiting left none : List TimedRecords) → none ≡ [] → GoOn waiting kept left after →
    GoOn waiting kept (left ++ none) after
goes_to_all kept after waiting left none is goes before all passed =
    let P : List TimedRecords → Type 0 = λ terms. ArePassedOn before all terms after in
    subst P (sym (append-nil left) ∙ ap (λ (terms : List TimedRecords). left ++ terms) (sym is)) (goes before all passed)

-- what failed did not go well
pub err_is_not_ok : {A E : Type 0} (result : Result A E) (fault : E) → result ≡ Err fault → IsOk result → ⊥
err_is_not_ok {A = A} {E = E} result fault is ok =
    let P : Result A E → Type 0 = λ r. IsOk r in
    let no : false ≡ true = subst P is ok in
    cc no

-- ---- the end

pub at_end : {K : Type 0} (kept : K → Option Kept) (refuses : K → TimedRecords → KeepFault → Type 0) (before : Option Kept)
    (all : List TimedRecords) (store : K) (old left : List TimedRecords) (fault : Option KeepFault) →
    ArePassedOn before all old (kept store) → (fault ≡ None → left ≡ []) → IfSome fault (IsRefused kept refuses store old left)
    → IsAtEnd kept refuses before all left fault
at_end kept refuses before all store old left None passed empty refused = empty refl
at_end kept refuses before all store old left (Some fault) passed empty refused =
    record {
      store = refused.1;
      passed = goes_handed_alone (kept store) (kept refused.1) old left
          (record { handed = refused.0; all = refused.4; kept = refused.5 }) before all passed;
      term = refused.2;
      later = refused.3;
      oldest = refused.6;
      refused = refused.7;
    }

-- ---- on the way

-- what is carried now, after terms with these journals
abbrev pub IsCarried : Settings → Option Carry → Option Carry → List (List Entry) → Type 0
IsCarried plan None None journals = Unit {0}
IsCarried plan (Some begun) (Some now) journals =
    (carried_after_all plan begun journals).ticks < 2 ^ 64 → now ≡ carried_after_all plan begun journals
IsCarried plan begun now journals = ⊥

pub carried_at_first : (plan : Settings) (begun : Option Carry) → IsCarried plan begun begun []
carried_at_first plan None = tt
carried_at_first plan (Some begun) = λ few. refl

none_at_first : (plan : Settings) (begun : Option Carry) → IfSome begun
    (λ carried. (carried_after_all plan carried []).ticks < 2 ^ 64 → AreRecordsOf plan carried [] [])
none_at_first plan None = tt
none_at_first plan (Some begun) = λ few. tt

pub stored_at_first : (plan : Settings) (begun : Option Carry) (kept : Option Kept) (waiting : List TimedRecords) →
    HaveStored plan begun [] kept waiting waiting kept
stored_at_first plan begun kept waiting =
    let P : List TimedRecords → Type 0 = λ all. ArePassedOn kept all waiting kept in
    record {
      made = [];
      records = none_at_first plan begun;
      unwanted = λ none. refl;
      passed = subst P (sym (append-nil waiting)) (passed_at_first kept waiting);
    }

-- what is made after a term, in a list
abbrev with_made : List TimedRecords → Option TimedRecords → List TimedRecords
with_made terms None = terms
with_made terms (Some term) = terms ++ term ∷ []

pub carried_then : (plan : Settings) (begun now : Option Carry) (journals : List (List Entry)) (journal : List Entry)
    (new : Option TimedRecords) (after : Option Carry) → IsCarried plan begun now journals → HasMadeIfWanted plan now journal new after →
    IsCarried plan begun after (journals ++ journal ∷ [])
carried_then plan None None journals journal new None carried is = tt
carried_then plan (Some begun) (Some now) journals journal new (Some after) carried is = λ few.
    let on = carried_on plan begun journals journal in
    let P : Carry → Type 0 = λ carry. carry.ticks < 2 ^ 64 in
    let few_then : (carried_after plan (carried_after_all plan begun journals) journal).ticks < 2 ^ 64 = subst P on few in
    let same = carried (omega arith) in
    let Q : Carry → Type 0 = λ carry. carry.ticks + ticks_in journal < 2 ^ 64 in
    is.carried (subst Q (sym same) few_then) ∙ ap (λ (carry : Carry). carried_after plan carry journal) same ∙ sym on
carried_then plan None None journals journal new (Some after) carried is = absurd is
carried_then plan (Some begun) (Some now) journals journal new None carried is = absurd is
carried_then plan None (Some now) journals journal new after carried is = absurd carried
carried_then plan (Some begun) None journals journal new after carried is = absurd carried

records_then : (plan : Settings) (begun now : Option Carry) (journals : List (List Entry)) (journal : List Entry)
    (terms : List TimedRecords) (new : Option TimedRecords) (after : Option Carry) → IsCarried plan begun now journals →
    HasMadeIfWanted plan now journal new after
    → IfSome begun (λ carried. (carried_after_all plan carried journals).ticks < 2 ^ 64 → AreRecordsOf plan carried journals terms)
    → IfSome begun (λ carried. (carried_after_all plan carried (journals ++ journal ∷ [])).ticks < 2 ^ 64 →
    AreRecordsOf plan carried (journals ++ journal ∷ []) (with_made terms new))
records_then plan None now journals journal terms new after carried is records = tt
records_then plan (Some begun) (Some now) journals journal terms (Some term) (Some after) carried is records = λ few.
    let on = carried_on plan begun journals journal in
    let P : Carry → Type 0 = λ carry. carry.ticks < 2 ^ 64 in
    let few_then : (carried_after plan (carried_after_all plan begun journals) journal).ticks < 2 ^ 64 = subst P on few in
    let same = carried (omega arith) in
    let Q : Carry → Type 0 = λ carry. carry.ticks + ticks_in journal < 2 ^ 64 in
    let R : Carry → Type 0 = λ carry. IsRecordOf plan carry journal term in
    records_on plan begun journals terms journal term (records (omega arith)) (subst R same (is.records (subst Q (sym same) few_then)))
records_then plan (Some begun) (Some now) journals journal terms None (Some after) carried is records = λ few.
    let on = carried_on plan begun journals journal in
    let P : Carry → Type 0 = λ carry. carry.ticks < 2 ^ 64 in
    let few_then : (carried_after plan (carried_after_all plan begun journals) journal).ticks < 2 ^ 64 = subst P on few in
    let same = carried (omega arith) in
    let Q : Carry → Type 0 = λ carry. carry.ticks + ticks_in journal < 2 ^ 64 in
    absurd (is.records (subst Q (sym same) few_then))
records_then plan (Some begun) (Some now) journals journal terms new None carried is records = absurd is
records_then plan (Some begun) None journals journal terms new after carried is records = absurd carried

passed_then : (before after : Option Kept) (all earlier later : List TimedRecords) (new : Option TimedRecords) →
    ArePassedOn before all (earlier ++ later) after → ArePassedOn before (with_made all new) (earlier ++ waiting_with later new) after
passed_then before after all earlier later None passed = passed
passed_then before after all earlier later (Some term) passed = record
    { handed = passed.handed; way = made_wait all passed.handed earlier later term passed.way; kept = passed.kept }

made_after : (first terms : List TimedRecords) (new : Option TimedRecords) → with_made (first ++ terms) new ≡ first ++ with_made terms new
made_after first terms None = refl
made_after first terms (Some term) = append_assoc first terms (term ∷ [])

some_is_none : {A : Type 0} (x : A) → Some x ≡ None → ⊥
some_is_none x is = cc

unwanted_then : (plan : Settings) (begun now : Option Carry) (journals : List (List Entry)) (journal : List Entry)
    (terms : List TimedRecords) (new : Option TimedRecords) (after : Option Carry) → IsCarried plan begun now journals →
    HasMadeIfWanted plan now journal new after → (begun ≡ None → terms ≡ []) → begun ≡ None → with_made terms new ≡ []
unwanted_then plan None None journals journal terms None None carried is unwanted none = unwanted none
unwanted_then plan None None journals journal terms (Some term) None carried is unwanted none = absurd (some_is_none term is)
unwanted_then plan None None journals journal terms new (Some after) carried is unwanted none = absurd is
unwanted_then plan None (Some now) journals journal terms new after carried is unwanted none = absurd carried
unwanted_then plan (Some begun) now journals journal terms new after carried is unwanted none = absurd (some_is_none begun none)

-- one more term, whose records wait after the others
pub stored_then : (plan : Settings) (begun now after : Option Carry) (journals : List (List Entry)) (journal : List Entry)
    (new : Option TimedRecords) (kept : Option Kept) (first earlier later : List TimedRecords) (kept_then : Option Kept) →
    IsCarried plan begun now journals → HasMadeIfWanted plan now journal new after →
    HaveStored plan begun journals kept first (earlier ++ later) kept_then
    → HaveStored plan begun (journals ++ journal ∷ []) kept first (earlier ++ waiting_with later new) kept_then
stored_then plan begun now after journals journal new kept first earlier later kept_then carried is stored =
    let P : List TimedRecords → Type 0 = λ all. ArePassedOn kept all (earlier ++ waiting_with later new) kept_then in
    record {
      made = with_made stored.made new;
      records = records_then plan begun now journals journal stored.made new after carried is stored.records;
      unwanted = unwanted_then plan begun now journals journal stored.made new after carried is stored.unwanted;
      passed =
          subst P (made_after first stored.made new) (passed_then kept kept_then (first ++ stored.made) earlier later new stored.passed);
    }

-- records go on
abbrev pub stored_on : (plan : Settings) (begun : Option Carry) (journals : List (List Entry)) (kept : Option Kept)
    (first waiting left : List TimedRecords) (between after : Option Kept) → HaveStored plan begun journals kept first waiting between →
    GoOn waiting between left after
    → HaveStored plan begun journals kept first left after
stored_on plan begun journals kept first waiting left between after stored goes =
    record {
      made = stored.made;
      records = stored.records;
      unwanted = stored.unwanted;
      passed = goes kept (first ++ stored.made) stored.passed;
    }
