-- A past, and the engine that follows from it: the connections, and the open line.
use Rattle.std.proofs.Common.{◌≡◌, ◌<◌, ◌≤◌, ℕ, replicate, List, [], ◌∷◌, ◌++◌, Bool, true, false, cond, Option, Some, None, length, get_or}
use Rattle.std.proofs.Common.{set, drop, refl, sym, ap, ◌∙◌, arith, ⊎_elim, subst, get_or-set_same, get_or-set_other, length-set}
use Rattle.std.specs.Prelude.{◌==◌, option_map}
use Rattle.std.specs.List.{All, flat_map}
use Rattle.std.proofs.lemmas.Grind.{flat_map-append}
use Rattle.std.proofs.lemmas.List.{drop_at}
use Rattle.std.proofs.lemmas.List.Elements.{All-head, All-tail}
use Rattle.std.proofs.lemmas.Bool.{cases_eq, eq-eqb, ne_eqb}
use Rattle.std.proofs.lemmas.Bool.Decides.{nat_tests}
use Rattle.dmr_plan.specs.declared.settings.Settings.{Settings}
use Rattle.dmr_plan.specs.declared.carriers.CarrierRow.{CarrierRow}
use Rattle.dmr_plan.specs.Carriers.{row_with}
use Rattle.dmr_plan.specs.IsPlan.{IsPlan}
use Rattle.dmr_plan.specs.Kept.{IsCarrierRow}
use Rattle.dmr_console.specs.Steps.{line_steps_from, open_line_after}
use Rattle.dmr_console.proofs.ConsoleLaws.{line_steps-append, open_line-append, lines_whole, rest_whole}
use Rattle.dmr_link.specs.Console.{line_means, meaning_of_text, said_from}
use Rattle.dmr_link.specs.declared.connection.CarrierIdentity.{CarrierIdentity}
use Rattle.dmr_console.specs.declared.line_cutter.LineStep.{LineStep}
use Rattle.dmr_frames.specs.declared.version.Version.{Version}
use Rattle.dmr_link.specs.Notices.{Notice}
use Rattle.dmr_link.specs.declared.connection.Connection.{Connection}
use Rattle.dmr_link.specs.declared.connection.Connection.TheVariants.{Closed}
use Rattle.dmr_link.specs.Input.{Piece, Input, At, Saying, Ticking}
use Rattle.dmr_link.specs.Identities.{greatest_of, who_of}
use Rattle.dmr_link.specs.Numbering.{next_after_frames}
use Rattle.dmr_link.specs.Inputs.{piece_produces, piece_leaves, produced_by, connections_by, frames_by, numbers_by, leaves_by}
use Rattle.dmr_link.specs.Inputs.{input_produces, input_leaves, all_produced, all_leave}
use Rattle.dmr_link.specs.Records.{Record, records_after, meaning_of_records, left_by_records, recorded_by, added_by, Past, no_past}
use Rattle.dmr_link.specs.Records.{input_past, input_means, all_past, all_mean, HasPast}
use Rattle.dmr_link.specs.State.{State, connection_of, next_of, IsEngine}
use Rattle.dmr_link.proofs.RecordLemmas.{adds, leaves}
use Rattle.dmr_pdu.proofs.ListLaws.{replicated}

-- ---- the plan's carriers

-- the carrier's number and channel are in their ranges
pub record IsSmall (c : ℕ) (who : CarrierIdentity) : Type 0 where
  pub number : c < 16
  pub carrier : who.carrier ≡ c
  pub lpcn : who.lpcn < 65536

row_small : (rows : List CarrierRow) (c : ℕ) (row : CarrierRow) → All IsCarrierRow rows → row_with rows c ≡ Some row → (c < 16) ×
    (row.lpcn < 65536)
row_small [] c row each e = cc
row_small (r ∷ rows) c row each e = either (r.number == c) refl e (row_small rows c row (All-tail IsCarrierRow r rows each))
  where
    either : (b : Bool) → (r.number == c) ≡ b → cond b (Some r) (row_with rows c) ≡ Some row →
        (row_with rows c ≡ Some row → (c < 16) × (row.lpcn < 65536)) → (c < 16) × (row.lpcn < 65536)
    either true test found more =
        let same : r.number ≡ c = grind (arith, nat_tests) in
        let row_is : r ≡ row = cc in
        let is : IsCarrierRow r = All-head IsCarrierRow r rows each in
        let number : r.number ≤ 15 = is.number.1 in
        let lpcn : r.lpcn ≤ 4094 = is.lpcn.1 in
        let lpcn_is : r.lpcn ≡ row.lpcn = ap (λ (x : CarrierRow). x.lpcn) row_is in
        (omega arith, omega arith)
    either false test found more = more found

who_cases : (c : ℕ) (greatest : Version) (who : CarrierIdentity) (o : Option CarrierRow) →
    option_map (λ (row : CarrierRow). record { carrier = c; lpcn = row.lpcn; greatest = greatest }) o ≡ Some who →
    (row : CarrierRow) × (o ≡ Some row) × (who.carrier ≡ c) × (who.lpcn ≡ row.lpcn) × (who.greatest ≡ greatest)
who_cases c greatest who None e = cc
who_cases c greatest who (Some row) e =
    let same : record { carrier = c; lpcn = row.lpcn; greatest = greatest } ≡ who = cc in (
      row,
      refl,
      sym (ap (λ (w : CarrierIdentity). w.carrier) same),
      sym (ap (λ (w : CarrierIdentity). w.lpcn) same),
      sym (ap (λ (w : CarrierIdentity). w.greatest) same),
    )

pub who_carrier : (plan : Settings) (c : ℕ) (who : CarrierIdentity) → who_of plan c ≡ Some who → who.carrier ≡ c
who_carrier plan c who e = (who_cases c (greatest_of plan) who (row_with plan.lists.carriers c) e).2

pub who_greatest : (plan : Settings) (c : ℕ) (who : CarrierIdentity) → who_of plan c ≡ Some who → who.greatest ≡ greatest_of plan
who_greatest plan c who e = (who_cases c (greatest_of plan) who (row_with plan.lists.carriers c) e).4

pub who_small : (plan : Settings) (c : ℕ) (who : CarrierIdentity) → IsPlan plan → who_of plan c ≡ Some who → IsSmall c who
who_small plan c who is e =
    let found = who_cases c (greatest_of plan) who (row_with plan.lists.carriers c) e in
    let small : (c < 16) × (found.0.lpcn < 65536) = row_small plan.lists.carriers c found.0 is.lists.carriers.each found.1 in
    let lpcn_is : who.lpcn ≡ found.0.lpcn = found.3 in
    let small_lpcn : found.0.lpcn < 65536 = small.1 in
    record { number = small.0; carrier = found.2; lpcn = omega arith }

-- ---- the facts of an engine that the lemmas need

pub record Fits (s : State) : Type 0 where
  pub plan : IsPlan s.plan
  pub sixteen : length s.connections ≡ 16
  pub numbers : length s.numbers ≡ 16

pub fits : (s : State) → IsEngine s → Fits s
fits s is = record { plan = is.site.plan; sixteen = is.connections.sixteen; numbers = is.numbers }

sixteen_by : (s : State) (o : Option CarrierIdentity) (piece : Piece) → length s.connections ≡ 16 → length (connections_by s o piece) ≡ 16
sixteen_by s None piece h = h
sixteen_by s (Some who) piece h = length-set s.connections who.carrier (piece_leaves who (connection_of s who.carrier) piece) ∙ h

numbers_sixteen : (s : State) (o : Option CarrierIdentity) (piece : Piece) → length s.numbers ≡ 16 → length (numbers_by s o piece) ≡ 16
numbers_sixteen s None piece h = h
numbers_sixteen s (Some who) piece h =
    length-set s.numbers who.carrier (next_after_frames (next_of s who.carrier) (frames_by s (Some who) piece)) ∙ h

pub fits_after : (s : State) (i : Input) → Fits s → Fits (input_leaves s i)
fits_after s (At c piece) h = record {
  plan = h.plan;
  sixteen = sixteen_by s (who_of s.plan c) piece h.sixteen;
  numbers = numbers_sixteen s (who_of s.plan c) piece h.numbers;
}
fits_after s (Saying octets) h = record { plan = h.plan; sixteen = h.sixteen; numbers = h.numbers }
fits_after s Ticking h = record { plan = h.plan; sixteen = h.sixteen; numbers = h.numbers }

-- ---- one input

-- the connections of the plan's carriers are those after these records
abbrev AreLeft : State → (ℕ → List Record) → Type 0
AreLeft s rs = (c : ℕ) (who : CarrierIdentity) → who_of s.plan c ≡ Some who → connection_of s c ≡ left_by_records who (rs c)

-- a piece adds to the meaning of a carrier's records exactly the notices that it produces
adds_here : (s : State) (rs : ℕ → List Record) (c : ℕ) (o : Option CarrierIdentity) (piece : Piece) → who_of s.plan c ≡ o → Fits s →
    AreLeft s rs → produced_by s o piece ≡ added_by rs o piece
adds_here s rs c None piece e fit h = refl
adds_here s rs c (Some who) piece e fit h =
    let small = who_small s.plan c who fit.plan e in
    let same : connection_of s who.carrier ≡ left_by_records who (rs who.carrier) =
    ap (connection_of s) small.carrier ∙ h c who e ∙ ap (λ (n : ℕ). left_by_records who (rs n)) (sym small.carrier) in
    let before : List Notice = meaning_of_records who (rs who.carrier) in
    ap (λ (k : Connection). piece_produces who k piece) same
    ∙ sym (ap (drop (length before)) (adds who (rs who.carrier) piece) ∙ drop_at before
    (piece_produces who (left_by_records who (rs who.carrier)) piece) (length before) refl)

some_is : (v w : CarrierIdentity) → Some v ≡ Some w → v ≡ w
some_is v w e = cc

has_past_here : (s : State) (rs : ℕ → List Record) (c : ℕ) (o : Option CarrierIdentity) (piece : Piece) → who_of s.plan c ≡ o → Fits s →
    AreLeft s rs → AreLeft (leaves_by s o piece) (recorded_by rs o piece)
has_past_here s rs c None piece e fit h = h
has_past_here s rs c (Some who) piece e fit h = λ d v f.
    let small = who_small s.plan c who fit.plan e in
    let new : Connection = piece_leaves who (connection_of s who.carrier) piece in
    ⊎_elim
    (λ (at : d ≡ who.carrier).
    let lookup : who_of s.plan d ≡ Some who = ap (who_of s.plan) (at ∙ small.carrier) ∙ e in
    let same : who ≡ v = some_is who v (sym lookup ∙ f) in
    let here : d < length s.connections = omega (arith, fit.sixteen, small.number, small.carrier) in
    let read : get_or (set s.connections who.carrier new) d Closed ≡ new =
    ap (λ (n : ℕ). get_or (set s.connections n new) d Closed) (sym at) ∙ get_or-set_same s.connections d new Closed here in
    let was : connection_of s who.carrier ≡ left_by_records who (rs d) = ap (connection_of s) (sym at) ∙ h d who lookup in
    read ∙ ap (λ (k : Connection). piece_leaves who k piece) was ∙ sym (leaves who (rs d) piece)
    ∙ ap (λ (w : CarrierIdentity). left_by_records w (records_after (rs d) piece)) same
    ∙ ap (λ (b : Bool). left_by_records v (cond b (records_after (rs d) piece) (rs d))) (sym (eq-eqb d who.carrier at)))
    (λ (other : d ≡ who.carrier → ⊥).
    get_or-set_other s.connections who.carrier d new Closed other ∙ h d v f
    ∙ ap (λ (b : Bool). left_by_records v (cond b (records_after (rs d) piece) (rs d))) (sym (ne_eqb d who.carrier other)))
    (cases_eq d who.carrier)

-- an operator's octets add to their meaning exactly the notices that they produce
pub said_from-append : (begun a b : List ℕ) → said_from begun (a ++ b) ≡ said_from begun a ++ said_from (open_line_after begun a) b
said_from-append begun a b =
    ap (λ (lines : List LineStep). flat_map line_means lines) (line_steps-append begun a b)
    ∙ flat_map-append line_means (line_steps_from begun a) (line_steps_from (open_line_after begun a) b)

said_more : (past : Past) (begun octets : List ℕ) → begun ≡ open_line_after [] past.console →
    meaning_of_text (past.console ++ octets) ≡ meaning_of_text past.console ++ said_from begun octets
said_more past begun octets is =
    let whole : (xs : List ℕ) → said_from [] xs ≡ meaning_of_text xs = λ xs. ap (λ (lines : List LineStep). flat_map line_means lines)
    (lines_whole xs) in
    sym (whole (past.console ++ octets)) ∙ said_from-append [] past.console octets
    ∙ (λ i. whole past.console i ++ said_from (sym is i) octets)

said_adds : (past : Past) (begun octets : List ℕ) → begun ≡ open_line_after [] past.console →
    said_from begun octets ≡ drop (length (meaning_of_text past.console)) (meaning_of_text (past.console ++ octets))
said_adds past begun octets is =
    let before : List Notice = meaning_of_text past.console in
    sym (ap (drop (length before)) (said_more past begun octets is) ∙ drop_at before (said_from begun octets) (length before) refl)

input_adds : (s : State) (past : Past) (i : Input) → Fits s → HasPast s past → input_produces s i ≡ input_means s.plan past i
input_adds s past (At c piece) fit h = adds_here s past.carriers c (who_of s.plan c) piece refl fit h.connections
input_adds s past (Saying octets) fit h = said_adds past s.console octets (h.console ∙ sym (rest_whole past.console))
input_adds s past Ticking fit h = refl

input_has_past : (s : State) (past : Past) (i : Input) → Fits s → HasPast s past → HasPast (input_leaves s i) (input_past s.plan past i)
input_has_past s past (At c piece) fit h = record
    { connections = has_past_here s past.carriers c (who_of s.plan c) piece refl fit h.connections; console = h.console }
input_has_past s past (Saying octets) fit h = record {
  connections = h.connections;
  console = ap (λ (begun : List ℕ). open_line_after begun octets) (h.console ∙ sym (rest_whole past.console))
      ∙ sym (open_line-append [] past.console octets) ∙ rest_whole (past.console ++ octets);
}
input_has_past s past Ticking fit h = record { connections = h.connections; console = h.console }

pub plan_stays : (s : State) (i : Input) → (input_leaves s i).plan ≡ s.plan
plan_stays s (At c piece) = refl
plan_stays s (Saying octets) = refl
plan_stays s Ticking = refl

-- ---- all inputs

pub plan_stays_all : (s : State) (is : List Input) → (all_leave s is).plan ≡ s.plan
plan_stays_all s [] = refl
plan_stays_all s (i ∷ is) = plan_stays_all (input_leaves s i) is ∙ plan_stays s i

pub all_produced-means : (s : State) (past : Past) (is : List Input) → Fits s → HasPast s past → all_produced s is ≡ all_mean s.plan past is
all_produced-means s past [] fit h = refl
all_produced-means s past (i ∷ is) fit h =
    ap (λ (ns : List Notice). ns ++ all_produced (input_leaves s i) is) (input_adds s past i fit h)
    ∙ ap (λ (ns : List Notice). input_means s.plan past i ++ ns)
    (all_produced-means (input_leaves s i) (input_past s.plan past i) is (fits_after s i fit) (input_has_past s past i fit h)
    ∙ ap (λ (plan : Settings). all_mean plan (input_past s.plan past i) is) (plan_stays s i))

pub all_have_past : (s : State) (past : Past) (is : List Input) → Fits s → HasPast s past →
    HasPast (all_leave s is) (all_past s.plan past is)
all_have_past s past [] fit h = h
all_have_past s past (i ∷ is) fit h =
    let P : Settings → Type 0 = λ plan. HasPast (all_leave (input_leaves s i) is) (all_past plan (input_past s.plan past i) is) in
    subst P (plan_stays s i) (all_have_past (input_leaves s i) (input_past s.plan past i) is (fits_after s i fit)
    (input_has_past s past i fit h))

-- ---- the past without inputs

pub none_has_past : (s : State) → s.connections ≡ replicate 16 Closed → s.console ≡ [] → HasPast s no_past
none_has_past s e f = record {
  connections = λ c who g. ap (λ (ks : List Connection). get_or ks c Closed) e ∙ replicated {X = Connection} 16 c Closed;
  console = f;
}
