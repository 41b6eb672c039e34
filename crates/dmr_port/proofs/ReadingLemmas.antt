-- A read, step by step: the connection before it and after it.
use Rattle.std.proofs.Common.{◌≡◌, ◌≤◌, ◌⊎◌, ℕ, Bool, true, false, not, ◌||◌, List, [], ◌∷◌, ◌++◌, length, take, Option, Some, arith, ap}
use Rattle.std.proofs.Common.{subst, ◌∙◌, sym, refl, inl, inr}
use Rattle.std.proofs.lemmas.List.{take-append-le}
use Rattle.std.proofs.lemmas.Bool.{or_parts, not-false}
use Rattle.dmr_wire.specs.declared.wire.Got.{Got}
use Rattle.dmr_wire.specs.declared.wire.Got.TheVariants as got
use Rattle.dmr_wire.specs.Answers.{Answer, Came, InputEnded, GotWithin, Reports, of_read}
use Rattle.dmr_port.specs.declared.cause.CloseCause.{CloseCause}
use Rattle.dmr_port.specs.declared.cause.CloseCause.TheVariants.{EndOfInput, Http}
use Rattle.dmr_port.specs.declared.patience.Patience.{Patience}
use Rattle.dmr_port.specs.declared.served.Served.{Served}
use Rattle.dmr_port.specs.Budget.{Gives, Window}
use Rattle.dmr_port.specs.FirstOctets.{begins_http}
use Rattle.dmr_port.specs.Patience.{patience_after_octets}
use Rattle.dmr_port.specs.PortState.{Connection, HasReadFrom, HasReadNothing, HasReadOctets, connection_of}
use Rattle.dmr_port.specs.Record.{Reads, IsReadFrom}
use Rattle.dmr_port.specs.Served.{HearsOctets, after_read}
use Rattle.dmr_port.specs.Unsent.{PassesOctets, ReadsAfterSending}
use Rattle.dmr_port.proofs.UnsentLemmas.{passes_nothing}
use Rattle.dmr_wire.proofs.ReportLaws.{reports_none}

-- nothing happened
pub read_nothing : (c : Connection) → HasReadNothing c c
read_nothing c = record { first = refl; unread = c.patience.unread; patience = refl; ended = refl }

-- kept octets were sent
pub read_after_sending : (s : Served) → HasReadNothing (connection_of s)
    (connection_of (record s { patience = record s.patience { unread = 0 }; may_read = true }))
read_after_sending s = record { first = refl; unread = 0; patience = refl; ended = refl }

-- the system had no octet
pub read_blocked : (s : Served) (may_read : Bool) → HasReadNothing (connection_of s) (connection_of (record s { may_read = may_read }))
read_blocked s may_read = record { first = refl; unread = s.patience.unread; patience = refl; ended = refl }

-- octets came that the link may have
pub read_octets : (octets : List ℕ) (is_carrier : Bool) (old mid new : Served) (n asked : ℕ) → mid ≡ after_read (got.Octets n) asked old
    → new.first.octets.items ≡ take 8 (mid.first.octets.items ++ octets) → true ≡ (is_carrier || not (begins_http new.first.octets.items))
    → HearsOctets octets is_carrier mid new → HasReadOctets is_carrier (connection_of old) octets (connection_of new)
read_octets octets is_carrier old mid new n asked is first given hears = record {
  first = first ∙ ap (λ (s : Served). take 8 (s.first.octets.items ++ octets)) is;
  unread = old.patience.unread;
  has_hello = hears.has_hello;
  hello = hears.hello;
  patience = ap (λ (s : Served). s.patience) hears.heard ∙ ap
      (λ (s : Served). patience_after_octets octets hears.has_hello (not is_carrier) s.patience) is;
  admitted = sym given;
  ended = ap (λ (s : Served). s.ended) hears.heard ∙ ap (λ (s : Served). s.ended) is;
}

-- octets came that complete a request of HTTP
pub read_http : (is_carrier http result : Bool) (ended : Option CloseCause) → result ≡ false → result ≡ (is_carrier || not http) →
    ended ≡ Some Http
    → (ended ≡ Some EndOfInput) ⊎ ((is_carrier ≡ false) × (http ≡ true) × (ended ≡ Some Http))
read_http is_carrier http result ended off given is =
    let parts = or_parts is_carrier (not http) (sym given ∙ off) in inr (parts.0, not-false http parts.1, is)

-- a read after kept octets were sent is one from the connection before that
pub read_later : (is_carrier : Bool) (first second third : Connection) (result : Got) (octets : List ℕ) → HasReadNothing first second
    → HasReadFrom is_carrier second result octets third → HasReadFrom is_carrier first result octets third
read_later is_carrier first second third (got.Octets n) octets before reads = record {
  first = reads.first ∙ ap (λ xs. take 8 (xs ++ take n octets)) before.first;
  unread = reads.unread;
  has_hello = reads.has_hello;
  hello = reads.hello;
  patience = reads.patience ∙ ap (λ (p : Patience). patience_after_octets (take n octets) reads.has_hello (not is_carrier)
      (record p { unread = reads.unread })) before.patience;
  admitted = reads.admitted;
  ended = reads.ended ∙ before.ended;
}
read_later is_carrier first second third got.End octets before reads = reads
read_later is_carrier first second third got.Fault octets before reads = reads
read_later is_carrier first second third got.Interrupted octets before reads = record {
  first = reads.first ∙ before.first;
  unread = reads.unread;
  patience = reads.patience ∙ ap (λ (p : Patience). record p { unread = reads.unread }) before.patience;
  ended = reads.ended ∙ before.ended;
}
read_later is_carrier first second third got.Block octets before reads = record {
  first = reads.first ∙ before.first;
  unread = reads.unread;
  patience = reads.patience ∙ ap (λ (p : Patience). record p { unread = reads.unread }) before.patience;
  ended = reads.ended ∙ before.ended;
}

-- a read of the first part of a slice is one of the slice
pub asked_part : (result : Got) (piece rest octets : List ℕ) (log log' : Option (List Answer)) → GotWithin result (length piece) →
    octets ≡ piece ++ rest
    → Reports log (of_read result piece ∷ []) log' → Reports log (of_read result octets ∷ []) log'
asked_part (got.Octets n) piece rest octets log log' within is logged =
    let P : List ℕ → Type 0 = λ xs. Reports log (Came xs ∷ []) log' in
    subst P (sym (ap (take n) is ∙ take-append-le n piece rest within.1)) logged
asked_part got.End piece rest octets log log' within is logged = logged
asked_part got.Interrupted piece rest octets log log' within is logged = logged
asked_part got.Block piece rest octets log log' within is logged = logged
asked_part got.Fault piece rest octets log log' within is logged = logged

-- the sockets were not asked
pub reads_unasked : (is_carrier : Bool) (first octets : List ℕ) (log log' : Option (List Answer)) → log' ≡ log →
    Reads is_carrier first log got.Block octets first log'
reads_unasked is_carrier first octets log log' same = record {
  answers = [];
  log = let P : Option (List Answer) → Type 0 = λ l. Reports log [] l in subst P (sym same) (reports_none log);
  from = inl refl;
  begins = refl;
}

-- the sockets gave an answer without octets, which is returned
pub reads_answer : (is_carrier : Bool) (first first' octets : List ℕ) (log mid log' : Option (List Answer)) (result : Got) →
    ((n : ℕ) → result ≡ got.Octets n → ⊥) → mid ≡ log → first' ≡ first
    → Reports mid (of_read result octets ∷ []) log' → Reads is_carrier first log result octets first' log'
reads_answer is_carrier first first' octets log mid log' (got.Octets n) other same begins logged = absurd (other n refl)
reads_answer is_carrier first first' octets log mid log' got.End other same begins logged =
    let P : Option (List Answer) → Type 0 = λ l. Reports l (InputEnded ∷ []) log' in
    record { answers = InputEnded ∷ []; log = subst P same logged; from = inl refl; begins = begins }
reads_answer is_carrier first first' octets log mid log' got.Interrupted other same begins logged =
    let P : Option (List Answer) → Type 0 = λ l. Reports l (of_read got.Interrupted octets ∷ []) log' in
    record { answers = of_read got.Interrupted octets ∷ []; log = subst P same logged; from = refl; begins = begins }
reads_answer is_carrier first first' octets log mid log' got.Block other same begins logged =
    let P : Option (List Answer) → Type 0 = λ l. Reports l (of_read got.Block octets ∷ []) log' in
    record { answers = of_read got.Block octets ∷ []; log = subst P same logged; from = inr refl; begins = begins }
reads_answer is_carrier first first' octets log mid log' got.Fault other same begins logged =
    let P : Option (List Answer) → Type 0 = λ l. Reports l (of_read got.Fault octets ∷ []) log' in
    record { answers = of_read got.Fault octets ∷ []; log = subst P same logged; from = inr refl; begins = begins }

-- an answer to a read leaves the first octets as they are, until those that came are noted
pub first_kept : (result : Got) (asked : ℕ) (old mid : Served) → mid ≡ after_read result asked old →
    mid.first.octets.items ≡ old.first.octets.items
first_kept (got.Octets n) asked old mid is = ap (λ (s : Served). s.first.octets.items) is
first_kept got.End asked old mid is = ap (λ (s : Served). s.first.octets.items) is
first_kept got.Interrupted asked old mid is = ap (λ (s : Served). s.first.octets.items) is
first_kept got.Block asked old mid is = ap (λ (s : Served). s.first.octets.items) is
first_kept got.Fault asked old mid is = ap (λ (s : Served). s.first.octets.items) is

-- octets came, and are returned
pub reads_octets : (is_carrier : Bool) (first first' octets : List ℕ) (n : ℕ) (log mid log' : Option (List Answer)) → mid ≡ log →
    Reports mid (of_read (got.Octets n) octets ∷ []) log'
    → first' ≡ take 8 (first ++ take n octets) → (is_carrier || not (begins_http first')) ≡ true →
    Reads is_carrier first log (got.Octets n) octets first' log'
reads_octets is_carrier first first' octets n log mid log' same logged begins admitted =
    let P : Option (List Answer) → Type 0 = λ l. Reports l (Came (take n octets) ∷ []) log' in
    let Q : List ℕ → Type 0 = λ xs. (is_carrier || not (begins_http xs)) ≡ true in
    record { answers = Came (take n octets) ∷ []; log = subst P same logged; from = (refl, subst Q begins admitted); begins = begins }

-- octets came that complete a request of HTTP
pub reads_http : (is_carrier : Bool) (first first' octets : List ℕ) (n : ℕ) (log mid log' : Option (List Answer)) → mid ≡ log →
    Reports mid (of_read (got.Octets n) octets ∷ []) log'
    → first' ≡ take 8 (first ++ take n octets) → is_carrier ≡ false → begins_http first' ≡ true →
    Reads is_carrier first log got.End octets first' log'
reads_http is_carrier first first' octets n log mid log' same logged begins off http =
    let P : Option (List Answer) → Type 0 = λ l. Reports l (Came (take n octets) ∷ []) log' in
    let Q : List ℕ → Type 0 = λ xs. begins_http xs ≡ true in
    record {
      answers = Came (take n octets) ∷ [];
      log = subst P same logged;
      from = inr (take n octets, refl, off, subst Q begins http);
      begins = begins;
    }

-- kept octets were sent, and then the connection was read
pub reads_then : (is_carrier : Bool) (first second third octets : List ℕ) (result : Got) (log between log' : Option (List Answer))
    (waiting waiting' : List ℕ) → PassesOctets log waiting [] between waiting'
    → second ≡ first → Reads is_carrier second between result octets third log' →
    ReadsAfterSending is_carrier first log waiting result octets third log' waiting'
reads_then is_carrier first second third octets result log between log' waiting waiting' passes same reads =
    let P : List ℕ → Type 0 = λ xs. Reads is_carrier xs between result octets third log' in
    record { between = between; passes = passes; reads = subst P same reads }

-- some were not sent, or could not be
pub reads_nothing : (is_carrier : Bool) (first second octets : List ℕ) (result : Got) (log log' : Option (List Answer))
    (waiting waiting' : List ℕ) → PassesOctets log waiting [] log' waiting'
    → second ≡ first → IsReadFrom is_carrier first result octets [] → ReadsAfterSending is_carrier first log waiting result octets second
    log' waiting'
reads_nothing is_carrier first second octets result log log' waiting waiting' passes same from = record {
  between = log';
  passes = passes;
  reads = record { answers = []; log = reports_none log'; from = from; begins = same };
}

-- there is no connection
pub reads_unserved : (is_carrier : Bool) (first octets : List ℕ) (log : Option (List Answer)) (waiting : List ℕ) →
    ReadsAfterSending is_carrier first log waiting got.Fault octets first log waiting
reads_unserved is_carrier first octets log waiting =
    reads_nothing is_carrier first first octets got.Fault log log waiting waiting (passes_nothing log waiting) refl (inl refl)

-- octets are given later than kept ones are sent
pub gives_later : (before mid after count : ℕ) (old new : Window) → before ≤ mid → Gives mid old count new after →
    Gives before old count new after
gives_later before mid after count old new early gives = record {
  given = elim gives.given [
    | inl same ↦ inl same
    | inr fresh ↦ inr (fresh.0, omega (arith, early, fresh.1), fresh.2, fresh.3)
  ];
  within = gives.within;
}
