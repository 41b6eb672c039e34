-- The record of a port and the log of its sockets, answer by answer: each connection's octets agree.
use Rattle.std.proofs.Common.{◌≡◌, ◌≢◌, ℕ, zero, suc, Bool, true, false, not, ◌||◌, List, [], ◌∷◌, ◌++◌, Option, Some, None, take, refl}
use Rattle.std.proofs.Common.{sym, ap, subst, ◌∙◌, inl, inr, append_assoc}
use Rattle.std.specs.Prelude.{nat_eq, option_map}
use Rattle.std.specs.List.{list_any, starts_with}
use Rattle.std.proofs.lemmas.List.{append-nil}
use Rattle.std.proofs.lemmas.Bool.{false≢true, and_from, and_parts}
use Rattle.dmr_wire.specs.declared.wire.Got.{Got}
use Rattle.dmr_wire.specs.declared.wire.Got.TheVariants as got
use Rattle.dmr_wire.specs.declared.wire.Put.{Put}
use Rattle.dmr_wire.specs.declared.wire.Put.TheVariants as put
use Rattle.dmr_wire.specs.declared.port.Waited.{Waited}
use Rattle.dmr_wire.specs.declared.port.Waited.TheVariants as wait
use Rattle.dmr_wire.specs.Answers.{Answer, Opened, Came, InputEnded, ReadInterrupted, ReadBlocked, ReadFailed, Reports, of_read, of_wait}
use Rattle.dmr_wire.specs.Answers.{of_write}
use Rattle.dmr_port.specs.declared.served.Served.{Served}
use Rattle.dmr_port.specs.FirstOctets.{begins_http, http_methods}
use Rattle.dmr_port.specs.PortState.{HasBegun, connection_of, first_if_served}
use Rattle.dmr_port.specs.Record.{Traffic, with_octets, traffic_then, traffic_after, traffic_of, first_after, Carries, WereGiven, AreAlike}
use Rattle.dmr_port.specs.Record.{Agrees}
use Rattle.dmr_port.specs.Sockets.{taken_by}
use Rattle.dmr_port.specs.Unsent.{PassesOctets, ReadsAfterSending}
use Rattle.dmr_wire.proofs.ReportLaws.{reports_none, reports_more}

-- no octets
pub with_none : (traffic : List Traffic) → with_octets [] [] traffic ≡ traffic
with_none [] = refl
with_none (t ∷ ts) = (λ i. record { came = append-nil t.came i; taken = append-nil t.taken i } ∷ ts)

-- octets, and then more
with_more : (came taken came' taken' : List ℕ) (traffic : List Traffic) →
    with_octets came' taken' (with_octets came taken traffic) ≡ with_octets (came ++ came') (taken ++ taken') traffic
with_more came taken came' taken' [] = refl
with_more came taken came' taken' (t ∷ ts) =
    (λ i. record { came = append_assoc t.came came came' i; taken = append_assoc t.taken taken taken' i } ∷ ts)

-- answers, and then more
after-append : (traffic : List Traffic) (xs ys : List Answer) → traffic_after traffic (xs ++ ys) ≡ traffic_after
    (traffic_after traffic xs) ys
after-append traffic [] ys = refl
after-append traffic (x ∷ xs) ys = after-append (traffic_then traffic x) xs ys

-- the sockets were not asked
pub carries_nothing : (log : Option (List Answer)) → Carries log [] [] log
carries_nothing log = record { answers = []; log = reports_none log; carried = λ traffic. sym (with_none traffic) }

-- octets, and then more
pub carries_on : (a b c : Option (List Answer)) (came taken came' taken' : List ℕ) → Carries a came taken b → Carries b came' taken' c →
    Carries a (came ++ came') (taken ++ taken') c
carries_on a b c came taken came' taken' first second = record {
  answers = first.answers ++ second.answers;
  log = reports_more a b c first.answers second.answers first.log second.log;
  carried = λ traffic.
      after-append traffic first.answers second.answers
      ∙ ap (λ (t : List Traffic). traffic_after t second.answers) (first.carried traffic)
      ∙ second.carried (with_octets came taken traffic)
      ∙ with_more came taken came' taken' traffic;
}

-- octets that were sent, and then octets that came
carries_then_came : (a b c : Option (List Answer)) (taken came : List ℕ) → Carries a [] taken b → Carries b came [] c →
    Carries a came taken c
carries_then_came a b c taken came first second =
    let P : List ℕ → Type 0 = λ octets. Carries a came octets c in
    subst P (append-nil taken) (carries_on a b c [] taken came [] first second)

-- a write of the sockets
written : (put : Put) (octets : List ℕ) (traffic : List Traffic) → traffic_then traffic (of_write put octets) ≡ with_octets []
    (taken_by put octets) traffic
written (put.Octets n) octets traffic = refl
written put.Interrupted octets traffic = refl
written put.Block octets traffic = refl
written put.Fault octets traffic = refl

pub carries_write : (before after : Option (List Answer)) (put : Put) (octets : List ℕ) → Reports before (of_write put octets ∷ []) after →
    Carries before [] (taken_by put octets) after
carries_write before after put octets log = record { answers = of_write put octets ∷ []; log = log; carried = written put octets }

-- the first n octets of two parts, of which the first may be cut
take_twice : (n : ℕ) (xs ys : List ℕ) → take n (take n xs ++ ys) ≡ take n (xs ++ ys)
take_twice zero xs ys = refl
take_twice (suc n) [] ys = refl
take_twice (suc n) (x ∷ xs) ys = ap (λ (octets : List ℕ). x ∷ octets) (take_twice n xs ys)

-- those of the first part, and some more
take_front : (n : ℕ) (xs ys : List ℕ) → (rest : List ℕ) × (take n (xs ++ ys) ≡ take n xs ++ rest)
take_front zero xs ys = ([], refl)
take_front (suc n) [] ys = (take (suc n) ys, refl)
take_front (suc n) (x ∷ xs) ys =
    let more = take_front n xs ys in (more.0, ap (λ (octets : List ℕ). x ∷ octets) more.1)

-- one or the other, and each goes on
or_more : (a b c d : Bool) → (a ≡ true → c ≡ true) → (b ≡ true → d ≡ true) → (a || b) ≡ true → (c || d) ≡ true
or_more true b true d one other holds = refl
or_more true b false d one other holds = absurd (false≢true (one refl))
or_more false true true d one other holds = refl
or_more false true false true one other holds = refl
or_more false true false false one other holds = absurd (false≢true (other refl))
or_more false false c d one other holds = absurd (false≢true holds)

-- what begins so still does after more octets
starts_more : (needle xs ys : List ℕ) → starts_with nat_eq xs needle ≡ true → starts_with nat_eq (xs ++ ys) needle ≡ true
starts_more [] xs ys starts = refl
starts_more (n ∷ needle) [] ys starts = absurd (false≢true starts)
starts_more (n ∷ needle) (x ∷ xs) ys starts =
    let parts = and_parts (nat_eq n x) _ starts in and_from (nat_eq n x) _ parts.0 (starts_more needle xs ys parts.1)

any_more : (one other : List ℕ → Bool) → ((m : List ℕ) → one m ≡ true → other m ≡ true) → (ms : List (List ℕ)) → list_any one ms ≡ true →
    list_any other ms ≡ true
any_more one other more [] holds = holds
any_more one other more (m ∷ ms) holds =
    or_more (one m) (list_any one ms) (other m) (list_any other ms) (more m) (any_more one other more ms) holds

-- a request of HTTP is still one after more octets
http_more : (came octets : List ℕ) → begins_http (take 8 came) ≡ true → begins_http (take 8 (came ++ octets)) ≡ true
http_more came octets begins =
    let more = take_front 8 came octets in
    let P : List ℕ → Type 0 = λ xs. begins_http xs ≡ true in
    let at = take 8 came in
    subst P (sym more.1)
    (any_more (λ m. starts_with nat_eq at m) (λ m. starts_with nat_eq (at ++ more.0) m) (λ m. starts_more m at more.0) http_methods begins)

refused : (is_carrier http : Bool) → is_carrier ≡ false → http ≡ true → (is_carrier || not http) ≡ true → ⊥
refused true http off begins admitted = false≢true (sym off)
refused false true off begins admitted = false≢true admitted
refused false false off begins admitted = false≢true begins

-- octets that came are given
given_more : (is_carrier : Bool) (came given octets : List ℕ) → WereGiven is_carrier came given →
    (is_carrier || not (begins_http (take 8 (came ++ octets)))) ≡ true
    → WereGiven is_carrier (came ++ octets) (given ++ octets)
given_more is_carrier came given octets before admitted = with_held before.withheld before.whole before.http
  where
    with_held : (withheld : List ℕ) → came ≡ given ++ withheld → (withheld ≢ [] → (is_carrier ≡ false) × (begins_http (take 8 came) ≡ true))
        → WereGiven is_carrier (came ++ octets) (given ++ octets)
    with_held [] whole http =
        let same : came ≡ given = whole ∙ append-nil given in
        let P : List ℕ → Type 0 = λ xs. (is_carrier || not (begins_http (take 8 (xs ++ octets)))) ≡ true in
        record {
          withheld = [];
          whole = ap (λ (xs : List ℕ). xs ++ octets) same ∙ sym (append-nil (given ++ octets));
          http = λ some. absurd (some refl);
          admitted = subst P same admitted;
        }
    with_held (x ∷ xs) whole http =
        let some : x ∷ xs ≢ [] = λ e. cc in
        let why = http some in
        absurd (refused is_carrier (begins_http (take 8 (came ++ octets))) why.0 (http_more came octets why.1) admitted)

-- octets that came are withheld
withheld_more : (is_carrier : Bool) (came given octets : List ℕ) → WereGiven is_carrier came given → is_carrier ≡ false →
    begins_http (take 8 (came ++ octets)) ≡ true
    → WereGiven is_carrier (came ++ octets) (given ++ [])
withheld_more is_carrier came given octets before off begins =
    let P : List ℕ → Type 0 = λ xs. WereGiven is_carrier (came ++ octets) xs in
    subst P (sym (append-nil given)) (record {
      withheld = before.withheld ++ octets;
      whole = ap (λ (xs : List ℕ). xs ++ octets) before.whole ∙ append_assoc given before.withheld octets;
      http = λ some. (off, begins);
      admitted = before.admitted;
    })

-- no octet came
none_more : (is_carrier : Bool) (came given : List ℕ) → WereGiven is_carrier came given → WereGiven is_carrier (came ++ []) (given ++ [])
none_more is_carrier came given before =
    let P : List ℕ → List ℕ → Type 0 = λ xs ys. WereGiven is_carrier xs ys in
    let Q : List ℕ → Type 0 = λ xs. P xs (given ++ []) in
    subst Q (sym (append-nil came)) (subst (P came) (sym (append-nil given)) before)

-- what the link is given of what comes, at any connection with these first octets
abbrev pub Gives : Bool → List ℕ → List ℕ → List ℕ → List ℕ → Type 0
Gives is_carrier first first' came given =
    (from into : List ℕ) → WereGiven is_carrier from into → first ≡ take 8 from
    → WereGiven is_carrier (from ++ came) (into ++ given) × (first' ≡ take 8 (from ++ came))

gives_nothing : (is_carrier : Bool) (first first' : List ℕ) → first' ≡ first → Gives is_carrier first first' [] []
gives_nothing is_carrier first first' same = λ from into before begins.
    (none_more is_carrier from into before, same ∙ begins ∙ ap (take 8) (sym (append-nil from)))

begins_more : (first from octets : List ℕ) → first ≡ take 8 from → take 8 (first ++ octets) ≡ take 8 (from ++ octets)
begins_more first from octets begins =
    ap (λ (xs : List ℕ). take 8 (xs ++ octets)) begins ∙ take_twice 8 from octets

gives_octets : (is_carrier : Bool) (first first' octets : List ℕ) → first' ≡ take 8 (first ++ octets) →
    (is_carrier || not (begins_http (take 8 (first ++ octets)))) ≡ true
    → Gives is_carrier first first' octets octets
gives_octets is_carrier first first' octets is admitted = λ from into before begins.
    let more = begins_more first from octets begins in
    let P : List ℕ → Type 0 = λ xs. (is_carrier || not (begins_http xs)) ≡ true in
    (given_more is_carrier from into octets before (subst P more admitted), is ∙ more)

withholds_octets : (is_carrier : Bool) (first first' octets : List ℕ) → first' ≡ take 8 (first ++ octets) → is_carrier ≡ false →
    begins_http (take 8 (first ++ octets)) ≡ true
    → Gives is_carrier first first' octets []
withholds_octets is_carrier first first' octets is off http = λ from into before begins.
    let more = begins_more first from octets begins in
    let P : List ℕ → Type 0 = λ xs. begins_http xs ≡ true in
    (withheld_more is_carrier from into octets before off (subst P more http), is ∙ more)

-- the connection that is served, after more octets
alike_on : (is_carrier : Bool) (first first' unsent unsent' came sent given taken : List ℕ) (sockets port : List Traffic) →
    Gives is_carrier first first' came given
    → unsent ++ taken ≡ sent ++ unsent' → AreAlike is_carrier (Some first) unsent sockets port
    → AreAlike is_carrier (Some first') unsent' (with_octets came sent sockets) (with_octets given taken port)
alike_on is_carrier first first' unsent unsent' came sent given taken [] port gives split told = absurd told
alike_on is_carrier first first' unsent unsent' came sent given taken (s ∷ sockets) [] gives split told = absurd told
alike_on is_carrier first first' unsent unsent' came sent given taken (s ∷ sockets) (p ∷ port) gives split told =
    let after = gives s.came p.came told.0.given told.0.begins in (
      record {
        given = after.0;
        begins = after.1;
        taken =
            ap (λ (xs : List ℕ). xs ++ taken) told.0.taken
            ∙ append_assoc s.taken unsent taken
            ∙ ap (λ (xs : List ℕ). s.taken ++ xs) split
            ∙ sym (append_assoc s.taken sent unsent');
      },
      told.1,
    )

-- the connection ends, and what is kept is dropped
alike_ended : (is_carrier : Bool) (first unsent : List ℕ) (sockets port : List Traffic) →
    AreAlike is_carrier (Some first) unsent sockets port → AreAlike is_carrier None [] sockets port
alike_ended is_carrier first unsent [] port told = absurd told
alike_ended is_carrier first unsent (s ∷ sockets) [] told = absurd told
alike_ended is_carrier first unsent (s ∷ sockets) (p ∷ port) told =
    (record { dropped = unsent; given = told.0.given; taken = told.0.taken }, told.1)

-- some answers of the sockets, and some of the port
agrees_on : (is_carrier : Bool) (first first' : Option (List ℕ)) (unsent unsent' : List ℕ)
    (log log' reported reported' : Option (List Answer)) (answers told : List Answer)
    → Reports log answers log' → Reports reported told reported'
    → ((sockets port : List Traffic) → AreAlike is_carrier first unsent sockets port →
    AreAlike is_carrier first' unsent' (traffic_after sockets answers) (traffic_after port told))
    → Agrees is_carrier first unsent log reported → Agrees is_carrier first' unsent' log' reported'
agrees_on is_carrier first first' unsent unsent' log log' reported reported' answers told logged reports step agrees = record {
  agrees = λ whole all is also.
      let before = logged.follows whole is in
      let earlier = reports.follows all also in
      let old = agrees.agrees before.0 earlier.0 before.1 earlier.1 in
      let new = step (traffic_of before.0) (traffic_of earlier.0) old in
      let sockets : traffic_after (traffic_of before.0) answers ≡ traffic_of whole =
      sym (ap traffic_of before.2 ∙ after-append [] before.0 answers) in
      let port : traffic_after (traffic_of earlier.0) told ≡ traffic_of all =
      sym (ap traffic_of earlier.2 ∙ after-append [] earlier.0 told) in
      let P : List Traffic → List Traffic → Type 0 = λ s p. AreAlike is_carrier first' unsent' s p in
      let Q : List Traffic → Type 0 = λ s. P s (traffic_of all) in
      subst Q sockets (subst (P (traffic_after (traffic_of before.0) answers)) port new);
}

-- a call after which octets were carried, and one answer of the port
agrees_carried : (is_carrier : Bool) (first first' unsent unsent' came sent given taken : List ℕ)
    (log log' reported reported' : Option (List Answer)) (answer : Answer)
    → Gives is_carrier first first' came given → unsent ++ taken ≡ sent ++ unsent' → Carries log came sent log' →
    Reports reported (answer ∷ []) reported'
    → ((traffic : List Traffic) → traffic_then traffic answer ≡ with_octets given taken traffic)
    → Agrees is_carrier (Some first) unsent log reported → Agrees is_carrier (Some first') unsent' log' reported'
agrees_carried is_carrier first first' unsent unsent' came sent given taken log log' reported reported' answer gives split carries reports
    is =
    agrees_on is_carrier (Some first) (Some first') unsent unsent' log log' reported reported' carries.answers
    (answer ∷ []) carries.log reports
    (λ sockets port told.
    let P : List Traffic → List Traffic → Type 0 = λ s p. AreAlike is_carrier (Some first') unsent' s p in
    let Q : List Traffic → Type 0 = λ s. P s (traffic_then port answer) in
    subst Q (sym (carries.carried sockets))
    (subst (P (with_octets came sent sockets)) (sym (is port))
    (alike_on is_carrier first first' unsent unsent' came sent given taken sockets port gives split told)))

-- an answer without octets
pub agrees_quiet : (is_carrier : Bool) (first : Option (List ℕ)) (unsent : List ℕ) (log reported reported' : Option (List Answer))
    (answer : Answer)
    → ((traffic : List Traffic) → traffic_then traffic answer ≡ with_octets [] [] traffic) → Reports reported (answer ∷ []) reported'
    → Agrees is_carrier first unsent log reported → Agrees is_carrier first unsent log reported'
agrees_quiet is_carrier first unsent log reported reported' answer is reports =
    agrees_on is_carrier first first unsent unsent log log reported reported' [] (answer ∷ []) (reports_none log) reports
    (λ sockets port told.
    let P : List Traffic → Type 0 = λ p. AreAlike is_carrier first unsent sockets p in
    subst P (sym (is port ∙ with_none port)) told)

-- the end of a wait is an answer without octets
pub waited_quietly : (waited : Waited) (traffic : List Traffic) → traffic_then traffic (of_wait waited) ≡ with_octets [] [] traffic
waited_quietly wait.Again traffic = refl
waited_quietly wait.Silent traffic = refl

-- the first octets of the connection that is served
pub agrees_served : (is_carrier : Bool) (served : Option Served) (s : Served) (unsent : List ℕ) (log reported : Option (List Answer)) →
    served ≡ Some s
    → Agrees is_carrier (first_if_served (option_map connection_of served)) unsent log reported →
    Agrees is_carrier (Some s.first.octets.items) unsent log reported
agrees_served is_carrier served s unsent log reported is agrees =
    let P : Option Served → Type 0 = λ (o : Option Served). Agrees is_carrier
    (first_if_served (option_map connection_of o)) unsent log reported in
    subst P is agrees

-- a write of the port
pub agrees_written : (is_carrier : Bool) (first unsent unsent' : List ℕ) (log log' reported reported' : Option (List Answer)) (put : Put)
    (octets : List ℕ)
    → PassesOctets log unsent (taken_by put octets) log' unsent' → Reports reported (of_write put octets ∷ []) reported'
    → Agrees is_carrier (Some first) unsent log reported → Agrees is_carrier (Some first) unsent' log' reported'
agrees_written is_carrier first unsent unsent' log log' reported reported' put octets passes reports =
    agrees_carried is_carrier first first unsent unsent' [] passes.sent [] (taken_by put octets) log log' reported reported'
    (of_write put octets)
    (gives_nothing is_carrier first first refl) passes.split passes.carries reports (written put octets)

-- a read of the port, of which this came, and this was given
agrees_came : (is_carrier : Bool) (first first' unsent unsent' came given : List ℕ)
    (log between log' reported reported' : Option (List Answer)) (answer : Answer)
    → PassesOctets log unsent [] between unsent' → Carries between came [] log' → Gives is_carrier first first' came given
    → ((traffic : List Traffic) → traffic_then traffic answer ≡ with_octets given [] traffic) → Reports reported (answer ∷ []) reported'
    → Agrees is_carrier (Some first) unsent log reported → Agrees is_carrier (Some first') unsent' log' reported'
agrees_came is_carrier first first' unsent unsent' came given log between log' reported reported' answer passes carries gives is reports =
    agrees_carried is_carrier first first' unsent unsent' came passes.sent given [] log log' reported reported' answer gives passes.split
    (carries_then_came log between log' passes.sent came passes.carries carries) reports is

-- the answers to a read, of which no octet came
carries_quietly : (before after : Option (List Answer)) (answers : List Answer) →
    ((traffic : List Traffic) → traffic_after traffic answers ≡ with_octets [] [] traffic)
    → Reports before answers after → Carries before [] [] after
carries_quietly before after answers is log = record { answers = answers; log = log; carried = is }

module _ (is_carrier : Bool) (first first' unsent unsent' octets : List ℕ) (log log' reported reported' : Option (List Answer)) where
  -- a read without octets, for which the sockets gave this answer
  agrees_read_answer : (result : Got) (answer : Answer) →
      ((traffic : List Traffic) → traffic_then traffic answer ≡ with_octets [] [] traffic) → first_after first (answer ∷ []) ≡ first
      → ((traffic : List Traffic) → traffic_then traffic (of_read result octets) ≡ with_octets [] [] traffic)
      → (r : ReadsAfterSending is_carrier first log unsent result octets first' log' unsent') → r.reads.answers ≡ answer ∷ [] →
      Reports reported (of_read result octets ∷ []) reported'
      → Agrees is_carrier (Some first) unsent log reported → Agrees is_carrier (Some first') unsent' log' reported'
  agrees_read_answer result answer quiet same is r was =
      let P : List Answer → Type 0 = λ answers. Reports r.between answers log' in
      agrees_came is_carrier first first' unsent unsent' [] [] log r.between log' reported reported' (of_read result octets) r.passes
      (carries_quietly r.between log' (answer ∷ []) quiet (subst P was r.reads.log))
      (gives_nothing is_carrier first first' (r.reads.begins ∙ ap (first_after first) was ∙ same)) is

  -- a read for which the sockets were not asked
  agrees_read_none : (result : Got) → ((traffic : List Traffic) → traffic_then traffic (of_read result octets) ≡ with_octets [] [] traffic)
      → (r : ReadsAfterSending is_carrier first log unsent result octets first' log' unsent') → r.reads.answers ≡ [] →
      Reports reported (of_read result octets ∷ []) reported'
      → Agrees is_carrier (Some first) unsent log reported → Agrees is_carrier (Some first') unsent' log' reported'
  agrees_read_none result is r was =
      let P : List Answer → Type 0 = λ answers. Reports r.between answers log' in
      agrees_came is_carrier first first' unsent unsent' [] [] log r.between log' reported reported' (of_read result octets) r.passes
      (carries_quietly r.between log' [] (λ traffic. sym (with_none traffic)) (subst P was r.reads.log))
      (gives_nothing is_carrier first first' (r.reads.begins ∙ ap (first_after first) was)) is

  -- a read for which octets came
  agrees_read_came : (result : Got) (came given : List ℕ) →
      (r : ReadsAfterSending is_carrier first log unsent result octets first' log' unsent') → r.reads.answers ≡ Came came ∷ []
      → Gives is_carrier first (take 8 (first ++ came)) came given →
      ((traffic : List Traffic) → traffic_then traffic (of_read result octets) ≡ with_octets given [] traffic)
      → Reports reported (of_read result octets ∷ []) reported' → Agrees is_carrier (Some first) unsent log reported →
      Agrees is_carrier (Some first') unsent' log' reported'
  agrees_read_came result came given r was gives is =
      let P : List Answer → Type 0 = λ answers. Reports r.between answers log' in
      let Q : List ℕ → Type 0 = λ begins. Gives is_carrier first begins came given in
      agrees_came is_carrier first first' unsent unsent' came given log r.between log' reported reported' (of_read result octets) r.passes
      (record { answers = Came came ∷ []; log = subst P was r.reads.log; carried = λ traffic. refl })
      (subst Q (sym (r.reads.begins ∙ ap (first_after first) was)) gives) is

  -- a read of the port
  pub agrees_read : (result : Got) → ReadsAfterSending is_carrier first log unsent result octets first' log' unsent' →
      Reports reported (of_read result octets ∷ []) reported'
      → Agrees is_carrier (Some first) unsent log reported → Agrees is_carrier (Some first') unsent' log' reported'
  agrees_read (got.Octets n) r =
      agrees_read_came (got.Octets n) (take n octets) (take n octets) r r.reads.from.0
      (gives_octets is_carrier first (take 8 (first ++ take n octets)) (take n octets) refl r.reads.from.1) (λ traffic. refl)
  agrees_read got.End r =
      elim r.reads.from [
        | inl ended ↦ agrees_read_answer got.End InputEnded (λ traffic. refl) refl (λ traffic. refl) r ended
        | inr http ↦
            agrees_read_came got.End http.0 [] r http.1
            (withholds_octets is_carrier first (take 8 (first ++ http.0)) http.0 refl http.2 http.3) (λ traffic. refl)
      ]
  agrees_read got.Interrupted r = agrees_read_answer got.Interrupted ReadInterrupted (λ traffic. refl) refl (λ traffic. refl) r r.reads.from
  agrees_read got.Block r =
      elim r.reads.from [
        | inl none ↦ agrees_read_none got.Block (λ traffic. refl) r none
        | inr blocked ↦ agrees_read_answer got.Block ReadBlocked (λ traffic. refl) refl (λ traffic. refl) r blocked
      ]
  agrees_read got.Fault r =
      elim r.reads.from [
        | inl none ↦ agrees_read_none got.Fault (λ traffic. refl) r none
        | inr failed ↦ agrees_read_answer got.Fault ReadFailed (λ traffic. refl) refl (λ traffic. refl) r failed
      ]

-- the port closes its connection, after it sent what the connection took
pub agrees_closed : (is_carrier : Bool) (first unsent unsent' : List ℕ) (log log' reported : Option (List Answer)) →
    PassesOctets log unsent [] log' unsent'
    → Agrees is_carrier (Some first) unsent log reported → Agrees is_carrier None [] log' reported
agrees_closed is_carrier first unsent unsent' log log' reported passes =
    agrees_on is_carrier (Some first) None unsent [] log log' reported reported passes.carries.answers [] passes.carries.log
    (reports_none reported)
    (λ sockets port told.
    let P : List Traffic → List Traffic → Type 0 = λ s p. AreAlike is_carrier (Some first) unsent' s p in
    let Q : List Traffic → Type 0 = λ s. P s port in
    alike_ended is_carrier first unsent' (traffic_after sockets passes.carries.answers) port
    (subst Q (sym (passes.carries.carried sockets))
    (subst (P (with_octets [] passes.sent sockets)) (with_none port)
    (alike_on is_carrier first first unsent unsent' [] passes.sent [] [] sockets port
    (gives_nothing is_carrier first first refl) passes.split told))))

pub agrees_let_go : (is_carrier : Bool) (served served' : Option Served) (s : Served) (unsent unsent' none : List ℕ)
    (log log' log'' reported : Option (List Answer))
    → served ≡ Some s → served' ≡ None → none ≡ [] → log'' ≡ log' → PassesOctets log unsent [] log' unsent'
    → Agrees is_carrier (first_if_served (option_map connection_of served)) unsent log reported →
    Agrees is_carrier (first_if_served (option_map connection_of served')) none log'' reported
agrees_let_go is_carrier served served' s unsent unsent' none log log' log'' reported is gone cleared same passes agrees =
    let P : Option Served → Type 0 = λ (o : Option Served). Agrees is_carrier
    (first_if_served (option_map connection_of o)) none log'' reported in
    let Q : List ℕ → Type 0 = λ xs. Agrees is_carrier None xs log'' reported in
    let R : Option (List Answer) → Type 0 = λ l. Agrees is_carrier None [] l reported in
    subst P (sym gone) (subst Q (sym cleared) (subst R (sym same)
    (agrees_closed is_carrier s.first.octets.items unsent unsent' log log' reported passes
    (agrees_served is_carrier served s unsent log reported is agrees))))

-- a connection begins
pub agrees_opened : (is_carrier : Bool) (unsent : List ℕ) (log log' reported reported' : Option (List Answer)) →
    Reports log (Opened ∷ []) log' → Reports reported (Opened ∷ []) reported'
    → Agrees is_carrier None unsent log reported → Agrees is_carrier (Some []) [] log' reported'
agrees_opened is_carrier unsent log log' reported reported' logged reports =
    agrees_on is_carrier None (Some []) unsent [] log log' reported reported' (Opened ∷ []) (Opened ∷ []) logged reports
    (λ sockets port told. (record { given = given_none is_carrier; begins = refl; taken = refl }, told))
  where
    given_none : (is_carrier : Bool) → WereGiven is_carrier [] []
    given_none true = record { withheld = []; whole = refl; http = λ some. absurd (some refl); admitted = refl }
    given_none false = record { withheld = []; whole = refl; http = λ some. absurd (some refl); admitted = refl }

pub has_begun : (log log' : Option (List Answer)) → Reports log (Opened ∷ []) log' → HasBegun log'
has_begun log log' logged = record {
  begun = λ answers is.
      let before = logged.follows answers is in
      (traffic_of before.0, ap traffic_of before.2 ∙ after-append [] before.0 (Opened ∷ []));
}

-- the witness keeps nothing
pub agrees_nothing : (is_carrier : Bool) (first : Option (List ℕ)) (unsent : List ℕ) (log : Option (List Answer)) →
    Agrees is_carrier first unsent log None
agrees_nothing is_carrier first unsent log = record { agrees = λ answers told is also. absurd (cc) }
