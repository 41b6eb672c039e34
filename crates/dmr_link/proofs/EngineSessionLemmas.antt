-- The states that an engine keeps are the connections and numbers that its contracts see.
use Rattle.std.proofs.Common.{◌≡◌, ◌<◌, ◌+◌, ℕ, zero, suc, List, [], ◌∷◌, ◌++◌, Option, Some, None, length, map, get_or, set, replicate}
use Rattle.std.proofs.Common.{refl, sym, ap, ◌∙◌, arith, ⊎_elim, subst, get_or-set_same, get_or-set_other, length-set}
use Rattle.std.specs.Prelude.{Result, Ok, Err, OnOk}
use Rattle.std.proofs.lemmas.Bool.{cases_eq}
use Rattle.std.proofs.lemmas.List.{map-set, length-map, length_push, map-append, replicate_more, get_or_append_left, get_or_push}
use Rattle.std.proofs.lemmas.List.{get_or_read}
use Rattle.dmr_plan.specs.declared.settings.Settings.{Settings}
use Rattle.dmr_core.specs.Facts.{Facts}
use Rattle.dmr_link.specs.declared.carrier_state.CarrierState.{CarrierState}
use Rattle.dmr_link.specs.declared.connection.CarrierIdentity.{CarrierIdentity}
use Rattle.dmr_link.specs.declared.connection.Connection.{Connection}
use Rattle.dmr_link.specs.declared.connection.Connection.TheVariants.{Closed, Waiting, Running}
use Rattle.dmr_link.specs.Meaning.{notices_at_end}
use Rattle.dmr_core.specs.State.{SiteState as Site}
use Rattle.dmr_link.specs.Answering.{facts_from, site_after_notices}
use Rattle.dmr_link.specs.EngineSessions.{carrier_in, connection_in, next_in, AreCarrierStates, IsStateSound}
use Rattle.dmr_link.specs.Identities.{greatest_of, who_of}
use Rattle.dmr_link.specs.Numbering.{frames_text, next_after_frames}
use Rattle.dmr_link.specs.Input.{Piece}
use Rattle.dmr_link.specs.Notices.{Notice}
use Rattle.dmr_link.specs.Inputs.{piece_produces, piece_leaves, leaves_by, texts_by}
use Rattle.dmr_link.specs.Session.{frames_said}
use Rattle.dmr_link.specs.Sound.{IsConnectionSound, IsNumberingOf}
use Rattle.dmr_link.specs.State.{State, connection_of, next_of, AreConnections}
use Rattle.dmr_frames.specs.declared.version.Version.{Version}
use Rattle.dmr_link.proofs.PastsOfEngines.{who_carrier, who_greatest}
use Rattle.dmr_pdu.proofs.ListLaws.{replicated}

pub read_connection : (sessions : List (Option CarrierState)) (c : ℕ) →
    get_or (map connection_in sessions) c Closed ≡ connection_in (get_or sessions c None)
read_connection [] zero = refl
read_connection [] (suc c) = refl
read_connection (x ∷ sessions) zero = refl
read_connection (x ∷ sessions) (suc c) = read_connection sessions c

pub read_next : (sessions : List (Option CarrierState)) (c : ℕ) → get_or (map next_in sessions) c None ≡ next_in (get_or sessions c None)
read_next [] zero = refl
read_next [] (suc c) = refl
read_next (x ∷ sessions) zero = refl
read_next (x ∷ sessions) (suc c) = read_next sessions c

pub sessions_connect : (plan : Settings) (sessions : List (Option CarrierState)) → AreCarrierStates plan sessions →
    AreConnections (greatest_of plan) (map connection_in sessions)
sessions_connect plan sessions are = record {
  sixteen = length-map sessions connection_in ∙ are.sixteen;
  sound = λ c. let P : Connection → Type 0 =
      IsConnectionSound (greatest_of plan) in subst P (sym (read_connection sessions c)) (are.sound c);
}

pub sessions_number : (plan : Settings) (sessions : List (Option CarrierState)) → AreCarrierStates plan sessions →
    (c : ℕ) → IsNumberingOf (get_or (map connection_in sessions) c Closed) (get_or (map next_in sessions) c None)
sessions_number plan sessions are c = rw (read_connection sessions c, read_next sessions c) (are.numbered c)

-- ---- new states

-- the states of the carriers below a number
pub record AreBegun (plan : Settings) (sessions : List (Option CarrierState)) (n : ℕ) : Type 0 where
  pub many : length sessions ≡ n
  pub own : (c : ℕ) → c < n → carrier_in (get_or sessions c None) ≡ who_of plan c
  pub none : map connection_in sessions ≡ replicate n Closed
  pub uncounted : map next_in sessions ≡ replicate n None

pub begun_none : (plan : Settings) → AreBegun plan [] 0
begun_none plan = record { many = refl; own = λ c few. absurd (omega arith); none = refl; uncounted = refl }

pub begun_more : (plan : Settings) (sessions : List (Option CarrierState)) (n : ℕ) (session : Option CarrierState) →
    AreBegun plan sessions n →
    carrier_in session ≡ who_of plan n → connection_in session ≡ Closed → next_in session ≡ None →
    AreBegun plan (sessions ++ session ∷ []) (n + 1)
begun_more plan sessions n session are own none uncounted = record {
  many = length_push sessions session ∙ ap (λ (m : ℕ). m + 1) are.many;
  own = λ c few.
      ⊎_elim
      (λ (here : c ≡ n). ap carrier_in (get_or_push sessions session None c (are.many ∙ sym here)) ∙ own ∙ ap (who_of plan) (sym here))
      (λ (other : c ≡ n → ⊥). ap carrier_in (get_or_append_left sessions (session ∷ []) None c (before c few other))
      ∙ are.own c (smaller c few other))
      (cases_eq c n);
  none =
      map-append connection_in sessions (session ∷ [])
      ∙ (λ i. are.none i ++ none i ∷ [])
      ∙ replicate_more n Closed;
  uncounted =
      map-append next_in sessions (session ∷ [])
      ∙ (λ i. are.uncounted i ++ uncounted i ∷ [])
      ∙ replicate_more n None;
}
  where
    smaller : (c : ℕ) → c < n + 1 → (c ≡ n → ⊥) → c < n
    smaller c few other = omega (arith, other)

    before : (c : ℕ) → c < n + 1 → (c ≡ n → ⊥) → c < length sessions
    before c few other = let h : c < n = smaller c few other in omega (arith, h, are.many)

pub begun_all : (plan : Settings) (sessions : List (Option CarrierState)) → AreBegun plan sessions 16 → AreCarrierStates plan sessions
begun_all plan sessions are = record {
  sixteen = are.many;
  own = are.own;
  sound = λ c.
      let P : Connection → Type 0 = IsConnectionSound (greatest_of plan) in
      subst P (sym (closed c)) tt;
  numbered = λ c.
      let P : Connection → Type 0 = λ k. IsNumberingOf k (next_in (get_or sessions c None)) in
      subst P (sym (closed c)) tt;
}
  where
    closed : (c : ℕ) → connection_in (get_or sessions c None) ≡ Closed
    closed c = sym (read_connection sessions c) ∙ ap (λ (ks : List Connection). get_or ks c Closed) are.none
        ∙ replicated {X = Connection} 16 c Closed

-- ---- one of the states changes

pub sessions_set : (plan : Settings) (sessions : List (Option CarrierState)) (c : ℕ) (old new : CarrierState) → c < 16 →
    AreCarrierStates plan sessions →
    get_or sessions c None ≡ Some old → new.who ≡ old.who → IsStateSound new → AreCarrierStates plan (set sessions c (Some new))
sessions_set plan sessions c old new small are at same sound = record {
  sixteen = length-set sessions c (Some new) ∙ are.sixteen;
  own = λ d few.
      ⊎_elim
      (λ (here : d ≡ c). ap carrier_in (read_here d here) ∙ ap Some same ∙ ap carrier_in (sym at) ∙ are.own c small
      ∙ ap (who_of plan) (sym here))
      (λ (other : d ≡ c → ⊥). ap carrier_in (get_or-set_other sessions c d (Some new) None other) ∙ are.own d few)
      (cases_eq d c);
  sound = λ d.
      let P : Connection → Type 0 = IsConnectionSound (greatest_of plan) in
      let Q : Version → Type 0 = λ greatest. IsConnectionSound greatest new.connection in
      ⊎_elim
      (λ (here : d ≡ c). subst P (sym (ap connection_in (read_here d here)))
      (subst Q (ap (λ (w : CarrierIdentity). w.greatest) same ∙ its_greatest) sound.0))
      (λ (other : d ≡ c → ⊥). subst P (sym (ap connection_in (get_or-set_other sessions c d (Some new) None other))) (are.sound d))
      (cases_eq d c);
  numbered = λ d.
      let P : Option CarrierState → Type 0 = λ o. IsNumberingOf (connection_in o) (next_in o) in
      ⊎_elim
      (λ (here : d ≡ c). subst P (sym (read_here d here)) sound.1)
      (λ (other : d ≡ c → ⊥). subst P (sym (get_or-set_other sessions c d (Some new) None other)) (are.numbered d))
      (cases_eq d c);
}
  where
    its_greatest : old.who.greatest ≡ greatest_of plan
    its_greatest = who_greatest plan c old.who (sym (are.own c small) ∙ ap carrier_in at)

    read_here : (d : ℕ) → d ≡ c → get_or (set sessions c (Some new)) d None ≡ Some new
    read_here d here = ap (λ (n : ℕ). get_or (set sessions c (Some new)) n None) here
        ∙ get_or-set_same sessions c (Some new) None (omega (arith, are.sixteen))

-- ---- the engine and the outputs after an input of a carrier

-- the engine with these states
abbrev pub engine_with : Settings → Facts → List (Option CarrierState) → List ℕ → State
engine_with plan facts sessions console = record
    { plan = plan; facts = facts; connections = map connection_in sessions; numbers = map next_in sessions; console = console }

module _ (plan : Settings) (facts : Facts) (sessions : List (Option CarrierState)) (console : List ℕ) (c : ℕ) (small : c < 16)
    (are : AreCarrierStates plan sessions) (piece : Piece) where
  -- if the plan does not have the carrier
  module _ (at : get_or sessions c None ≡ None) where
    no_carrier : None ≡ who_of plan c
    no_carrier = ap carrier_in (sym at) ∙ are.own c small

    pub none_leaves : engine_with plan facts sessions console ≡ leaves_by (engine_with plan facts sessions console) (who_of plan c) piece
    none_leaves = ap (λ (who : Option CarrierIdentity). leaves_by (engine_with plan facts sessions console) who piece) no_carrier

    pub none_texts : (texts : List (List ℕ)) → texts ≡ texts_by (engine_with plan facts sessions console) texts (who_of plan c) piece
    none_texts texts = ap (λ (who : Option CarrierIdentity). texts_by (engine_with plan facts sessions console) texts who piece) no_carrier

  -- if the plan has the carrier
  module _ (old : CarrierState) (at : get_or sessions c None ≡ Some old) where
    its_carrier : Some old.who ≡ who_of plan c
    its_carrier = ap carrier_in (sym at) ∙ are.own c small

    its_number : old.who.carrier ≡ c
    its_number = who_carrier plan c old.who (sym its_carrier)

    its_connection : connection_of (engine_with plan facts sessions console) old.who.carrier ≡ old.connection
    its_connection =
        ap (connection_of (engine_with plan facts sessions console)) its_number ∙ read_connection sessions c ∙ ap connection_in at

    its_next : next_of (engine_with plan facts sessions console) old.who.carrier ≡ old.numbering
    its_next = ap (next_of (engine_with plan facts sessions console)) its_number ∙ read_next sessions c ∙ ap next_in at

    -- the notices that the piece produces, and the frames that answer them
    abbrev produced_by : Connection → List Notice
    produced_by k = piece_produces old.who k piece

    pub some_leaves : (new : CarrierState) (later : Facts) → new.connection ≡ piece_leaves old.who old.connection piece →
        new.numbering ≡ next_after_frames old.numbering (frames_said plan facts (produced_by old.connection)) →
        later ≡ facts_from plan facts (produced_by old.connection) →
        engine_with plan later (set sessions c (Some new)) console ≡ leaves_by (engine_with plan facts sessions console)
        (who_of plan c) piece
    some_leaves new later left counted brought =
        (λ i. record {
          plan = plan;
          facts = (brought ∙ ap (λ (k : Connection). facts_from plan facts (produced_by k)) (sym its_connection)) i;
          connections = (map-set connection_in sessions c (Some new)
              ∙ (λ j. set (map connection_in sessions) (sym its_number j)
              ((left ∙ ap (λ (k : Connection). piece_leaves old.who k piece) (sym its_connection)) j))) i;
          numbers = (map-set next_in sessions c (Some new)
              ∙ (λ j. set (map next_in sessions) (sym its_number j)
              ((counted ∙ (λ m. next_after_frames (sym its_next m) (frames_said plan facts (produced_by (sym its_connection m))))) j)))
              i;
          console = console;
        })
        ∙ ap (λ (who : Option CarrierIdentity). leaves_by (engine_with plan facts sessions console) who piece) its_carrier

    pub some_texts : (texts : List (List ℕ)) (more : List ℕ) → more ≡ get_or texts c [] ++ frames_text old.numbering
        (frames_said plan facts (produced_by old.connection)) →
        set texts c more ≡ texts_by (engine_with plan facts sessions console) texts (who_of plan c) piece
    some_texts texts more put =
        (λ i. set texts (sym its_number i)
        ((put ∙ (λ j. get_or texts (sym its_number j) [] ++ frames_text (sym its_next j)
        (frames_said plan facts (produced_by (sym its_connection j))))) i))
        ∙ ap (λ (who : Option CarrierIdentity). texts_by (engine_with plan facts sessions console) texts who piece) its_carrier

-- ---- an input of a carrier of the plan, as the engine processes it

module _ (site later : Site) (sessions : List (Option CarrierState)) (console : List ℕ) (n c : ℕ) (small : n < 16) (same : n ≡ c)
    (are : AreCarrierStates site.plan sessions)
    (found : Option CarrierState) (read : found ≡ get_or sessions n found) (old : CarrierState) (is : found ≡ Some old) (piece : Piece)
    (brought : later ≡ site_after_notices site (piece_produces old.who old.connection piece)) where
  its_session : get_or sessions n None ≡ Some old
  its_session = sym (get_or_read sessions n found (omega (arith, are.sixteen)) read None) ∙ is

  pub session_leaves : (s : State) → engine_with site.plan site.facts sessions console ≡ s → (new : CarrierState) →
      new.connection ≡ piece_leaves old.who old.connection piece →
      new.numbering ≡ next_after_frames old.numbering (frames_said site.plan site.facts (piece_produces old.who old.connection piece)) →
      engine_with later.plan later.facts (set sessions n (Some new)) console ≡ leaves_by s (who_of s.plan c) piece
  session_leaves s view new left counted =
      (λ i. engine_with (brought i).plan (brought i).facts (set sessions n (Some new)) console)
      ∙ some_leaves site.plan site.facts sessions console n small are piece old its_session new
      (facts_from site.plan site.facts (piece_produces old.who old.connection piece)) left counted refl
      ∙ (λ i. leaves_by (view i) (who_of (view i).plan (same i)) piece)

  pub session_stays : (new : CarrierState) → new.who ≡ old.who → IsStateSound new → AreCarrierStates later.plan (set sessions n (Some new))
  session_stays new whose sound =
      let P : Settings → Type 0 = λ plan. AreCarrierStates plan (set sessions n (Some new)) in
      subst P (sym (ap (λ (x : Site). x.plan) brought)) (sessions_set site.plan sessions n old new small are its_session whose sound)

-- a new state of the same carrier, sound if the old one is
pub states_stay : (plan later : Settings) (sessions : List (Option CarrierState)) (n : ℕ) → n < 16 → AreCarrierStates plan sessions →
    (found : Option CarrierState) → found ≡ get_or sessions n found → (old : CarrierState) → found ≡ Some old →
    (new : CarrierState) → later ≡ plan → new.who ≡ old.who → (IsStateSound old → IsStateSound new) →
    AreCarrierStates later (set sessions n (Some new))
states_stay plan later sessions n small are found read old is new kept whose stays =
    let P : Settings → Type 0 = λ p. AreCarrierStates p (set sessions n (Some new)) in
    let Q : Version → Type 0 = λ greatest. IsConnectionSound greatest old.connection in
    let R : Connection → Type 0 = IsConnectionSound (greatest_of plan) in
    let N : Option CarrierState → Type 0 = λ o. IsNumberingOf (connection_in o) (next_in o) in
    subst P (sym kept) (sessions_set plan sessions n old new small are at whose
    (stays (subst Q (sym its_greatest) (subst R (ap connection_in at) (are.sound n)), subst N at (are.numbered n))))
  where
    at : get_or sessions n None ≡ Some old
    at = sym (get_or_read sessions n found (omega (arith, are.sixteen)) read None) ∙ is

    its_greatest : old.who.greatest ≡ greatest_of plan
    its_greatest = who_greatest plan n old.who (sym (are.own n small) ∙ ap carrier_in at)

-- no TX is sent for the end of a connection
pub ends_uncounted : (plan : Settings) (facts : Facts) (c : ℕ) (k : Connection) (next : Option ℕ) →
    next ≡ next_after_frames next (frames_said plan facts (notices_at_end c k))
ends_uncounted plan facts c Closed next = refl
ends_uncounted plan facts c (Waiting rest) next = refl
ends_uncounted plan facts c (Running rest newest) next = refl

-- ---- a conclusion from two facts of an answer

pub both_ok : {T E : Type 0} (r : Result T E) (P Q R : Type 0) → (P → Q → R) → OnOk r P → OnOk r Q → OnOk r R
both_ok (Ok x) P Q R then p q = then p q
both_ok (Err e) P Q R then p q = tt
