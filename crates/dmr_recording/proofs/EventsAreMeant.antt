-- The inputs of an event mean it, and leave the carriers that are up after it.
use Rattle.std.proofs.Common.{◌≡◌, ◌≢◌, ℕ, zero, suc, ◌<◌, Bool, true, false, if◌then◌else◌, List, [], ◌∷◌, ◌++◌, length, drop, Option}
use Rattle.std.proofs.Common.{Some, None, is_some, replicate, option_map, eqb, refl, sym, ap, subst, ◌∙◌, append_assoc, append-nil, arith}
use Rattle.std.proofs.Common.{eq-eqb, eqb-true, get_or-set_same, get_or-set_other, All}
use Rattle.std.specs.Prelude.{slice_set, flat_map}
use Rattle.std.specs.Option.{option_map_or}
use Rattle.std.proofs.lemmas.Bool.{eqb-false}
use Rattle.std.proofs.lemmas.Grind.{flat_map-append}
use Rattle.std.proofs.lemmas.List.{drop_at}
use Rattle.std.proofs.lemmas.List.Sums.{fold-append}
use Rattle.dmr_plan.specs.declared.settings.Settings.{Settings}
use Rattle.dmr_plan.specs.declared.carriers.CarrierRow.{CarrierRow}
use Rattle.dmr_plan.specs.Carriers.{row_with}
use Rattle.dmr_console.specs.declared.line_cutter.LineStep.{LineStep}
use Rattle.dmr_console.specs.Lines.{line_step_of, lines_in, open_in}
use Rattle.dmr_core.specs.declared.event.Event.TheVariants as event
use Rattle.dmr_frames.specs.declared.frame.FrameIn.{FrameIn}
use Rattle.dmr_frames.specs.declared.frame.FrameIn.TheVariants as frame
use Rattle.dmr_frames.specs.declared.version.Version.TheVariants.{V1}
use Rattle.dmr_frames.specs.Frames.{spelling}
use Rattle.dmr_link.specs.declared.connection.CarrierIdentity.{CarrierIdentity}
use Rattle.dmr_link.specs.declared.connection.Connection.{Connection}
use Rattle.dmr_link.specs.declared.connection.Connection.TheVariants.{Closed, Waiting, Running}
use Rattle.dmr_link.specs.CarrierStates.{up_by}
use Rattle.dmr_link.specs.Console.{line_means, meaning_of_text}
use Rattle.dmr_link.specs.Identities.{greatest_of, who_of}
use Rattle.dmr_link.specs.Input.{Input, Piece, At, Opening, Octets, Cutting, Saying, Ticking}
use Rattle.dmr_link.specs.Inputs.{piece_produces, piece_leaves}
use Rattle.dmr_link.specs.Meaning.{event_of, notices_at_end}
use Rattle.dmr_link.specs.Notices.{Notice, Accepted, Happened}
use Rattle.dmr_link.specs.Records.{Past, Record, added_by, all_mean, all_past, input_means, input_past, left_by_records, recorded_by}
use Rattle.dmr_link.specs.Records.{records_after}
use Rattle.dmr_link.specs.Steps.{connection_after_octets, new_connection, notices_of_octets}
use Rattle.dmr_recording.specs.Events.{hello_of, lpcn_of}
use Rattle.dmr_recording.specs.Recordable.{is_up}
use Rattle.dmr_recording.specs.Records.{IsConnectionOf, Matches, quiet_connection}
use Rattle.dmr_recording.proofs.FreeWords.{IsFree}
use Rattle.dmr_recording.proofs.ConnectionsAreMeant.{ConnectionLaws, IsQuiet, added, frame_leaves, frame_produces, hello_leaves}
use Rattle.dmr_recording.proofs.ConnectionsAreMeant.{hello_produces}

-- ---- a carrier of the plan

identity : (c : ℕ) (o : Option CarrierRow) (who : CarrierIdentity) (make : CarrierRow → CarrierIdentity) →
    ((row : CarrierRow) → (make row).carrier ≡ c) → ((row : CarrierRow) → (make row).lpcn ≡ row.lpcn) → option_map make o ≡ Some who
    → (who.carrier ≡ c) × (who.lpcn ≡ option_map_or (λ (row : CarrierRow). row.lpcn) o 0)
identity c None who make number channel e = absurd (cc)
identity c (Some row) who make number channel e =
    let same : make row ≡ who = cc in
    (sym (ap (λ (w : CarrierIdentity). w.carrier) same) ∙ number row, sym (ap (λ (w : CarrierIdentity). w.lpcn) same) ∙ channel row)

pub who_is : (plan : Settings) (c : ℕ) (who : CarrierIdentity) → who_of plan c ≡ Some who → (who.carrier ≡ c) × (who.lpcn ≡ lpcn_of plan c)
who_is plan c who is = identity c (row_with plan.lists.carriers c) who
    (λ (row : CarrierRow). record { carrier = c; lpcn = row.lpcn; greatest = greatest_of plan }) (λ row. refl) (λ row. refl) is

pub some_who : (o : Option CarrierIdentity) → is_some o ≡ true → (who : CarrierIdentity) × (o ≡ Some who)
some_who None e = absurd (cc)
some_who (Some who) e = (who, refl)

-- ---- an input for a carrier

-- the meaning of inputs, and of others after them
pub all_mean-append : (plan : Settings) (past : Past) (is js : List Input) →
    all_mean plan past (is ++ js) ≡ all_mean plan past is ++ all_mean plan (all_past plan past is) js
all_mean-append plan past [] js = refl
all_mean-append plan past (i ∷ is) js =
    ap (λ (ns : List Notice). input_means plan past i ++ ns) (all_mean-append plan (input_past plan past i) is js)
    ∙ sym (append_assoc (input_means plan past i) (all_mean plan (input_past plan past i) is)
    (all_mean plan (all_past plan (input_past plan past i) is) js))

module _ (laws : ConnectionLaws) (plan : Settings) (past : Past) (c : ℕ) (who : CarrierIdentity) (is : who_of plan c ≡ Some who)
    (piece : Piece) where
  abbrev now : Connection
  now = left_by_records who (past.carriers c)

  abbrev later : Past
  later = input_past plan past (At c piece)

  pub at_means : input_means plan past (At c piece) ≡ piece_produces who now piece
  at_means =
      ap (λ (o : Option CarrierIdentity). added_by past.carriers o piece) is
      ∙ added laws who (past.carriers who.carrier) piece
      ∙ ap (λ (n : ℕ). piece_produces who (left_by_records who (past.carriers n)) piece) (who_is plan c who is).0

  abbrev records_at : Option CarrierIdentity → ℕ → List Record
  records_at o d = recorded_by past.carriers o piece d

  pub at_leaves : left_by_records who (later.carriers c) ≡ piece_leaves who now piece
  at_leaves =
      ap (λ (o : Option CarrierIdentity). left_by_records who (records_at o c)) is
      ∙ ap (λ (b : Bool). left_by_records who (if b then records_after (past.carriers c) piece else past.carriers c))
      (eq-eqb c who.carrier (sym (who_is plan c who is).0))
      ∙ laws.leaves who (past.carriers c) piece

  pub at_others : (d : ℕ) → eqb d c ≡ false → later.carriers d ≡ past.carriers d
  at_others d apart =
      ap (λ (o : Option CarrierIdentity). records_at o d) is
      ∙ ap (λ (b : Bool). if b then records_after (past.carriers d) piece else past.carriers d)
      (ap (eqb d) (who_is plan c who is).0 ∙ apart)

-- ---- the carriers that are up after a change of one

-- of carriers, one is up or not, and the others are as before
pub record IsChange (up later : List Bool) (c : ℕ) (b : Bool) : Type 0 where
  pub here : is_up later c ≡ b
  pub others : (d : ℕ) → eqb d c ≡ false → is_up later d ≡ is_up up d

pub no_change : (up : List Bool) (c : ℕ) (b : Bool) → is_up up c ≡ b → IsChange up up c b
no_change up c b is = record { here = is; others = λ d apart. refl }

pub one_change : (up : List Bool) (c : ℕ) (b : Bool) → c < length up → IsChange up (slice_set up c b) c b
one_change up c b within = record {
  here = get_or-set_same up c b false within;
  others = λ d apart. get_or-set_other up c d b false (eqb-false d c apart);
}

pub matches_change : (plan : Settings) (up more : List Bool) (c : ℕ) (b : Bool) (past later : Past) → IsChange up more c b →
    ((who : CarrierIdentity) → who_of plan c ≡ Some who → IsConnectionOf who b (left_by_records who (later.carriers c)))
    → ((d : ℕ) → eqb d c ≡ false → later.carriers d ≡ past.carriers d) → later.console ≡ past.console → Matches plan up past →
    Matches plan more later
matches_change plan up more c b past later change here others console matches = record {
  carriers = λ d who is. by d who is (eqb d c) refl;
  console = ap open_in console ∙ matches.console;
}
  where
    by : (d : ℕ) (who : CarrierIdentity) → who_of plan d ≡ Some who → (t : Bool) → eqb d c ≡ t →
        IsConnectionOf who (is_up more d) (left_by_records who (later.carriers d))
    by d who is true same =
        let at : d ≡ c = eqb-true d c same in
        let its : IsConnectionOf who b (left_by_records who (later.carriers c)) =
        here who (subst (λ (n : ℕ). who_of plan n ≡ Some who) at is) in
        subst (λ (n : ℕ). IsConnectionOf who (is_up more n) (left_by_records who (later.carriers n))) (sym at)
        (subst (λ (t : Bool). IsConnectionOf who t (left_by_records who (later.carriers c))) (sym change.here) its)
    by d who is false apart =
        subst (λ (t : Bool). IsConnectionOf who t (left_by_records who (later.carriers d))) (sym (change.others d apart))
        (subst (λ (rs : List Record). IsConnectionOf who (is_up up d) (left_by_records who rs)) (sym (others d apart))
        (matches.carriers d who is))

-- ---- events of a carrier

-- the inputs mean these notices, and leave these carriers up
pub record AreMeant (plan : Settings) (up later : List Bool) (inputs : List Input) (notices : List Notice) : Type 0 where
  pub means : (past : Past) → Matches plan up past → all_mean plan past inputs ≡ notices
  pub leaves : (past : Past) → Matches plan up past → Matches plan later (all_past plan past inputs)

-- inputs after inputs
pub then_meant : (plan : Settings) (up more later : List Bool) (is js : List Input) (ns ms : List Notice) → AreMeant plan up more is ns →
    AreMeant plan more later js ms → AreMeant plan up later (is ++ js) (ns ++ ms)
then_meant plan up more later is js ns ms first second = record {
  means = λ past matches. all_mean-append plan past is js ∙
      (λ i. first.means past matches i ++ second.means (all_past plan past is) (first.leaves past matches) i);
  leaves = λ past matches. subst (Matches plan later) (sym (fold-append (input_past plan) past is js))
      (second.leaves (all_past plan past is) (first.leaves past matches));
}

not_running : (who : CarrierIdentity) (k : Connection) → up_by who k ≡ None → notices_at_end who.carrier k ≡ []
not_running who Closed e = refl
not_running who (Waiting rest) e = refl
not_running who (Running rest newest) e = absurd (cc)

module _ (laws : ConnectionLaws) (plan : Settings) (up : List Bool) (c : ℕ) (who : CarrierIdentity) (is : who_of plan c ≡ Some who)
    (small : c < 16) where
  few : who.carrier < 256
  few = omega (arith, (who_is plan c who is).0, small)

  same_who : (w : CarrierIdentity) → who_of plan c ≡ Some w → w ≡ who
  same_who w at = let e : Some w ≡ Some who = sym at ∙ is in cc

  -- an input for the carrier, by what it produces and leaves on its connection
  one_input : (later : List Bool) (b : Bool) (piece : Piece) (notices : List Notice) → IsChange up later c b
      → ((k : Connection) → IsConnectionOf who (is_up up c) k → piece_produces who k piece ≡ notices)
      → ((k : Connection) → IsConnectionOf who (is_up up c) k → IsConnectionOf who b (piece_leaves who k piece)) →
      AreMeant plan up later (At c piece ∷ []) notices
  one_input later b piece notices change produces leaves = record {
    means = λ past matches. append-nil (input_means plan past (At c piece)) ∙ at_means laws plan past c who is piece
        ∙ produces (left_by_records who (past.carriers c)) (matches.carriers c who is);
    leaves = λ past matches. matches_change plan up later c b past (input_past plan past (At c piece)) change
        (λ w at. subst (λ (v : CarrierIdentity). IsConnectionOf v b (left_by_records v ((input_past plan past (At c piece)).carriers c)))
        (sym (same_who w at))
        (subst (IsConnectionOf who b) (sym (at_leaves laws plan past c who is piece))
        (leaves (left_by_records who (past.carriers c)) (matches.carriers c who is))))
        (at_others laws plan past c who is piece) refl matches;
  }

  module _ (live : is_up up c ≡ true) where
    quiet_is : (k : Connection) → IsConnectionOf who (is_up up c) k → k ≡ quiet_connection
    quiet_is k at = subst (λ (b : Bool). IsConnectionOf who b k) live at

    pub lost_meant : c < length up → AreMeant plan up (slice_set up c false) (At c Cutting ∷ []) (Happened (event.Lost c) ∷ [])
    lost_meant within = one_input (slice_set up c false) false Cutting (Happened (event.Lost c) ∷ []) (one_change up c false within)
        (λ k at. ap (notices_at_end who.carrier) (quiet_is k at) ∙ ap (λ (n : ℕ). Happened (event.Lost n) ∷ []) (who_is plan c who is).0)
        (λ k at. refl)

    pub frame_meant : (f : FrameIn) → IsQuiet f → who.lpcn < 65536 → AreMeant plan up up (At c (Octets (spelling f)) ∷ [])
        (Happened (event_of c f) ∷ [])
    frame_meant f quiet channel = one_input up true (Octets (spelling f)) (Happened (event_of c f) ∷ []) (no_change up c true live)
        (λ k at. ap (λ (j : Connection). piece_produces who j (Octets (spelling f))) (quiet_is k at)
        ∙ frame_produces laws who few channel f quiet ∙ ap (λ (n : ℕ). Happened (event_of n f) ∷ []) (who_is plan c who is).0)
        (λ k at. ap (λ (j : Connection). piece_leaves who j (Octets (spelling f))) (quiet_is k at)
        ∙ frame_leaves laws who few channel f quiet)

  -- ---- an Up

  module _ (down : is_up up c ≡ false) (channel : who.lpcn < 65536) (within : c < length up) where
    abbrev greeting : List ℕ
    greeting = spelling (hello_of plan c)

    its_greeting : greeting ≡ spelling (frame.Hello 1 who.carrier who.lpcn)
    its_greeting = (λ i. spelling (frame.Hello 1 (sym (who_is plan c who is).0 i) (sym (who_is plan c who is).1 i)))

    module _ (past : Past) (matches : Matches plan up past) where
      abbrev opened : Past
      opened = input_past plan past (At c Opening)

      abbrev greeted : Past
      greeted = input_past plan opened (At c (Octets greeting))

      down_now : up_by who (left_by_records who (past.carriers c)) ≡ None
      down_now = subst (λ (b : Bool). IsConnectionOf who b (left_by_records who (past.carriers c))) down (matches.carriers c who is)

      opened_is : left_by_records who (opened.carriers c) ≡ new_connection who
      opened_is = at_leaves laws plan past c who is Opening

      up_means : all_mean plan past (At c Opening ∷ At c (Octets greeting) ∷ []) ≡ Accepted c V1 ∷ []
      up_means =
          (λ i. (at_means laws plan past c who is Opening ∙ not_running who (left_by_records who (past.carriers c)) down_now) i
          ++ append-nil (input_means plan opened (At c (Octets greeting))) i)
          ∙ at_means laws plan opened c who is (Octets greeting)
          ∙ (λ i. notices_of_octets who (opened_is i) (its_greeting i))
          ∙ hello_produces laws who few channel
          ∙ ap (λ (n : ℕ). Accepted n V1 ∷ []) (who_is plan c who is).0

      greeted_is : left_by_records who (greeted.carriers c) ≡ quiet_connection
      greeted_is =
          at_leaves laws plan opened c who is (Octets greeting)
          ∙ (λ i. connection_after_octets who (opened_is i) (its_greeting i))
          ∙ hello_leaves laws who few channel

      up_leaves : Matches plan (slice_set up c true) greeted
      up_leaves = matches_change plan up (slice_set up c true) c true past greeted (one_change up c true within)
          (λ w at. subst (λ (v : CarrierIdentity). left_by_records v (greeted.carriers c) ≡ quiet_connection)
          (sym (same_who w at)) greeted_is)
          (λ d apart. at_others laws plan opened c who is (Octets greeting) d apart ∙ at_others laws plan past c who is Opening d apart)
          refl matches

    pub up_meant : AreMeant plan up (slice_set up c true) (At c Opening ∷ At c (Octets greeting) ∷ []) (Accepted c V1 ∷ [])
    up_meant = record { means = up_means; leaves = up_leaves }

-- ---- an operator's line, and ticks

-- the laws of lines
pub record LineLaws : Type 0 where
  pub pieces : (a b : List ℕ) → (lines_in (a ++ b) ≡ lines_in a ++ lines_in (open_in a ++ b)) ×
      (open_in (a ++ b) ≡ open_in (open_in a ++ b))
  pub line : (octets more : List ℕ) → All (λ octet. octet ≢ 10) octets →
      (lines_in (octets ++ 10 ∷ more) ≡ line_step_of octets ∷ lines_in more) × (open_in (octets ++ 10 ∷ more) ≡ open_in more)

free_all : (c : ℕ) (xs : List ℕ) → IsFree c xs → All (λ o. o ≢ c) xs
free_all c [] free k d within = absurd (omega (arith, within))
free_all c (x ∷ xs) free zero d within = eqb-false x c free.0
free_all c (x ∷ xs) free (suc k) d within = free_all c xs free.1 k d (omega (arith, within))

module _ (lines : LineLaws) (plan : Settings) (up : List Bool) (t : List ℕ) (free : IsFree 10 t) (notices : List Notice)
    (its : line_means (line_step_of t) ≡ notices) where
  abbrev said : List ℕ
  said = t ++ 10 ∷ []

  said_alone : meaning_of_text said ≡ notices
  said_alone = ap (λ (ls : List LineStep). flat_map line_means ls) (lines.line t [] (free_all 10 t free)).0
      ∙ append-nil (line_means (line_step_of t)) ∙ its

  module _ (past : Past) (matches : Matches plan up past) where
    said_after : meaning_of_text (past.console ++ said) ≡ meaning_of_text past.console ++ notices
    said_after =
        ap (λ (ls : List LineStep). flat_map line_means ls)
        ((lines.pieces past.console said).0 ∙ ap (λ (o : List ℕ). lines_in past.console ++ lines_in (o ++ said)) matches.console)
        ∙ flat_map-append line_means (lines_in past.console) (lines_in said)
        ∙ ap (λ (ns : List Notice). meaning_of_text past.console ++ ns) said_alone

    say_means : all_mean plan past (Saying said ∷ []) ≡ notices
    say_means =
        append-nil (input_means plan past (Saying said))
        ∙ ap (drop (length (meaning_of_text past.console))) said_after
        ∙ drop_at (meaning_of_text past.console) notices (length (meaning_of_text past.console)) refl

    say_leaves : Matches plan up (input_past plan past (Saying said))
    say_leaves = record {
      carriers = matches.carriers;
      console = (lines.pieces past.console said).1 ∙ ap (λ (o : List ℕ). open_in (o ++ said)) matches.console
          ∙ (lines.line t [] (free_all 10 t free)).1;
    }

  pub say_meant : AreMeant plan up up (Saying said ∷ []) notices
  say_meant = record { means = say_means; leaves = say_leaves }

tick_means : (plan : Settings) (past : Past) (n : ℕ) → all_mean plan past (replicate n Ticking) ≡ replicate n (Happened event.Tick)
tick_means plan past zero = refl
tick_means plan past (suc n) = ap (λ (ns : List Notice). Happened event.Tick ∷ ns) (tick_means plan past n)

tick_leaves : (plan : Settings) (past : Past) (n : ℕ) → all_past plan past (replicate n Ticking) ≡ past
tick_leaves plan past zero = refl
tick_leaves plan past (suc n) = tick_leaves plan past n

pub ticks_meant : (plan : Settings) (up : List Bool) (n : ℕ) → AreMeant plan up up (replicate n Ticking) (replicate n (Happened event.Tick))
ticks_meant plan up n = record {
  means = λ past matches. tick_means plan past n;
  leaves = λ past matches. subst (Matches plan up) (sym (tick_leaves plan past n)) matches;
}
