-- The steps of a link's worker, term by term.
use Rattle.std.proofs.Common.{◌≡◌, ℕ, ◌+◌, List, [], ◌∷◌, ◌++◌, Option, Some, length, map, slice_get, refl, sym, ◌∙◌, ap, subst}
use Rattle.std.proofs.Common.{append_assoc, arith}
use Rattle.std.proofs.lemmas.List.{append-nil}
use Rattle.std.proofs.lemmas.List.Elements.{filter_map-append}
use Rattle.std.proofs.lemmas.Option.{same_Some, slice_get_within}
use Rattle.dmr_plan.specs.declared.settings.Settings.{Settings}
use Rattle.dmr_core.specs.State.{SiteState}
use Rattle.dmr_wire.specs.Answers.{Answer}
use Rattle.dmr_link.specs.declared.desk.Deposit.{Deposit}
use Rattle.dmr_link.specs.declared.stream.Peer.{Peer}
use Rattle.dmr_link.specs.Happenings.{Happening, answers_in, deposits_in, desk_deposit, port_answer}
use Rattle.dmr_link.specs.Recorded.{reading_at, reading_after_all}
use Rattle.dmr_link.specs.Sessions.{Session, Sides, Happens}
use Rattle.dmr_desk.specs.Life.{AreOrderly, HasWorkedOn, WentOn, answers_of_terms, happened_of_terms, joined_answers, joined_journal}
use Rattle.dmr_desk.specs.Life.{past_after_terms, read_terms}
use Rattle.dmr_desk.specs.Meaning.{IsOneRecord, in_record}
use Rattle.dmr_desk.specs.Opening.{IsLimit}
use Rattle.dmr_desk.specs.Refusing.{carrier_of_peer, carrier_numbers}
use Rattle.dmr_desk.specs.Term.{Start, End}
use Rattle.dmr_desk.specs.Terms.{start_after, AreTerms, Fits}
use Rattle.dmr_desk.specs.Views.{view_of}
use Rattle.dmr_desk.specs.Work.{StationState, WorkState, work_state, sides_at, Step, happened_of, deposits_of_sessions, IsOrderly, Steps}
use Rattle.dmr_desk.proofs.JournalsJoin.{one_journal, stations_stay, view_append}
use Rattle.dmr_desk.proofs.TermsJoin.{limit_stays}
use Rattle.dmr_pdu.proofs.ListLaws.{get_within, same_by_place}

-- ---- lists by place

-- ---- one term more

-- the happenings of a new desk, after the deposits of the desks before it
after_view : (s t : StationState) (view own : List Deposit) (happened : List Happening) →
    Happens (sides_at s []) happened (sides_at t own) → Happens (sides_at s view) happened (sides_at t (view ++ own))
after_view s t view own happened h = record { port = h.port; desk = ap (λ (ds : List Deposit). view ++ ds) h.desk; gate = h.gate }

module _ (none : (x : Sides) → Happens x [] x)
    (more : (x y z : Sides) (first second : List Happening) → Happens x first y → Happens y second z → Happens x (first ++ second) z) where
  went_nowhere : (s : StationState) → WentOn (work_state s []) (work_state s []) []
  went_nowhere s = record {
    who = refl;
    happens = none (sides_at s []);
    stands = λ past h. h;
    view = λ past h. sym (append-nil (deposits_of_sessions past));
    orderly = λ past h. tt;
  }

  went_on : (s t u : StationState) (view own : List Deposit) (terms : List (List Step)) (steps : List Step) →
      WentOn (work_state s []) (work_state t view) terms → Steps (work_state t []) (work_state u own) steps
      → WentOn (work_state s []) (work_state u (view ++ own)) (steps ∷ terms)
  went_on s t u view own terms steps before now = record {
    who = now.who ∙ before.who;
    happens = more (sides_at s []) (sides_at t view) (sides_at u (view ++ own)) (happened_of_terms terms) (happened_of steps) before.happens
        (after_view t u view own (happened_of steps) now.happens);
    stands = λ past h. now.stands (past_after_terms past terms) (before.stands past h);
    view = λ past h.
        now.view (past_after_terms past terms) (before.stands past h)
        ∙ ap (λ (ds : List Deposit). ds ++ deposits_in (happened_of steps)) (before.view past h)
        ∙ append_assoc (deposits_of_sessions past) (deposits_in (happened_of_terms terms)) (deposits_in (happened_of steps))
        ∙ ap (λ (ds : List Deposit). deposits_of_sessions past ++ ds)
        (sym (filter_map-append desk_deposit (happened_of_terms terms) (happened_of steps)));
    orderly = λ past h.
        let P : Peer → Type 0 = λ p. IsOrderly p (past_after_terms past terms) steps in
        (subst P before.who (now.orderly (past_after_terms past terms) (before.stands past h)), before.orderly past h);
  }

  -- ---- all terms

  pub carrier_works : (start : Start) (ends : List End) (k : ℕ) (s t : StationState) → AreTerms start ends →
      slice_get start.stations k ≡ Some s → slice_get (start_after start ends).stations k ≡ Some t
      → HasWorkedOn (length ends) s t (view_of k (joined_journal ends))
  carrier_works start [] k s t are here there =
      let P : StationState → Type 0 = λ x. HasWorkedOn 0 s x [] in
      subst P (same_Some s t (sym here ∙ there)) ([], refl, went_nowhere s)
  carrier_works start (end ∷ earlier) k s t are here there =
      let run = are.0.run in
      let low = slice_get_within start.stations k s here in
      let stay = stations_stay start earlier are.1 in
      let ended = run.ended.all_ended in
      let many = run.ended.actors in
      let middle = get_within (start_after start earlier).stations k (omega arith) in
      let ending = get_within end.ends k (omega arith) in
      let before = carrier_works start earlier k s middle.0 are.1 here middle.1 in
      let work = run.ended.carriers k middle.0 t ending.0 (view_of k end.journal) middle.1 there ending.1 (run.views k (omega arith)) in
      let count = before.1 in
      let P : List Deposit → Type 0 = λ view. WentOn (work_state s []) (work_state t view) (work.0 ∷ before.0) in (
        work.0 ∷ before.0,
        omega arith,
        subst P (sym (view_append k (joined_journal earlier) end.journal))
            (went_on s middle.0 t (view_of k (joined_journal earlier)) (view_of k end.journal) before.0 work.0 before.2 work.1),
      )

  pub console_works : (start : Start) (ends : List End) → AreTerms start ends →
      HasWorkedOn (length ends) start.console (start_after start ends).console (view_of (length start.stations + 1) (joined_journal ends))
  console_works start [] are = ([], refl, went_nowhere start.console)
  console_works start (end ∷ earlier) are =
      let run = are.0.run in
      let middle = start_after start earlier in
      let stay = stations_stay start earlier are.1 in
      let ended = run.ended.all_ended in
      let many = run.ended.actors in
      let ending = get_within end.ends (length (start_after start earlier).stations + 1) (omega arith) in
      let before = console_works start earlier are.1 in
      let work = run.ended.console ending.0 (view_of (length (start_after start earlier).stations + 1) end.journal) ending.1
      (run.views (length (start_after start earlier).stations + 1) (omega arith)) in
      let count = before.1 in
      let own : view_of (length (start_after start earlier).stations + 1) end.journal ≡ view_of (length start.stations + 1) end.journal =
      ap (λ (n : ℕ). view_of (n + 1) end.journal) stay in
      let P : List Deposit → Type 0 = λ view. WentOn (work_state start.console []) (work_state end.console view) (work.0 ∷ before.0) in (
        work.0 ∷ before.0,
        omega arith,
        subst P (ap (λ (ds : List Deposit). view_of (length start.stations + 1) (joined_journal earlier) ++ ds) own
            ∙ sym (view_append (length start.stations + 1) (joined_journal earlier) end.journal))
            (went_on start.console middle.console end.console (view_of (length start.stations + 1) (joined_journal earlier))
            (view_of (length (start_after start earlier).stations + 1) end.journal) before.0 work.0 before.2 work.1),
      )

  -- the next term can begin, if the first could
  pub all_fit : (start : Start) (ends : List End) → AreTerms start ends → Fits start → Fits (start_after start ends)
  all_fit start ends are fits =
      let carrier : StationState → Option ℕ = λ s. carrier_of_peer s.link.who in
      let same : map carrier (start_after start ends).stations ≡ map carrier start.stations =
      same_by_place carrier start.stations (start_after start ends).stations (stations_stay start ends are)
      (λ k s t here there. ap carrier_of_peer (carrier_works start ends k s t are here there).2.who) in
      let plan : (start_after start ends).site.plan ≡ start.site.plan = ap (λ (s : SiteState). s.plan) (one_journal start ends are).1 in
      let P : ℕ → Type 0 = IsLimit in (
        same ∙ fits.0 ∙ ap (λ (p : Settings). map (λ (n : ℕ). Some n) (carrier_numbers p)) (sym plan),
        subst P (sym (limit_stays start ends)) fits.1,
      )

-- ---- a port's record

in_record_twice : (past : List Session) → map in_record (map in_record past) ≡ map in_record past
in_record_twice [] = refl
in_record_twice (s ∷ ss) = ap (λ (rest : List Session). in_record s ∷ rest) (in_record_twice ss)

pub records_of_terms : ((who : Peer) (past : List Session) (steps : List Step) → IsOrderly who past steps → IsOneRecord past steps) →
    (who : Peer) (past : List Session) (terms : List (List Step)) → AreOrderly who past terms
    → map in_record (past_after_terms past terms) ≡ read_terms past (answers_of_terms terms)
records_of_terms one who past [] orderly = refl
records_of_terms one who past (steps ∷ earlier) orderly =
    let same : map in_record (past_after_terms past earlier) ≡ map in_record (read_terms past (answers_of_terms earlier)) =
    sym (in_record_twice (past_after_terms past earlier)) ∙ ap (map in_record) (records_of_terms one who past earlier orderly.1) in
    one who (past_after_terms past earlier) steps orderly.0 ∙ ap
    (λ (ss : List Session). (reading_after_all (reading_at ss 0 0 0) (answers_in (happened_of steps))).past) same

answers_joined : (terms : List (List Step)) → answers_in (happened_of_terms terms) ≡ joined_answers (answers_of_terms terms)
answers_joined [] = refl
answers_joined (steps ∷ earlier) = filter_map-append port_answer (happened_of_terms earlier) (happened_of steps)
    ∙ ap (λ (xs : List Answer). xs ++ answers_in (happened_of steps)) (answers_joined earlier)

pub answers_since : (m n : WorkState) (terms : List (List Step)) (begun whole : List Answer) → WentOn m n terms →
    m.at.reported ≡ Some begun → n.at.reported ≡ Some whole → whole ≡ begun ++ joined_answers (answers_of_terms terms)
answers_since m n terms begun whole went before after =
    let f = went.happens.port.follows whole after in
    let same : f.0 ≡ begun = same_Some f.0 begun (sym f.1 ∙ before) in
    f.2 ∙ (λ i. same i ++ answers_joined terms i)
