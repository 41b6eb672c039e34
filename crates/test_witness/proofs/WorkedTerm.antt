-- The worked term as a whole.
use Rattle.std.proofs.Common.{◌≡◌, ℕ, zero, suc, ◌<◌, List, [], ◌∷◌, Some, slice_get, length, refl, reverse, sym, ◌∙◌, subst, arith}
use Rattle.std.specs.List.{All}
use Rattle.std.proofs.lemmas.List.Elements.{All-nil, All-cons}
use Rattle.std.proofs.lemmas.Option.{same_Some, slice_get_within, none-some}
use Rattle.dmr_plan.specs.declared.settings.Settings.{Settings}
use Rattle.dmr_core.specs.declared.entry.Entry.{Entry}
use Rattle.dmr_core.specs.declared.event.Event.TheVariants.{Lost, Poll, Tick, Up}
use Rattle.dmr_core.specs.Facts.{no_facts}
use Rattle.dmr_core.specs.Journal.{IsLegal, answer_after_entries}
use Rattle.dmr_core.specs.Rules.{acts_for_due_ask, acts_for_due_call, acts_for_line, acts_for_slot, acts_for_tick}
use Rattle.dmr_link.specs.declared.desk.Deposit.{Deposit}
use Rattle.dmr_desk.specs.declared.ending.Ending.{Ending}
use Rattle.dmr_desk.specs.declared.ending.Ending.TheVariants as ending
use Rattle.dmr_desk.specs.Term.{End, HasEnded, HasRun, HasTicked, HasWorked, IsTerm, Start}
use Rattle.dmr_desk.specs.Views.{view_of}
use Rattle.dmr_desk.specs.Work.{StationState}
use Rattle.test_witness.specs.Worked.{deposit, end as end_with, entry, journal, no_acts, plan as plan_with, start as start_with}
use Rattle.test_witness.proofs.WorkedCarriers.{worked_0, worked_1, worked_console}

-- ---- what is not there

-- the work of the actor whose states and ending these are
work_of : (s0 s t0 t : StationState) (view : List Deposit) (e0 e : Ending) → Some s0 ≡ Some s → Some t0 ≡ Some t → Some e0 ≡ Some e →
    HasWorked s0 t0 view e0 → HasWorked s t view e
work_of s0 s t0 t view e0 e here there why works =
    subst (λ x. HasWorked x t view e) (same_Some s0 s here)
    (subst (λ x. HasWorked s0 x view e) (same_Some t0 t there) (subst (λ x. HasWorked s0 t0 view x) (same_Some e0 e why) works))

nobody : All (λ (entry : Entry). entry.actor < 4) journal
nobody =
    let P : Entry → Type 0 = λ entry. entry.actor < 4 in
    let after_6 : List Entry = [] in
    let all_6 : All P after_6 = All-nil P in
    let after_5 : List Entry = entry 0 (Lost 0) ∷ after_6 in
    let all_5 : All P after_5 = All-cons P (entry 0 (Lost 0)) after_6 (omega arith) all_6 in
    let after_4 : List Entry = entry 1 (Lost 1) ∷ after_5 in
    let all_4 : All P after_4 = All-cons P (entry 1 (Lost 1)) after_5 (omega arith) all_5 in
    let after_3 : List Entry = entry 2 Tick ∷ after_4 in
    let all_3 : All P after_3 = All-cons P (entry 2 Tick) after_4 (omega arith) all_4 in
    let after_2 : List Entry = entry 1 (Poll 1) ∷ after_3 in
    let all_2 : All P after_2 = All-cons P (entry 1 (Poll 1)) after_3 (omega arith) all_3 in
    let after_1 : List Entry = entry 1 (Up 1) ∷ after_2 in
    let all_1 : All P after_1 = All-cons P (entry 1 (Up 1)) after_2 (omega arith) all_2 in
    All-cons P (entry 0 (Up 0)) after_1 (omega arith) all_1

-- the term at a site with these settings beyond its two carriers
module _ (others : Settings) where
  abbrev plan : Settings
  plan = plan_with others

  abbrev start : Start
  start = start_with others

  abbrev end : End
  end = end_with others

  carriers : (k : ℕ) (s t : StationState) (e : Ending) → slice_get start.stations k ≡ Some s → slice_get end.stations k ≡ Some t →
      slice_get end.ends k ≡ Some e → HasWorked s t (view_of k journal) e
  carriers zero s t e here there why = work_of _ s _ t (view_of 0 journal) ending.Finished e here there why worked_0
  carriers (suc zero) s t e here there why = work_of _ s _ t (view_of 1 journal) ending.Finished e here there why worked_1
  carriers (suc (suc k)) s t e here there why = absurd (none-some s here)

  ticked : HasTicked start.pacer end.pacer (view_of 2 journal) ending.Finished
  ticked = (
    deposit Tick ∷ [],
    refl,
    All-cons (λ (d : Deposit). d.event ≡ Tick) (deposit Tick) [] refl
        (All-nil (λ (d : Deposit). d.event ≡ Tick)),
    (refl, refl),
  )

  ticker : (e : Ending) → slice_get end.ends 2 ≡ Some e → HasTicked start.pacer end.pacer (view_of 2 journal) e
  ticker e why = subst (λ x. HasTicked start.pacer end.pacer (view_of 2 journal) x) (same_Some ending.Finished e why) ticked

  console : (e : Ending) → slice_get end.ends 3 ≡ Some e → HasWorked start.console end.console (view_of 3 journal) e
  console e why = subst (λ x. HasWorked start.console end.console (view_of 3 journal) x) (same_Some ending.Finished e why) worked_console

  views : (k : ℕ) → k < length end.views → slice_get end.views k ≡ Some (view_of k journal)
  views zero low = refl
  views (suc zero) low = refl
  views (suc (suc zero)) low = refl
  views (suc (suc (suc zero))) low = refl
  views (suc (suc (suc (suc k)))) low = absurd (omega arith)

  all_finished : (k : ℕ) → slice_get end.ends k ≡ Some ending.TermOver → ⊥
  all_finished zero h = cc
  all_finished (suc zero) h = cc
  all_finished (suc (suc zero)) h = cc
  all_finished (suc (suc (suc zero))) h = cc
  all_finished (suc (suc (suc (suc k)))) h = cc

  -- each entry has the answer of the site machine
  poll_answered : no_acts ≡ answer_after_entries plan no_facts (entry 1 (Up 1) ∷ entry 0 (Up 0) ∷ []) (Poll 1)
  unfolding acts_for_slot
  poll_answered = refl

  tick_answered : no_acts ≡ answer_after_entries plan no_facts (entry 1 (Poll 1) ∷ entry 1 (Up 1) ∷ entry 0 (Up 0) ∷ []) Tick
  unfolding acts_for_tick acts_for_due_call acts_for_due_ask acts_for_line
  tick_answered = refl

  legal : IsLegal plan no_facts (reverse journal)
  legal = (refl, (refl, (tick_answered, (poll_answered, (refl, (refl, tt))))))

  -- the view that is there is the journal's list
  seen_as : (k : ℕ) (view : List Deposit) → slice_get end.views k ≡ Some view → view_of k journal ≡ view
  seen_as k view seen = same_Some (view_of k journal) view (sym (views k (slice_get_within end.views k view seen)) ∙ seen)

  ended : HasEnded start end
  ended = record {
    legal = legal;
    safe = record {
      free = (tt, (tt, (tt, (tt, (tt, (tt, tt))))));
      known = (tt, (tt, (tt, (tt, (tt, (tt, tt))))));
      quiet = λ carrier has. (
        (λ reset. refl),
        ((λ reset. refl), ((λ reset. refl), ((λ reset. refl), ((λ reset. refl), ((λ reset. refl), tt))))),
      );
      own = (tt, (tt, (tt, (tt, (tt, (tt, tt))))));
    };
    within = omega arith;
    site = refl;
    actors = refl;
    counted = refl;
    nobody = nobody;
    handed_back = refl;
    all_ended = refl;
    carriers = λ k s t e view here there why seen. subst (λ v. HasWorked s t v e) (seen_as k view seen) (carriers k s t e here there why);
    ticker = λ e view why seen. subst (λ v. HasTicked start.pacer end.pacer v e) (seen_as 2 view seen) (ticker e why);
    console = λ e view why seen. subst (λ v. HasWorked start.console end.console v e) (seen_as 3 view seen) (console e why);
  }

  ran : HasRun start end
  ran = record { ended = ended; views = views }

  pub a_term : IsTerm start end
  a_term = record { run = ran; over = λ k is. absurd (all_finished k is) }
