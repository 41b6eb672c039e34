-- The journals of terms in a row, joined.
use Rattle.std.proofs.Common.{◌≡◌, ℕ, ◌+◌, ◌<◌, ◌≤◌, List, [], ◌∷◌, ◌++◌, length, map, refl, sym, ◌∙◌, ap, subst, arith, slice_index_or}
use Rattle.std.specs.List.{flat_map}
use Rattle.std.specs.Prelude.{All, filter, reverse, ◌==◌}
use Rattle.std.proofs.lemmas.List.{append-nil, map-append, reverse-append}
use Rattle.std.proofs.lemmas.List.Concat.{flat_map-append}
use Rattle.std.proofs.lemmas.List.Elements.{All-nil, All-cons, All-append, filter-append}
use Rattle.std.proofs.lemmas.Option.{get_or_from_slice_get}
use Rattle.dmr_plan.specs.declared.settings.Settings.{Settings}
use Rattle.dmr_core.specs.declared.act.Acts.{Acts}
use Rattle.dmr_core.specs.declared.entry.Entry.{Entry}
use Rattle.dmr_core.specs.Facts.{Facts, same_as_before, up_by_event, registered_by_act, asks_by_event, asks_by_act, lines_by_event}
use Rattle.dmr_core.specs.Facts.{lines_by_act, calls_by_event, calls_by_act, outboxes_by_event, outboxes_by_act, noise_by_event}
use Rattle.dmr_core.specs.Facts.{moving_by_event, fills_by_event, fills_by_act, late_by_event, late_by_act, facts_after}
use Rattle.dmr_core.specs.Journal.{IsLegal}
use Rattle.dmr_core.specs.Replies.{reply_to}
use Rattle.dmr_core.specs.Rules.{acts_of}
use Rattle.dmr_core.specs.State.{SiteState}
use Rattle.dmr_desk.specs.Life.{joined_journal, joined_view}
use Rattle.dmr_desk.specs.BookState.{site_after_entries}
use Rattle.dmr_desk.specs.Term.{Start, End}
use Rattle.dmr_desk.specs.Terms.{start_after, AreTerms, journals_of}
use Rattle.dmr_desk.specs.Views.{deposit_in, view_of}
use Rattle.dmr_desk.proofs.TermsJoin.{limit_stays}
use Rattle.dmr_core.proofs.JournalLaws.{since-append}

-- ---- two journals, newest entry first

pub facts_append : (plan : Settings) (facts : Facts) (later earlier : List Entry) →
    facts_after plan facts (later ++ earlier) ≡ facts_after plan (facts_after plan facts earlier) later
facts_append plan facts later earlier = λ i. record {
  up = since-append (up_by_event plan) same_as_before facts.up later earlier i;
  registered = since-append same_as_before registered_by_act facts.registered later earlier i;
  asks = since-append (asks_by_event plan) asks_by_act facts.asks later earlier i;
  lines = since-append (lines_by_event plan) lines_by_act facts.lines later earlier i;
  calls = since-append calls_by_event calls_by_act facts.calls later earlier i;
  outboxes = since-append outboxes_by_event outboxes_by_act facts.outboxes later earlier i;
  noise = since-append (noise_by_event plan) same_as_before facts.noise later earlier i;
  moving = since-append moving_by_event same_as_before facts.moving later earlier i;
  fills = since-append (fills_by_event plan) fills_by_act facts.fills later earlier i;
  late = since-append (late_by_event plan) late_by_act facts.late later earlier i;
}

legal_append : (plan : Settings) (facts : Facts) (later earlier : List Entry) → IsLegal plan facts earlier →
    IsLegal plan (facts_after plan facts earlier) later → IsLegal plan facts (later ++ earlier)
legal_append plan facts [] earlier first second = first
legal_append plan facts (entry ∷ later) earlier first second =
    let answer_at : Facts → Acts = λ f. record { list = acts_of plan f entry.event; said = reply_to plan f entry.event } in (
      second.0 ∙ ap answer_at (sym (facts_append plan facts later earlier)),
      legal_append plan facts later earlier first second.1,
    )

-- ---- the journal of all terms

-- it is legal, and it leads to the site that the terms left
pub one_journal : (start : Start) (ends : List End) → AreTerms start ends →
    IsLegal start.site.plan start.site.facts (reverse (joined_journal ends)) ×
    ((start_after start ends).site ≡ site_after_entries start.site (joined_journal ends))
one_journal start [] are = (tt, refl)
one_journal start (end ∷ earlier) are =
    let before = one_journal start earlier are.1 in
    let run = are.0.run in
    let plan = start.site.plan in
    let facts = start.site.facts in
    let both : reverse (joined_journal earlier ++ end.journal) ≡ reverse end.journal ++ reverse (joined_journal earlier) =
    reverse-append (joined_journal earlier) end.journal in
    let P : SiteState → Type 0 = λ s. IsLegal s.plan s.facts (reverse end.journal) in
    let Q : List Entry → Type 0 = λ j. IsLegal start.site.plan start.site.facts j in
    let site_with : Facts → SiteState = λ f. record { plan = start.site.plan; facts = f } in (
      subst Q (sym both) (legal_append plan facts (reverse end.journal) (reverse (joined_journal earlier)) before.0
          (subst P before.1 run.ended.legal)),
      run.ended.site ∙ ap (λ (s : SiteState). site_after_entries s end.journal) before.1
          ∙ ap site_with (sym (facts_append plan facts (reverse end.journal) (reverse (joined_journal earlier)))
          ∙ ap (facts_after plan facts) (sym both)),
    )

pub stations_stay : (start : Start) (ends : List End) → AreTerms start ends →
    length (start_after start ends).stations ≡ length start.stations
stations_stay start [] are = refl
stations_stay start (end ∷ earlier) are = are.0.run.ended.handed_back ∙ stations_stay start earlier are.1

pub nobody_else : (start : Start) (ends : List End) → AreTerms start ends →
    All (λ (entry : Entry). entry.actor < length start.stations + 2) (joined_journal ends)
nobody_else start [] are = All-nil (λ (entry : Entry). entry.actor < length start.stations + 2)
nobody_else start (end ∷ earlier) are =
    let run = are.0.run in
    let P : ℕ → Type 0 = λ n. All (λ (entry : Entry). entry.actor < n) end.journal in
    let many : length end.views ≡ length start.stations + 2 =
    run.ended.actors ∙ ap (λ (n : ℕ). n + 2) (stations_stay start earlier are.1) in
    All-append (λ (entry : Entry). entry.actor < length start.stations + 2) (joined_journal earlier) end.journal
    (nobody_else start earlier are.1) (subst P many run.ended.nobody)

pub each_within : (start : Start) (ends : List End) → AreTerms start ends → All (λ (end : End). length end.journal ≤ start.limit) ends
each_within start [] are = All-nil (λ (end : End). length end.journal ≤ start.limit)
each_within start (end ∷ earlier) are =
    let w = are.0.run.ended.within in
    let l = limit_stays start earlier in
    All-cons (λ (end : End). length end.journal ≤ start.limit) end earlier (omega arith) (each_within start earlier are.1)

pub journals_joined : (ends : List End) → flat_map (λ (j : List Entry). j) (journals_of ends) ≡ joined_journal ends
journals_joined [] = refl
journals_joined (end ∷ earlier) = flat_map-append (λ (j : List Entry). j) (journals_of earlier) (end.journal ∷ [])
    ∙ (λ i. journals_joined earlier i ++ append-nil end.journal i)

-- ---- an actor's views

pub view_append : (actor : ℕ) (first second : List Entry) → view_of actor (first ++ second) ≡ view_of actor first ++ view_of actor second
view_append actor first second =
    ap (map deposit_in) (filter-append (λ (entry : Entry). entry.actor == actor) first second)
    ∙ map-append deposit_in (filter (λ (entry : Entry). entry.actor == actor) first)
    (filter (λ (entry : Entry). entry.actor == actor) second)

pub views_joined : (start : Start) (ends : List End) (actor : ℕ) → AreTerms start ends → actor < length start.stations + 2 →
    joined_view actor ends ≡ view_of actor (joined_journal ends)
views_joined start [] actor are low = refl
views_joined start (end ∷ earlier) actor are low =
    let run = are.0.run in
    let many = run.ended.actors in
    let stay = stations_stay start earlier are.1 in
    let own : slice_index_or end.views actor [] ≡ view_of actor end.journal =
    get_or_from_slice_get end.views actor (view_of actor end.journal) [] (run.views actor (omega arith)) in
    (λ i. views_joined start earlier actor are.1 low i ++ own i) ∙ sym (view_append actor (joined_journal earlier) end.journal)
