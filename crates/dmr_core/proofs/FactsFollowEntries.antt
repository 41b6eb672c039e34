-- The facts after one more entry are the facts after its event and each of its acts.
use Rattle.std.proofs.Common.{◌≡◌, List, [], ◌∷◌, refl}
use Rattle.std.specs.Prelude.{fold}
use Rattle.dmr_plan.specs.declared.settings.Settings.{Settings}
use Rattle.dmr_core.specs.declared.act.Act.{Act}
use Rattle.dmr_core.specs.declared.entry.Entry.{Entry}
use Rattle.dmr_core.specs.Facts.{Facts, facts_after, facts_after_event, facts_after_act, same_as_before, registered_by_act, asks_by_act}
use Rattle.dmr_core.specs.Facts.{lines_by_act, calls_by_act, outboxes_by_act, fills_by_act, late_by_act}

abbrev each : Facts → List Act → Facts
each f acts = record {
  up = fold same_as_before f.up acts;
  registered = fold registered_by_act f.registered acts;
  asks = fold asks_by_act f.asks acts;
  lines = fold lines_by_act f.lines acts;
  calls = fold calls_by_act f.calls acts;
  outboxes = fold outboxes_by_act f.outboxes acts;
  noise = fold same_as_before f.noise acts;
  moving = fold same_as_before f.moving acts;
  fills = fold fills_by_act f.fills acts;
  late = fold late_by_act f.late acts;
}

each_is : (f : Facts) (acts : List Act) → each f acts ≡ fold facts_after_act f acts
each_is f [] = refl
each_is f (act ∷ acts) = each_is (facts_after_act f act) acts

pub facts_after-step : (plan : Settings) (facts : Facts) (entry : Entry) (earlier : List Entry) →
    facts_after plan facts (entry ∷ earlier) ≡ fold facts_after_act (facts_after_event plan (facts_after plan facts earlier) entry.event)
    entry.acts.list
facts_after-step plan facts entry earlier = each_is (facts_after_event plan (facts_after plan facts earlier) entry.event) entry.acts.list

pub facts_after-entry : (plan : Settings) (facts : Facts) (entry : Entry) →
    facts_after plan facts (entry ∷ []) ≡ fold facts_after_act (facts_after_event plan facts entry.event) entry.acts.list
facts_after-entry plan facts entry = each_is (facts_after_event plan facts entry.event) entry.acts.list
