-- The output of a run on a new site is that of the one legal journal.
use Rattle.std.proofs.Common.{◌≡◌, ℕ, List, [], None, reverse, slice_index_or, ap, ◌∙◌}
use Rattle.std.proofs.lemmas.List.{reverse-reverse}
use Rattle.dmr_plan.specs.declared.settings.Settings.{Settings}
use Rattle.dmr_core.specs.declared.entry.Entry.{Entry}
use Rattle.dmr_core.specs.declared.event.Event.{Event}
use Rattle.dmr_core.specs.Facts.{Facts, no_facts}
use Rattle.dmr_core.specs.Journal.{IsLegal, events_of, journal_of}
use Rattle.dmr_link.specs.Console.{console_text}
use Rattle.dmr_link.specs.Input.{Input}
use Rattle.dmr_link.specs.Records.{HasPast, all_mean, no_past}
use Rattle.dmr_link.specs.Runs.{IsAnswered, IsRun}
use Rattle.dmr_link.specs.Session.{events_in, session_text}
use Rattle.dmr_link.specs.State.{State, next_of}
use Rattle.dmr_link.specs.Texts.{Texts}
use Rattle.dmr_replay.specs.Inputs.{octets_written, operators_text}
use Rattle.dmr_core.proofs.JournalLaws.{events-journal}

-- the events of the inputs' meaning, the newest first
abbrev events : Settings → List Input → List Event
events plan inputs = reverse (events_in (all_mean plan no_past inputs))

-- a journal of the events, the oldest entry first
abbrev reported_by : Settings → Facts → List Input → List Entry
reported_by plan facts inputs = reverse (journal_of plan facts (events plan inputs))

module _ (plan : Settings) (s new : State) (outputs : Texts) (inputs : List Input) (plan_is : s.plan ≡ plan)
    (facts_are : s.facts ≡ no_facts) (stands : HasPast s no_past) (uncounted : (carrier : ℕ) → next_of s carrier ≡ None)
    (legal : (facts : Facts) (events : List Event) → IsLegal s.plan facts (journal_of s.plan facts events))
    (run : IsRun s new outputs inputs) where
  answered : IsAnswered s new outputs (all_mean s.plan no_past inputs) (journal_of s.plan s.facts (events s.plan inputs))
  answered =
      let theirs : reverse (events_of (journal_of s.plan s.facts (events s.plan inputs))) ≡ events_in (all_mean s.plan no_past inputs) =
      ap (λ (es : List Event). reverse es) (events-journal s.plan s.facts (events s.plan inputs))
      ∙ reverse-reverse (events_in (all_mean s.plan no_past inputs)) in
      run.by_each no_past stands (journal_of s.plan s.facts (events s.plan inputs)) (legal s.facts (events s.plan inputs)) theirs

  pub run_text : (carrier : ℕ) → slice_index_or outputs.carriers carrier [] ≡ octets_written plan inputs carrier
  unfolding octets_written
  run_text carrier =
      answered.texts carrier ∙ (λ i. session_text (uncounted carrier i) carrier (all_mean (plan_is i) no_past inputs)
      (reported_by (plan_is i) (facts_are i) inputs))

  pub run_reported : outputs.console ≡ operators_text plan inputs
  unfolding operators_text
  run_reported = answered.console ∙ (λ i. console_text (all_mean (plan_is i) no_past inputs) (reported_by (plan_is i) (facts_are i) inputs))
