-- Journals, the newest entry first.
use Rattle.std.specs.Prelude.{◌≡◌, List, [], ◌∷◌, map}
use Rattle.dmr_plan.specs.declared.settings.Settings.{Settings}
use Rattle.dmr_core.specs.declared.event.Event.{Event}
use Rattle.dmr_core.specs.declared.act.Acts.{Acts}
use Rattle.dmr_core.specs.declared.entry.Entry.{Entry}
use Rattle.dmr_core.specs.Facts.{Facts, facts_after}
use Rattle.dmr_core.specs.Rules.{acts_of}
use Rattle.dmr_core.specs.Replies.{reply_to}

-- the answer to an event after the entries
abbrev pub answer_after_entries : Settings → Facts → List Entry → Event → Acts
answer_after_entries plan facts journal event = record {
  list = acts_of plan (facts_after plan facts journal) event;
  said = reply_to plan (facts_after plan facts journal) event;
}

-- an entry of an event and its answer, for statements in which the sender does not matter
abbrev pub unattributed_entry : Event → Acts → Entry
unattributed_entry event acts = record { actor = 0; event = event; acts = acts }

-- each entry's acts and reply are the answer to its event after the entries before it
abbrev pub IsLegal : Settings → Facts → List Entry → Type 0
IsLegal plan facts [] = Unit {0}
IsLegal plan facts (entry ∷ earlier) =
    (entry.acts ≡ answer_after_entries plan facts earlier entry.event) × IsLegal plan facts earlier

-- the legal journal of these events, the newest first
abbrev pub journal_of : Settings → Facts → List Event → List Entry
journal_of plan facts [] = []
journal_of plan facts (event ∷ earlier) =
    let journal = journal_of plan facts earlier in
    unattributed_entry event (answer_after_entries plan facts journal event) ∷ journal

-- the events of a journal
abbrev pub events_of : List Entry → List Event
events_of journal = map (λ (entry : Entry). entry.event) journal

-- the answers in a journal
abbrev pub answers_of : List Entry → List Acts
answers_of journal = map (λ (entry : Entry). entry.acts) journal
