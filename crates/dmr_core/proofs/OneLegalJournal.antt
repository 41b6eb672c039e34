-- Events have exactly one legal journal.
use Rattle.std.proofs.Common.{◌≡◌, List, [], ◌∷◌, refl, ◌∙◌, ap}
use Rattle.dmr_plan.specs.declared.settings.Settings.{Settings}
use Rattle.dmr_core.specs.declared.event.Event.{Event}
use Rattle.dmr_core.specs.declared.act.Acts.{Acts}
use Rattle.dmr_core.specs.declared.entry.Entry.{Entry}
use Rattle.dmr_core.specs.Facts.{Facts, facts_after}
use Rattle.dmr_core.specs.Journal.{IsLegal, journal_of, answer_after_entries, events_of, answers_of}

pub journal_is_legal : (plan : Settings) (facts : Facts) (events : List Event) → IsLegal plan facts (journal_of plan facts events)
journal_is_legal plan facts [] = tt
journal_is_legal plan facts (event ∷ earlier) = (refl, journal_is_legal plan facts earlier)

-- the facts after an entry with these acts
abbrev entered : Settings → Event → Facts → Acts → Facts
entered plan event facts acts = facts_after plan facts (record { actor = 0; event = event; acts = acts } ∷ [])

pub same_facts : (plan : Settings) (facts : Facts) (journal : List Entry) → IsLegal plan facts journal →
    facts_after plan facts journal ≡ facts_after plan facts (journal_of plan facts (events_of journal))
same_facts plan facts [] h = refl
same_facts plan facts (entry ∷ earlier) h =
    ap (λ (acts : Acts). entered plan entry.event (facts_after plan facts earlier) acts) h.0
    ∙ ap (λ (f : Facts). entered plan entry.event f (answer_after_entries plan f [] entry.event)) (same_facts plan facts earlier h.1)

pub same_answers : (plan : Settings) (facts : Facts) (journal : List Entry) → IsLegal plan facts journal →
    answers_of journal ≡ answers_of (journal_of plan facts (events_of journal))
same_answers plan facts [] h = refl
same_answers plan facts (entry ∷ earlier) h =
    ap (λ (acts : Acts). acts ∷ answers_of earlier)
    (h.0 ∙ ap (λ (f : Facts). answer_after_entries plan f [] entry.event) (same_facts plan facts earlier h.1))
    ∙ ap (λ (rest : List Acts). answer_after_entries plan (facts_after plan facts (journal_of plan facts (events_of earlier))) []
    entry.event ∷ rest) (same_answers plan facts earlier h.1)
