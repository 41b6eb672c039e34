-- The facts about journals that proofs of other crates may cite.
use Rattle.std.proofs.Common.{◌≡◌, List, [], ◌∷◌, ◌++◌, ap, refl}
use Rattle.std.specs.Prelude.{fold}
use Rattle.dmr_plan.specs.declared.settings.Settings.{Settings}
use Rattle.dmr_core.specs.declared.act.Act.{Act}
use Rattle.dmr_core.specs.declared.entry.Entry.{Entry}
use Rattle.dmr_core.specs.declared.event.Event.{Event}
use Rattle.dmr_core.specs.Facts.{Facts, since}
use Rattle.dmr_core.specs.Journal.{events_of, journal_of}
-- a legal journal leaves the facts that the answers to its events leave
pub use Rattle.dmr_core.proofs.OneLegalJournal.{same_facts}

-- a fact after two journals, newest entry first
pub since-append : {X : Type 0} (by_event : X → Event → X) (by_act : X → Act → X) (x : X) (later earlier : List Entry) →
    since by_event by_act x (later ++ earlier) ≡ since by_event by_act (since by_event by_act x earlier) later
since-append by_event by_act x [] earlier = refl
since-append {X} by_event by_act x (entry ∷ later) earlier =
    ap (λ (y : X). fold by_act (by_event y entry.event) entry.acts.list) (since-append by_event by_act x later earlier)

-- the journal of events has these events
pub events-journal : (plan : Settings) (facts : Facts) (events : List Event) → events_of (journal_of plan facts events) ≡ events
events-journal plan facts [] = refl
events-journal plan facts (event ∷ earlier) = ap (λ (es : List Event). event ∷ es) (events-journal plan facts earlier)
