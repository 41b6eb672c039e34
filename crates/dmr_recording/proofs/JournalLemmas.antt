-- The events of a journal, one after another.
use Rattle.std.proofs.Common.{◌≡◌, ℕ, zero, suc, ◌+◌, ◌<◌, ◌⊎◌, Bool, List, [], ◌∷◌, length, drop, slice_index_or, sym, ap, ◌∙◌, subst, inl}
use Rattle.std.proofs.Common.{inr, arith}
use Rattle.dmr_plan.specs.declared.settings.Settings.{Settings}
use Rattle.dmr_core.specs.declared.entry.Entry.{Entry}
use Rattle.dmr_core.specs.declared.event.Event.{Event}
use Rattle.dmr_recording.specs.declared.fault.RecordingFault.{RecordingFault}
use Rattle.dmr_recording.specs.declared.fault.RecordingFault.TheVariants.{OutOfMemory}
use Rattle.dmr_recording.specs.Events.{events_of}
use Rattle.dmr_recording.specs.Recordable.{IsFault, IsFirstFault}

pub event_at : (journal : List Entry) (k : ℕ) (entry : Entry) → k < length journal → entry ≡ slice_index_or journal k entry →
    drop k (events_of journal) ≡ entry.event ∷ drop (k + 1) (events_of journal)
event_at [] k entry within is = absurd (omega (arith, within))
event_at (x ∷ xs) zero entry within is = ap (λ (it : Entry). it.event ∷ events_of xs) (sym is)
event_at (x ∷ xs) (suc k) entry within is =
    let next : suc k + 1 ≡ suc (k + 1) = omega arith in
    event_at xs k entry (omega (arith, within)) is ∙ ap (λ (n : ℕ). entry.event ∷ drop n (events_of (x ∷ xs))) (sym next)

-- the fault of the next event is the first
pub first_fault : (plan : Settings) (first up : List Bool) (k : ℕ) (e : Event) (es rest events : List Event) (fault : RecordingFault) →
    es ≡ e ∷ rest → ((f : RecordingFault) → IsFirstFault plan up k es f → IsFirstFault plan first 0 events f)
    → (fault ≡ OutOfMemory) ⊎ IsFault plan up k e fault → (fault ≡ OutOfMemory) ⊎ IsFirstFault plan first 0 events fault
first_fault plan first up k e es rest events fault here carry (inl memory) = inl memory
first_fault plan first up k e es rest events fault here carry (inr is) =
    inr (carry fault (subst (λ (l : List Event). IsFirstFault plan up k l fault) (sym here) (inl is)))
