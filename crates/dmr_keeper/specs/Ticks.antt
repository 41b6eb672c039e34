-- Ticks, counted over all terms.
use Rattle.std.specs.Prelude.{ℕ, ◌+◌, List, [], ◌∷◌, ◌++◌, Bool, true, false, cond, count_by}
use Rattle.dmr_core.specs.declared.event.Event.{Event}
use Rattle.dmr_core.specs.declared.event.Event.TheVariants.{Tick}
use Rattle.dmr_core.specs.declared.entry.Entry.{Entry}

-- the event is a Tick
abbrev pub is_tick : Event → Bool
is_tick Tick = true
is_tick _ = false

-- the ticks with that of an event: the site counts a Tick before it answers it
abbrev pub tick_at : ℕ → Event → ℕ
tick_at ticks event = ticks + cond (is_tick event) 1 0

-- the ticks in a journal
abbrev pub ticks_in : List Entry → ℕ
ticks_in journal = count_by (λ (entry : Entry). is_tick entry.event) journal

-- what the entries of a journal say, oldest first, each with the ticks up to its event
abbrev pub told_along : {X : Type 0} → (ℕ → Entry → List X) → ℕ → List Entry → List X
told_along says ticks [] = []
told_along says ticks (entry ∷ later) =
    says (tick_at ticks entry.event) entry ++ told_along says (tick_at ticks entry.event) later
