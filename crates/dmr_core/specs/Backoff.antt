-- The Noises that the backoff counts, defined by the events and the noise numbers before them.
use Rattle.std.specs.Prelude.{ℕ, ◌+◌, ◌-◌, List, [], ◌∷◌, Bool, false, ◌==◌, if◌then◌else◌, take}
use Rattle.std.specs.Prelude.{sum}
use Rattle.dmr_plan.specs.declared.settings.Settings.{Settings}
use Rattle.dmr_access.specs.Limits.{polls_of_window}
use Rattle.dmr_pool.specs.Free.{is_control}
use Rattle.dmr_core.specs.declared.event.Event.{Event}
use Rattle.dmr_core.specs.declared.event.Event.TheVariants.{Up, Noise, Poll}
use Rattle.dmr_core.specs.declared.entry.Entry.{Entry}

-- the event is the Up of the control carrier
abbrev pub is_start : Settings → Event → Bool
is_start plan (Up c) = c == plan.lists.control
is_start plan _ = false

-- the event is a Poll of the control carrier
abbrev pub is_poll : Settings → Event → Bool
is_poll plan (Poll c) = c == plan.lists.control
is_poll plan _ = false

-- 1 for a Noise on the control slot, else 0
abbrev pub noise_in : Settings → Event → ℕ
noise_in plan (Noise slot) = if is_control plan.lists slot then 1 else 0
noise_in plan _ = 0

-- the count with one more event, when `polls` Polls may still be passed: nothing before an Up counts, nor before a Poll
-- beyond these
abbrev pub noises_with_event : Settings → ℕ → Event → (ℕ → ℕ) → ℕ
noises_with_event plan polls event before =
    if is_start plan event then 0 else
    if is_poll plan event then (if polls == 0 then 0 else before (polls - 1)) else
    noise_in plan event + before polls

-- the Noises on the control slot after the later of its carrier's last Up and the Poll before its last `polls` ones. If
-- the journal has neither, the first noise numbers of the facts before count too: one more of them than Polls may still
-- be passed.
abbrev pub noises_within : Settings → List ℕ → List Entry → ℕ → ℕ
noises_within plan before [] polls = sum (take (polls + 1) before)
noises_within plan before (entry ∷ earlier) polls =
    noises_with_event plan polls entry.event (noises_within plan before earlier)

-- the Noises on the control slot after the later of its carrier's last Up and the 32nd last of its Polls
abbrev pub recent_noises : Settings → List ℕ → List Entry → ℕ
recent_noises plan before journal = noises_within plan before journal (polls_of_window - 1)
