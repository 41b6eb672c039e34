-- What is due when the site's clock is asked for a tick. Times are nanoseconds of the system's monotonic clock.
use Rattle.std.specs.Prelude.{ℕ, ◌+◌, ◌-◌, Option, Some, None, nat_lt, if◌then◌else◌}
use Rattle.dmr_trunk.specs.declared.beat.Beat.{Beat}
use Rattle.dmr_trunk.specs.declared.beat.Beat.TheVariants.{NotYet, Tick, Delayed}
use Rattle.dmr_desk.specs.declared.pace.Pace.{Pace}
use Rattle.dmr_desk.specs.declared.pace.Pace.TheVariants as pace

-- the time in which ticks are made up for: a second
abbrev pub most_late : ℕ
most_late = 1000000000

-- what is due now, with the time from which the next tick counts, if there is one yet, and the length of a tick.
-- Nothing is due until the tick has lasted, and then the tick. If it is late by more than a second, the clock was
-- delayed
abbrev pub beat_due : Option ℕ → ℕ → ℕ → Beat
beat_due None now tick = NotYet tick
beat_due (Some from) now tick =
    if nat_lt (now - from) tick then NotYet (tick - (now - from)) else
    if nat_lt most_late ((now - from) - tick) then Delayed ((now - from) - tick) else
    Tick

-- the time from which the next tick counts, after that: the time at which this tick was due, or now if the clock was
-- delayed
abbrev pub start_after : Option ℕ → ℕ → ℕ → ℕ
start_after None now tick = now
start_after (Some from) now tick =
    if nat_lt (now - from) tick then from else
    if nat_lt most_late ((now - from) - tick) then now else
    from + tick

-- what the pacer answers: a tick that is due, however late it is
abbrev pub pace_of : Beat → Pace
pace_of (NotYet left) = pace.NotYet
pace_of Tick = pace.Tick
pace_of (Delayed late) = pace.Tick
