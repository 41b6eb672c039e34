-- Times of day. A term has the time at which it ended, and the length of its ticks.
use Rattle.std.specs.Prelude.{ℕ, ◌-◌, ◌*◌}
use Rattle.dmr_keeper.specs.declared.time.TermTime.{TermTime}

-- the time of day of a tick, if the last tick of the term has the number `last`. Each tick from it to the last is one
-- length of a tick before the end of the term
abbrev pub time_of_tick : TermTime → ℕ → ℕ → ℕ
time_of_tick time last tick = time.ended - (last - tick) * time.tick_ms
