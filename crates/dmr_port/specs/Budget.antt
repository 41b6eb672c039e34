-- The octets that a port returns to its link in a window of time.
use Rattle.std.specs.Prelude.{◌≡◌, ℕ, ◌+◌, ◌-◌, ◌≤◌, ◌⊎◌, nat_lt, if◌then◌else◌}

-- a window: the milliseconds at which it began, and the octets that were given in it
pub record Window : Type 0 where
  pub began : ℕ
  pub given : ℕ

-- a window that begins now, in which no octet was given
abbrev pub fresh_window : ℕ → Window
fresh_window now = record { began = now; given = 0 }

-- the window at a time: the same for 60 ms, and then a fresh one
abbrev pub window_at : Window → ℕ → Window
window_at window now = if nat_lt (now - window.began) 60 then window else fresh_window now

-- this number of octets was given, and counted, between these times: in the window, or in one that began then, at
-- least 60 ms after it. At most 512 are given in a window
pub record Gives (before : ℕ) (old : Window) (count : ℕ) (new : Window) (after : ℕ) : Type 0 where
  pub given : ((new.began ≡ old.began) × (old.given + count ≤ new.given))
      ⊎ ((old.began + 60 ≤ new.began) × (before ≤ new.began) × (new.began ≤ after)
      × (count ≤ new.given))
  pub within : new.given ≤ 512
