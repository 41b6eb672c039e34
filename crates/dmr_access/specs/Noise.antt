-- The noise numbers: counts of bursts on the control slot that could not be read. The first counts those since the last
-- Poll of the control carrier, the next those between that Poll and the one before, and so on. There are 32, and none
-- while the control carrier is down.
use Rattle.std.specs.Prelude.{ℕ, ◌+◌, ◌-◌, min, List, [], ◌∷◌, take, replicate, sum, ◌≡◌, ◌≤◌, ◌⊎◌}
use Rattle.std.specs.Prelude.{length}
use Rattle.std.specs.List.{All}
use Rattle.dmr_plan.specs.declared.sections.CallSection.{CallSection}
use Rattle.dmr_access.specs.Limits.{polls_of_window, most_noises}

-- none, or 32 numbers of 0 to 15
abbrev pub AreNoiseNumbers : List ℕ → Type 0
AreNoiseNumbers noise =
    ((length noise ≡ 0) ⊎ (length noise ≡ polls_of_window)) × All (λ n. n ≤ most_noises) noise

-- the noise numbers when the control carrier comes up
unfoldable pub noise_at_up : List ℕ
noise_at_up = replicate polls_of_window 0

-- one more Noise since the last Poll; the number stays at 15
abbrev pub with_noise : List ℕ → List ℕ
with_noise [] = []
with_noise (n ∷ ns) = min most_noises (n + 1) ∷ ns

-- a Poll: a new number 0 comes first, and the oldest of the 32 is removed
abbrev pub with_poll : List ℕ → List ℕ
with_poll [] = []
with_poll (n ∷ ns) = 0 ∷ take (polls_of_window - 1) (n ∷ ns)

-- the backoff that is sent: the plan's lowest plus one for each Noise that counts, up to the plan's highest
abbrev pub backoff_of : CallSection → List ℕ → ℕ
backoff_of calls noise = min calls.backoff_high (calls.backoff_low + sum noise)
