-- Entries with keys.
use Rattle.std.specs.Prelude.{ℕ, ◌≤◌, List, [], ◌∷◌, Bool, if◌then◌else◌}
use Rattle.std.specs.List.{All, Contains}

-- the entries without the first that passes the test
abbrev pub without_first : {X : Type 0} → (X → Bool) → List X → List X
without_first test [] = []
without_first test (x ∷ xs) = if test x then xs else x ∷ without_first test xs

-- an entry with the least key from the number on
pub record IsLeastFrom {X : Type 0} (key_of : X → ℕ) (from : ℕ) (entries : List X)
    (least : X) : Type 0 where
  pub stands : Contains entries least
  pub reaches : from ≤ key_of least
  pub below : All (λ x. from ≤ key_of x → key_of least ≤ key_of x) entries
