-- How a gate is passed, as its record has it.
use Rattle.std.specs.Prelude.{◌≡◌, Bool, true, false, List, ◌++◌, Option, Some}

-- a gate is entered, is found shut, or is left
pub data Passage : Type 0 where
  Entered : Passage
  Shut : Passage
  Left : Passage

-- the passage that `enter` makes when it returns this
abbrev pub of_enter : Bool → Passage
of_enter true = Entered
of_enter false = Shut

-- these passages were made between two times: a record that the gate has afterwards is the one that it had before,
-- followed by these
pub record Passes (before : Option (List Passage)) (passages : List Passage)
    (after : Option (List Passage)) : Type 0 where
  pub follows : (whole : List Passage) → after ≡ Some whole
      → (begun : List Passage) × (before ≡ Some begun) × (whole ≡ begun ++ passages)
