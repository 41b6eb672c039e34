-- The cells of a list of bounded length: its entries, and then blanks. Only the model of `BoundedList` names these
-- definitions; nothing above depends on them.
use Rattle.std.specs.Prelude.{◌≡◌, ℕ, ◌-◌, ◌≤◌, List, ◌++◌, length, take, drop, replicate}
use Rattle.std.proofs.Common.{arith, take-append-drop, length-take-le}

-- this number of cells: first the entries, then blanks
abbrev pub with_padding : {X : Type 0} → ℕ → X → List X → List X
with_padding cells blank entries = entries ++ replicate (cells - length entries) blank

-- cells that are blank after the first `count` are those, padded
pub with_padding-take : {X : Type 0} (n : ℕ) (blank : X) (count : ℕ) (cells : List X) → count ≤ n
    → length cells ≡ n → drop count cells ≡ replicate (n - count) blank
    → with_padding n blank (take count cells) ≡ cells
with_padding-take n blank count cells within len rest =
    let taken : length (take count cells) ≡ count =
    length-take-le count cells (omega (arith, within, len)) in
    rw (taken, ← rest) (take-append-drop count cells)
