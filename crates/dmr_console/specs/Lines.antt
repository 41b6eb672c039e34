-- Lines of a stream of octets.
use Rattle.std.specs.Prelude.{◌≢◌, ◌≤◌, ℕ, ◌==◌, ◌+◌, ◌-◌, All, List, [], length, take, map}
use Rattle.std.specs.Prelude.{slice_index, slice_index_or, if◌then◌else◌, nat_lt}
use Rattle.std.specs.List.{slice_split}
use Rattle.dmr_console.specs.Limits.{longest_line}
use Rattle.dmr_console.specs.declared.line_cutter.LineStep.{LineStep}
use Rattle.dmr_console.specs.declared.line_cutter.LineStep.TheVariants.{Line, TooLong}

-- the parts between LFs: each line, and the open part after the last LF
abbrev pub parts_of : List ℕ → List (List ℕ)
parts_of octets = slice_split (λ octet. octet == 10) octets

-- all parts but the last
abbrev pub all_but_last : List (List ℕ) → List (List ℕ)
all_but_last parts = take (length parts - 1) parts

-- the last part of a list of parts
abbrev pub last_of : List (List ℕ) → List ℕ
last_of parts = slice_index_or parts (length parts - 1) []

-- octets without a CR at their end; only one CR is removed
abbrev pub without_cr : List ℕ → List ℕ
without_cr octets =
    if slice_index octets (length octets - 1) == 13 then take (length octets - 1) octets else octets

-- the line of these octets before an LF: too long, if there are more than a line can have
abbrev pub line_step_of : List ℕ → LineStep
line_step_of octets =
    if nat_lt longest_line (length octets) then TooLong
    else Line (record { items = without_cr octets })

-- the lines of a stream: one for each LF
abbrev pub lines_in : List ℕ → List LineStep
lines_in octets = map line_step_of (all_but_last (parts_of octets))

-- the octets after the last LF
abbrev pub open_in : List ℕ → List ℕ
open_in octets = last_of (parts_of octets)

-- the octets of an open line that a cutter keeps: at most one more than a line can have
abbrev pub first_octets_of_line : List ℕ → List ℕ
first_octets_of_line octets = take (longest_line + 1) octets

-- a cutter keeps no LF, and no more octets than the limit
pub record IsOpenLine (begun : List ℕ) : Type 0 where
  pub no_end : All (λ octet. octet ≢ 10) begun
  pub few : length begun ≤ longest_line + 1
