-- Lines: a list in the order in which they were added.
use Rattle.std.specs.Prelude.{ℕ, List, [], ◌∷◌, ◌++◌, Bool, not, ◌==◌, ◌&&◌, nat_le, nat_lt, length}
use Rattle.std.specs.Prelude.{filter, find, take, drop, Option, slice_get, if◌then◌else◌}
use Rattle.std.specs.List.{list_any}
use Rattle.dmr_calls.specs.declared.line.Line.{Line}
use Rattle.dmr_calls.specs.Limits.{most_lines, most_listed}

-- the lines with one more at the end, if fewer than 32 are active
abbrev pub with_line : List Line → Line → List Line
with_line lines line = if nat_le most_lines (length lines) then lines else lines ++ line ∷ []

-- the lines of other sources
abbrev pub without_line : ℕ → List Line → List Line
without_line source lines = filter (λ l. not (l.source == source)) lines

-- the line that has waited longest
abbrev pub first_line : List Line → Option Line
first_line lines = slice_get lines 0

-- at most 16 lines from a place on, counted from 0
abbrev pub page_of_lines : List Line → ℕ → List Line
page_of_lines lines place = take most_listed (drop place lines)

-- there is a line
abbrev pub has_lines : List Line → Bool
has_lines lines = nat_lt 0 (length lines)

-- the first line of a radio
abbrev pub line_of : List Line → ℕ → Option Line
line_of lines source = find (λ l. l.source == source) lines

-- the first individual line to a radio
abbrev pub line_to : List Line → ℕ → Option Line
line_to lines target = find (λ l. not l.group && (l.target == target)) lines

-- there is a line to the talkgroup
abbrev pub has_group_line : List Line → ℕ → Bool
has_group_line lines group = list_any (λ l. l.group && (l.target == group)) lines

-- the source has a line to the talkgroup
abbrev pub has_own_group_line : List Line → ℕ → ℕ → Bool
has_own_group_line lines source group =
    list_any (λ l. (l.source == source) && (l.group && (l.target == group))) lines

-- the source has an individual line to the target
abbrev pub has_own_line : List Line → ℕ → ℕ → Bool
has_own_line lines source target =
    list_any (λ l. (l.source == source) && (not l.group && (l.target == target))) lines
