-- The result of each octet, for the open line before it.
use Rattle.std.specs.Prelude.{ℕ, ◌==◌, List, [], ◌∷◌, ◌++◌, if◌then◌else◌}
use Rattle.std.specs.List.{flat_map, fold, scan}
use Rattle.dmr_console.specs.declared.line_cutter.LineStep.{LineStep}
use Rattle.dmr_console.specs.declared.line_cutter.LineStep.TheVariants.{Need}
use Rattle.dmr_console.specs.Lines.{line_step_of, first_octets_of_line}

-- the result of an octet
abbrev pub line_step_at : List ℕ → ℕ → LineStep
line_step_at begun octet = if octet == 10 then line_step_of begun else Need

-- the open line after an octet
abbrev pub open_line_after_octet : List ℕ → ℕ → List ℕ
open_line_after_octet begun octet =
    if octet == 10 then [] else first_octets_of_line (begun ++ octet ∷ [])

-- the line of a result, if it has one
abbrev pub line_produced : LineStep → List LineStep
line_produced Need = []
line_produced line = line ∷ []

-- the lines that octets produce
abbrev pub line_steps_from : List ℕ → List ℕ → List LineStep
line_steps_from begun octets =
    flat_map line_produced (scan open_line_after_octet line_step_at begun octets)

-- the open line after octets
abbrev pub open_line_after : List ℕ → List ℕ → List ℕ
open_line_after begun octets = fold open_line_after_octet begun octets
