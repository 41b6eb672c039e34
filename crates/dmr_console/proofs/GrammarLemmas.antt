-- The table of commands has its grammar: what kinds with no, one and two arguments make of words.
use Rattle.std.proofs.Common.{◌≡◌, ℕ, List, [], ◌∷◌, Option, Some, None, option_map, get_or, refl, ap, ◌∙◌}
use Rattle.std.specs.Option.{option_and_then}
use Rattle.dmr_core.specs.declared.command.Argument.{Argument}
use Rattle.dmr_core.specs.declared.command.Command.{Command}
use Rattle.dmr_core.specs.CommandWords.{range_of}
use Rattle.dmr_console.specs.Commands.{number_as, numbers_in}
use Rattle.dmr_console.specs.Grammar.{alone, with_number, with_numbers}

-- the command of these numbers, if there are
abbrev made : (ℕ → ℕ → Command) → Option (List ℕ) → Option Command
made command numbers = option_map (λ ns. command (get_or ns 0 0) (get_or ns 1 0)) numbers

-- a number, and the numbers after it
abbrev onto : Option ℕ → Option (List ℕ) → Option (List ℕ)
onto first others = option_and_then (λ n. option_map (λ ns. n ∷ ns) others) first

nothing_after : (first : Option ℕ) → onto first None ≡ None
nothing_after None = refl
nothing_after (Some n) = refl

pub no_number : (command : ℕ → ℕ → Command) (words : List (List ℕ)) → made command (numbers_in [] words) ≡ alone (command 0 0) words
no_number command [] = refl
no_number command (word ∷ words) = refl

pub one_number : (a : Argument) (command : ℕ → ℕ → Command) (words : List (List ℕ))
    → made command (numbers_in (a ∷ []) words) ≡ with_number (λ n. command n 0) (range_of a).0 (range_of a).1 words
one_number a command [] = refl
one_number a command (word ∷ []) = by (number_as a word)
  where
    by : (n : Option ℕ) → made command (onto n (Some [])) ≡ option_map (λ k. command k 0) n
    by None = refl
    by (Some n) = refl
one_number a command (word ∷ other ∷ words) = ap (made command) (nothing_after (number_as a word))

pub two_numbers : (a b : Argument) (command : ℕ → ℕ → Command) (words : List (List ℕ))
    → made command (numbers_in (a ∷ b ∷ []) words) ≡ with_numbers command (range_of a).0 (range_of a).1 (range_of b).0 (range_of b).1 words
two_numbers a b command [] = refl
two_numbers a b command (word ∷ []) = ap (made command) (nothing_after (number_as a word))
two_numbers a b command (first ∷ second ∷ []) = by (number_as a first) (number_as b second)
  where
    by : (m n : Option ℕ) → made command (onto m (onto n (Some []))) ≡ option_and_then (λ k. option_map (command k) n) m
    by None None = refl
    by None (Some n) = refl
    by (Some m) None = refl
    by (Some m) (Some n) = refl
two_numbers a b command (first ∷ second ∷ third ∷ words) =
    ap (λ ns. made command (onto (number_as a first) ns)) (nothing_after (number_as b second))
    ∙ ap (made command) (nothing_after (number_as a first))
