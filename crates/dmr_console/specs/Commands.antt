-- The commands of lines.
use Rattle.std.specs.Prelude.{ℕ, List, [], ◌∷◌, Option, Some, None, option_map, slice_index}
use Rattle.std.specs.Option.{option_and_then}
use Rattle.dmr_core.specs.declared.command.Argument.{Argument}
use Rattle.dmr_core.specs.declared.command.Command.{Command}
use Rattle.dmr_core.specs.declared.command.CommandKind.{CommandKind}
use Rattle.dmr_core.specs.CommandWords.{command_from, command_row, kind_named, range_of}
use Rattle.dmr_console.specs.Words.{words_of_line, short_number_within}

-- the number of a word, if it is in the range of an argument
abbrev pub number_as : Argument → List ℕ → Option ℕ
number_as argument word = short_number_within (range_of argument).0 (range_of argument).1 word

-- the numbers of words, one for each argument
abbrev pub numbers_in : List Argument → List (List ℕ) → Option (List ℕ)
numbers_in [] [] = Some []
numbers_in (argument ∷ arguments) (word ∷ words) =
    option_and_then (λ n. option_map (λ ns. n ∷ ns) (numbers_in arguments words))
    (number_as argument word)
numbers_in arguments words = None

-- the command of a kind, and of the words after its name
abbrev pub command_of_kind : List (List ℕ) → CommandKind → Option Command
command_of_kind words kind =
    option_map (λ ns. command_from kind (slice_index ns 0) (slice_index ns 1))
    (numbers_in (command_row kind).arguments words)

-- the command of a first word and of the words that follow it
abbrev pub command_by : List ℕ → List (List ℕ) → Option Command
command_by name words = option_and_then (command_of_kind words) (kind_named name)

-- the command of words
abbrev pub command_of_words : List (List ℕ) → Option Command
command_of_words [] = None
command_of_words (name ∷ words) = command_by name words

-- the command of a line
abbrev pub command_of : List ℕ → Option Command
command_of line = command_of_words (words_of_line line)
