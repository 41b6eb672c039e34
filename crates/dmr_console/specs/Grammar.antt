-- The grammar of commands (this project's profile), each command by itself.
use Rattle.std.specs.Prelude.{ℕ, List, [], ◌∷◌, Option, Some, None, option_map}
use Rattle.std.specs.Option.{option_and_then}
use Rattle.dmr_core.specs.declared.command.Command.{Command}
use Rattle.dmr_console.specs.Words.{short_number_within}

-- a command that is a word alone: no word follows
abbrev pub alone : Command → List (List ℕ) → Option Command
alone command [] = Some command
alone command words = None

-- a command with one number, from `least` to `most`
abbrev pub with_number : (ℕ → Command) → ℕ → ℕ → List (List ℕ) → Option Command
with_number command least most (word ∷ []) =
    option_map command (short_number_within least most word)
with_number command least most words = None

-- a command with two numbers: the first from `least` to `most`, the second from `low` to `high`
abbrev pub with_numbers : (ℕ → ℕ → Command) → ℕ → ℕ → ℕ → ℕ → List (List ℕ) → Option Command
with_numbers command least most low high (first ∷ second ∷ []) =
    option_and_then (λ n. option_map (command n) (short_number_within low high second))
    (short_number_within least most first)
with_numbers command least most low high words = None
