-- The words of an operator's commands (this project's profile).
use Rattle.std.specs.Prelude.{ℕ, ◌≤◌, Bool, true, false, List, [], ◌∷◌, ◌++◌, Option, find, codes}
use Rattle.std.specs.Prelude.{decimal}
use Rattle.std.specs.List.{flat_map}
use Rattle.std.specs.Str.{bytes_eq}
use Rattle.dmr_calls.specs.Limits.{most_lines}
use Rattle.dmr_core.specs.declared.command.Argument.{Argument}
use Rattle.dmr_core.specs.declared.command.Argument.TheVariants as argument
use Rattle.dmr_core.specs.declared.command.Command.{Command}
use Rattle.dmr_core.specs.declared.command.Command.TheVariants as command
use Rattle.dmr_core.specs.declared.command.CommandKind.{CommandKind}
use Rattle.dmr_core.specs.declared.command.CommandKind.TheVariants as kind

-- the least and the greatest number of an argument
abbrev pub range_of : Argument → ℕ × ℕ
range_of argument.FromRadio = (0, 16777215)
range_of argument.Radio = (1, 16777215)
range_of argument.Carrier = (0, 15)
range_of argument.Slot = (0, 1)
range_of argument.Line = (1, most_lines)
range_of argument.Channel = (1, 4094)

-- a row of the table of commands: the first word, the numbers that follow it, whether the command changes the site, and
-- whether it may end calls
pub record Row : Type 0 where
  pub name : List ℕ
  pub arguments : List Argument
  pub changes_site : Bool
  pub ends_calls : Bool

-- makes a row of its parts
abbrev pub row : List ℕ → List Argument → Bool → Bool → Row
row name arguments changes_site ends_calls = record {
  name = name;
  arguments = arguments;
  changes_site = changes_site;
  ends_calls = ends_calls;
}

-- the table of commands
abbrev pub command_row : CommandKind → Row
command_row kind.Status = row (codes "status") [] false false
command_row kind.Radios = row (codes "radios") (argument.FromRadio ∷ []) false false
command_row kind.Calls = row (codes "calls") (argument.Carrier ∷ []) false false
command_row kind.Lines = row (codes "lines") (argument.Line ∷ []) false false
command_row kind.Slots = row (codes "slots") [] false false
command_row kind.Drop = row (codes "drop") (argument.Radio ∷ []) true true
command_row kind.End = row (codes "end") (argument.Carrier ∷ argument.Slot ∷ []) true true
command_row kind.Move = row (codes "move") (argument.Channel ∷ []) true false
command_row kind.Stay = row (codes "stay") [] true false

-- the kinds of commands
abbrev pub kinds : List CommandKind
kinds =
    kind.Status ∷ kind.Radios ∷ kind.Calls ∷ kind.Lines ∷ kind.Slots ∷ kind.Drop ∷ kind.End
    ∷ kind.Move ∷ kind.Stay ∷ []

-- the kind of a command, and its numbers in the order of its words
abbrev pub parts_of : Command → CommandKind × List ℕ
parts_of command.Status = (kind.Status, [])
parts_of (command.Radios radio) = (kind.Radios, radio ∷ [])
parts_of (command.Calls carrier) = (kind.Calls, carrier ∷ [])
parts_of (command.Lines place) = (kind.Lines, place ∷ [])
parts_of command.Slots = (kind.Slots, [])
parts_of (command.Drop radio) = (kind.Drop, radio ∷ [])
parts_of (command.End carrier slot) = (kind.End, carrier ∷ slot ∷ [])
parts_of (command.Move channel) = (kind.Move, channel ∷ [])
parts_of command.Stay = (kind.Stay, [])

abbrev pub kind_of : Command → CommandKind
kind_of c = (parts_of c).0

abbrev pub numbers_of : Command → List ℕ
numbers_of c = (parts_of c).1

-- the command of a kind and of its first and second number, if it has them
abbrev pub command_from : CommandKind → ℕ → ℕ → Command
command_from kind.Status first second = command.Status
command_from kind.Radios first second = command.Radios first
command_from kind.Calls first second = command.Calls first
command_from kind.Lines first second = command.Lines first
command_from kind.Slots first second = command.Slots
command_from kind.Drop first second = command.Drop first
command_from kind.End first second = command.End first second
command_from kind.Move first second = command.Move first
command_from kind.Stay first second = command.Stay

-- the row of a command
abbrev pub row_of : Command → Row
row_of c = command_row (kind_of c)

-- the kind of the command with this first word
abbrev pub kind_named : List ℕ → Option CommandKind
kind_named name = find (λ k. bytes_eq name (command_row k).name) kinds

-- a number after a space
abbrev pub number_text : ℕ → List ℕ
number_text n = 32 ∷ decimal n

-- the words of a command
abbrev pub command_text : Command → List ℕ
command_text c = (row_of c).name ++ flat_map number_text (numbers_of c)

-- a number is in the range of an argument
abbrev pub IsNumberOf : Argument → ℕ → Type 0
IsNumberOf a n = ((range_of a).0 ≤ n) × (n ≤ (range_of a).1)

-- the first of these numbers are in the ranges of these arguments
abbrev pub AreNumbersOf : List Argument → List ℕ → Type 0
AreNumbersOf [] numbers = Unit {0}
AreNumbersOf (a ∷ others) (n ∷ numbers) = IsNumberOf a n × AreNumbersOf others numbers
AreNumbersOf (a ∷ others) [] = ⊥

-- a line can mean the command: its numbers are in the ranges of its words
abbrev pub IsSaid : Command → Type 0
IsSaid c = AreNumbersOf (row_of c).arguments (numbers_of c)
