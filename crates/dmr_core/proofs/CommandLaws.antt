-- The table of commands, as proofs of other crates may cite it.
use Rattle.std.proofs.Common.{◌≡◌, ℕ, ◌<◌, ◌≤◌, Bool, true, ◌&&◌, length, get_or, Some, refl, arith}
use Rattle.std.specs.Prelude.{nat_le, nat_lt}
use Rattle.std.specs.List.{list_all}
use Rattle.dmr_core.specs.declared.command.Argument.{Argument}
use Rattle.dmr_core.specs.declared.command.Argument.TheVariants as argument
use Rattle.dmr_core.specs.declared.command.Command.{Command}
use Rattle.dmr_core.specs.declared.command.Command.TheVariants as command
use Rattle.dmr_core.specs.CommandWords.{command_from, kind_named, kind_of, numbers_of, range_of, row_of}

-- a small letter
abbrev pub is_letter : ℕ → Bool
is_letter octet = nat_le 97 octet && nat_lt octet 123

-- a command is what its name and its numbers mean
pub record IsOfWords (c : Command) : Type 0 where
  pub named : kind_named (row_of c).name ≡ Some (kind_of c)
  pub meant : command_from (kind_of c) (get_or (numbers_of c) 0 0) (get_or (numbers_of c) 1 0) ≡ c
  pub as_many : length (numbers_of c) ≡ length (row_of c).arguments
  pub few : length (numbers_of c) ≤ 2
  pub some : 0 < length (row_of c).name
  pub short : length (row_of c).name ≤ 8
  pub letters : list_all is_letter (row_of c).name ≡ true

-- each command is, whatever its numbers: the last case is one for each of the others
pub of_words : (c : Command) → IsOfWords c
of_words command.Status =
    record { named = refl; meant = refl; as_many = refl; few = omega arith; some = omega arith; short = omega arith; letters = refl }
of_words _ =
    record { named = refl; meant = refl; as_many = refl; few = omega arith; some = omega arith; short = omega arith; letters = refl }

-- a number of a command has at most eight digits
pub most_of : (a : Argument) → (range_of a).1 < 100000000
most_of argument.FromRadio = omega arith
most_of _ = omega arith
