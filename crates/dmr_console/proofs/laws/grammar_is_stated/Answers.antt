use Rattle.dmr_core.specs.declared.command.Argument.TheVariants as argument
use Rattle.dmr_core.specs.declared.command.CommandKind.TheVariants as kind
use Rattle.dmr_core.specs.CommandWords.{command_from}
use Rattle.dmr_console.proofs.GrammarLemmas.{no_number, one_number, two_numbers}
use Rattle.dmr_console.proofs.laws.grammar_is_stated.Goals as goal

pub returns-clause-no_number : goal.returns-clause-no_number
returns-clause-no_number c = λ words. (
  no_number (command_from kind.Status) words,
  no_number (command_from kind.Slots) words,
  no_number (command_from kind.Stay) words,
)

pub returns-clause-one_number : goal.returns-clause-one_number
returns-clause-one_number c = λ words. (
  one_number argument.FromRadio (command_from kind.Radios) words,
  one_number argument.Carrier (command_from kind.Calls) words,
  one_number argument.Line (command_from kind.Lines) words,
  one_number argument.Radio (command_from kind.Drop) words,
  one_number argument.Channel (command_from kind.Move) words,
)

pub returns-clause-two_numbers : goal.returns-clause-two_numbers
returns-clause-two_numbers c = two_numbers argument.Carrier argument.Slot (command_from kind.End)
