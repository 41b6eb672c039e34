use Rattle.std.proofs.Common.{◌≡◌, ◌<◌, ◌^◌, drop}
use Rattle.std.specs.Str.{all_ascii_digits}
use Rattle.std.specs.Str.Parse.{digits_value, digits_value_after}
use Rattle.dmr_console.proofs.words.number_in.Given as goal

abbrev pub invariant-loop-octet : goal.invariant-loop-octet
invariant-loop-octet l = record {
  value : digits_value_after 10 l.number (drop l.octet-index l.word) ≡ digits_value 10 l.word;
  digits : all_ascii_digits (drop l.octet-index l.word) ≡ all_ascii_digits l.word;
  small : l.number < 10 ^ l.octet-index;
}
