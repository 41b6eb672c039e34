use Rattle.std.proofs.Common.{◌≡◌, ◌≤◌, ◌++◌, ◌+◌, ◌*◌, take}
use Rattle.std.specs.List.{flat_map}
use Rattle.arrayvec.specs.ArrayString.{array_string_len}
use Rattle.dmr_console.specs.Texts.{radio_row}
use Rattle.dmr_console.proofs.rows.push_radios.Given as goal

abbrev pub invariant-loop-radio : goal.invariant-loop-radio
invariant-loop-radio l = record {
  bytes : l.text.bytes ≡ l.initial.text.bytes ++ flat_map radio_row (take l.radio-index l.radios);
  len : array_string_len l.text ≤ array_string_len l.initial.text + 15 * l.radio-index;
}
