use Rattle.std.proofs.Common.{◌≡◌, ◌≤◌, ◌++◌, ◌+◌, ◌*◌, take}
use Rattle.std.specs.List.{flat_map}
use Rattle.arrayvec.specs.ArrayString.{array_string_len}
use Rattle.dmr_console.specs.Texts.{call_row}
use Rattle.dmr_console.proofs.rows.push_calls.Given as goal

abbrev pub invariant-loop-call : goal.invariant-loop-call
invariant-loop-call l = record {
  bytes : l.text.bytes ≡ l.initial.text.bytes ++ flat_map call_row (take l.call-index l.calls);
  len : array_string_len l.text ≤ array_string_len l.initial.text + 40 * l.call-index;
}
