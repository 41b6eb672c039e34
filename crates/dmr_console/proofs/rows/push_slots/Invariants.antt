use Rattle.std.proofs.Common.{◌≡◌, ◌≤◌, ◌++◌, ◌+◌, ◌*◌, take}
use Rattle.std.specs.List.{flat_map}
use Rattle.arrayvec.specs.ArrayString.{array_string_len}
use Rattle.dmr_console.specs.Texts.{slot_row}
use Rattle.dmr_console.proofs.rows.push_slots.Given as goal

abbrev pub invariant-loop-slot : goal.invariant-loop-slot
invariant-loop-slot l = record {
  bytes : l.text.bytes ≡ l.initial.text.bytes ++ flat_map slot_row (take l.slot-index l.slots);
  len : array_string_len l.text ≤ array_string_len l.initial.text + 19 * l.slot-index;
}
