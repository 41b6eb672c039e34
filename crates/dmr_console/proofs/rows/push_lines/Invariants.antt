use Rattle.std.proofs.Common.{◌≡◌, ◌≤◌, ◌++◌, ◌+◌, ◌*◌, drop}
use Rattle.std.specs.List.{enumerate_from, flat_map}
use Rattle.arrayvec.specs.ArrayString.{array_string_len}
use Rattle.dmr_console.specs.Texts.{line_row}
use Rattle.dmr_console.proofs.rows.push_lines.Given as goal

abbrev pub invariant-loop-line : goal.invariant-loop-line
invariant-loop-line l = record {
  bytes : l.text.bytes ++ flat_map line_row (enumerate_from l.place (drop l.line-index l.lines)) ≡ l.initial.text.bytes ++ flat_map line_row
      (enumerate_from l.initial.place l.lines);
  len : array_string_len l.text ≤ array_string_len l.initial.text + 37 * l.line-index;
  place : l.place ≡ l.initial.place + l.line-index;
}
