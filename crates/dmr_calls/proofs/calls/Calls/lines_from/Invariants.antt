use Rattle.std.proofs.Common.{◌≡◌, ◌≤◌, length, take}
use Rattle.arrayvec.specs.ArrayVec.{array_vec_len}
use Rattle.dmr_calls.proofs.calls.Calls.lines_from.Given as goal

abbrev pub invariant-loop-line : goal.invariant-loop-line
invariant-loop-line l = record {
  rows : l.rows.items ≡ take l.line-index l.line-items;
  len : array_vec_len l.rows ≡ l.line-index;
  few : length l.line-items ≤ 16;
}
