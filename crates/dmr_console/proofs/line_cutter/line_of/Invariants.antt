use Rattle.std.proofs.Common.{◌≡◌, take}
use Rattle.arrayvec.specs.ArrayVec.{array_vec_len}
use Rattle.dmr_console.proofs.line_cutter.line_of.Given as goal

abbrev pub invariant-loop-octet : goal.invariant-loop-octet
invariant-loop-octet l = record {
  items : l.line.items ≡ take l.octet-index l.octet-items;
  len : array_vec_len l.line ≡ l.octet-index;
}
