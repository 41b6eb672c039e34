use Rattle.std.proofs.Common.{◌≡◌, ◌++◌, ◌+◌, take, vec_len, vec_capacity}
use Rattle.dmr_link.proofs.outputs.append_eight.Given as goal

abbrev pub invariant-loop-octet : goal.invariant-loop-octet
invariant-loop-octet l = record {
  items : l.text.items ≡ l.initial.text.items ++ take l.octet-index l.octet-items;
  len : vec_len l.text ≡ vec_len l.initial.text + l.octet-index;
  room : vec_capacity l.text ≡ vec_capacity l.initial.text;
}
