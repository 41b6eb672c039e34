use Rattle.std.proofs.Common.{◌≡◌, ◌++◌, ◌+◌, length, take, vec_len, vec_capacity}
use Rattle.dmr_link.proofs.outputs.append_octets.Given as goal

abbrev pub invariant-loop-eight : goal.invariant-loop-eight
invariant-loop-eight l = record {
  items : l.longer.items ++ l.rest ≡ l.initial.longer.items ++ l.octets;
  len : vec_len l.longer + length l.rest ≡ vec_len l.initial.longer + length l.octets;
  room : vec_capacity l.longer ≡ vec_capacity l.initial.longer;
}

abbrev pub decreases-loop-eight : goal.decreases-loop-eight
decreases-loop-eight l = length l.rest

abbrev pub invariant-loop-octet : goal.invariant-loop-octet
invariant-loop-octet l = record {
  items : l.longer.items ≡ l.initial.longer.items ++ take l.octet-index l.octet-items;
  len : vec_len l.longer ≡ vec_len l.initial.longer + l.octet-index;
  room : vec_capacity l.longer ≡ vec_capacity l.initial.longer;
}
