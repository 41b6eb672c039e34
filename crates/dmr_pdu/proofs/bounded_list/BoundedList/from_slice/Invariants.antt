use Rattle.std.proofs.Common.{◌≡◌, length, take}
use Rattle.dmr_pdu.proofs.bounded_list.BoundedList.from_slice.Given as goal

abbrev pub invariant-loop-entry : goal.invariant-loop-entry
invariant-loop-entry g l = record {
  entries : l.list ≡ take l.entry-index l.entries;
  len : length l.list ≡ l.entry-index;
}
