use Rattle.std.proofs.Common.{◌≡◌, drop}
use Rattle.std.specs.Prelude.{nat_eq}
use Rattle.std.specs.Cmp.Lexicographic.{pointwise}
use Rattle.dmr_access.proofs.access.same_numbers.Given as goal

abbrev pub invariant-loop-index : goal.invariant-loop-index
invariant-loop-index l = pointwise nat_eq (drop l.index l.one.items) (drop l.index l.other.items)
    ≡ pointwise nat_eq l.one.items l.other.items
