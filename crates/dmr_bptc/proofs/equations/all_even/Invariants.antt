use Rattle.std.proofs.Common.{◌≡◌, ◌<◌, ◌%◌, ℕ, [], get_or}
use Rattle.dmr_bits.specs.Packed.{set_under}
use Rattle.dmr_bptc.proofs.equations.all_even.Given as goal

abbrev pub invariant-loop-mask : goal.invariant-loop-mask
invariant-loop-mask l = (e : ℕ) → e < l.mask-index → set_under l.word (get_or l.masks e []) % 2 ≡ 0
