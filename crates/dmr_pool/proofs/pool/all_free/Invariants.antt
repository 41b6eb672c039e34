use Rattle.std.proofs.Common.{◌≡◌, ◌<◌, ℕ}
use Rattle.dmr_pool.specs.Slots.{slot_at}
use Rattle.dmr_pool.specs.Free.{is_free}
use Rattle.dmr_pool.specs.Grants.{slots_with}
use Rattle.dmr_pool.specs.Marks.{has_bit}
use Rattle.dmr_pool.proofs.pool.all_free.Given as goal

abbrev pub invariant-loop-place : goal.invariant-loop-place
invariant-loop-place l =
    (k : ℕ) → k < l.place → has_bit l.free.bits k ≡ is_free (slots_with l.outboxes l.up l.held) (slot_at k)
