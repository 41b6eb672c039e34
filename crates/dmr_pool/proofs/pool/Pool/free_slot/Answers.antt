use Rattle.std.proofs.Common.{subst}
use Rattle.std.specs.Prelude.{MatchOption}
use Rattle.dmr_pool.specs.Slots.{Slots}
use Rattle.dmr_pool.specs.Free.{lowest_free, HasNoFreeSlot, IsLowestFree}
use Rattle.dmr_pool.proofs.FreeLemmas.{lowest_free-lowest, one_lowest}
use Rattle.dmr_pool.proofs.MarkLemmas.{marked_lowest}
use Rattle.dmr_pool.proofs.pool.Pool.free_slot.Goals as goal

found_lowest : (c : goal.After-lowest) → MatchOption c.lowest.result (HasNoFreeSlot c.args.self.now) (IsLowestFree c.args.self.now)
found_lowest c = subst (λ (slots : Slots). MatchOption c.lowest.result (HasNoFreeSlot slots) (IsLowestFree slots)) c.self.view_is
    (marked_lowest c.self.inside.free.bits _ c.lowest.result c.self.invariant c.lowest.ensures)

pub returns-clause-gives : goal.returns-clause-gives
returns-clause-gives c = one_lowest c.args.self.now c.lowest.result (lowest_free c.args.self.now) (found_lowest c)
    (lowest_free-lowest c.args.self.now)

pub returns-clause-lowest : goal.returns-clause-lowest
returns-clause-lowest c = found_lowest c
