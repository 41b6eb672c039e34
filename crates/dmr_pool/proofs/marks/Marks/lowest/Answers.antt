use Rattle.std.proofs.Common.{arith, subst, sym}
use Rattle.dmr_pdu.specs.declared.slots.Slot.{Slot}
use Rattle.dmr_pool.specs.Marks.{IsLowestBit}
use Rattle.dmr_pool.proofs.BitLemmas.{lowest_set}
use Rattle.dmr_pool.proofs.marks.Marks.lowest.Goals as goal

pub returns : goal.returns
returns c = subst (λ (s : Slot). IsLowestBit c.args.self.now.bits s) (sym c.at.ensures)
    (lowest_set c.args.self.now.bits (omega arith) c.if-self-eq0.false)
