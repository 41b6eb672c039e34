use Rattle.std.proofs.Common.{length}
use Rattle.dmr_pdu.proofs.bounded_list.BoundedList.clear.Given as goal

abbrev pub decreases-loop-self : goal.decreases-loop-self
decreases-loop-self g l = length l.self
