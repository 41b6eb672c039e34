use Rattle.std.proofs.Common.{length}
use Rattle.dmr_frames.proofs.table.+find_fault.Given as goal

abbrev pub decreases-find_fault : goal.decreases-find_fault
decreases-find_fault l = length l.fields.now
