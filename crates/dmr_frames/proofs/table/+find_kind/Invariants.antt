use Rattle.std.proofs.Common.{length}
use Rattle.dmr_frames.proofs.table.+find_kind.Given as goal

abbrev pub decreases-find_kind : goal.decreases-find_kind
decreases-find_kind l = length l.kinds.now
