use Rattle.std.proofs.Common.{length}
use Rattle.dmr_frames.proofs.table.+add_lengths.Given as goal

abbrev pub decreases-add_lengths : goal.decreases-add_lengths
decreases-add_lengths l = length l.fields.now
