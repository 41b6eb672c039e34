use Rattle.std.proofs.Common.{vec_len}
use Rattle.dmr_desk.proofs.term.+split_works.Given as goal

abbrev pub decreases-split_works : goal.decreases-split_works
decreases-split_works g l = vec_len l.works
