use Rattle.std.proofs.Common.{length}
use Rattle.dmr_desk.proofs.term.+first_term_over.Given as goal

abbrev pub decreases-first_term_over : goal.decreases-first_term_over
decreases-first_term_over l = length l.ends.now
