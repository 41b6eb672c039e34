use Rattle.dmr_console.proofs.LineLemmas.{line_before_lf, open_without_lf}
use Rattle.dmr_console.proofs.laws.lines_precede_their_ends.Goals as goal

pub returns-clause-line : goal.returns-clause-line
returns-clause-line c = line_before_lf

pub returns-clause-rest : goal.returns-clause-rest
returns-clause-rest c = open_without_lf
