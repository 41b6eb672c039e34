use Rattle.dmr_console.proofs.ConsoleLaws.{line_steps-append, open_line-append}
use Rattle.dmr_console.proofs.LineLemmas.{lines_whole, rest_whole, lines_in_pieces}
use Rattle.dmr_console.proofs.laws.lines_in_any_cutting.Goals as goal

pub returns-clause-whole : goal.returns-clause-whole
returns-clause-whole c = λ octets. (lines_whole octets, rest_whole octets)

pub returns-clause-cut : goal.returns-clause-cut
returns-clause-cut c = λ begun a b. (line_steps-append begun a b, open_line-append begun a b)

pub returns-clause-pieces : goal.returns-clause-pieces
returns-clause-pieces c = lines_in_pieces
