use Rattle.dmr_bptc.proofs.SyndromeLemmas.{lowest_line-before, lowest_line-fails}
use Rattle.dmr_bptc.proofs.syndromes.first_failing.Goals as goal

pub returns-clause-before : goal.returns-clause-before
returns-clause-before c = lowest_line-before c.args.syndromes c.requires c.ranges.syndromes.fits

pub returns-clause-fails : goal.returns-clause-fails
returns-clause-fails c = lowest_line-fails c.args.syndromes c.requires c.ranges.syndromes.fits
