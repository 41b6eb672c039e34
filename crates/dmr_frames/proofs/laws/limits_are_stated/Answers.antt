use Rattle.dmr_frames.proofs.SpellingLemmas.{spelling_out-le}
use Rattle.dmr_frames.proofs.EachFrame.{spelling-le}
use Rattle.dmr_frames.proofs.laws.limits_are_stated.Goals as goal

pub returns-clause-from_carrier : goal.returns-clause-from_carrier
returns-clause-from_carrier c = spelling-le

pub returns-clause-to_carrier : goal.returns-clause-to_carrier
returns-clause-to_carrier c = spelling_out-le
