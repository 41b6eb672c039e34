use Rattle.dmr_frames.proofs.OneSpelling.{spelled_once}
use Rattle.dmr_frames.proofs.SpellingLemmas.{spelled_out_once, length-spelling_out}
use Rattle.dmr_frames.proofs.EachFrame.{length-spelling}
use Rattle.dmr_frames.proofs.laws.spellings_are_prefix_free.Goals as goal

pub returns-clause-from_carrier : goal.returns-clause-from_carrier
returns-clause-from_carrier c = spelled_once

pub returns-clause-to_carrier : goal.returns-clause-to_carrier
returns-clause-to_carrier c = spelled_out_once

pub returns-clause-length_in : goal.returns-clause-length_in
returns-clause-length_in c = length-spelling

pub returns-clause-length_out : goal.returns-clause-length_out
returns-clause-length_out c = length-spelling_out
