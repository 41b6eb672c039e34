use Rattle.dmr_frames.proofs.FrameLaws.{readings-same, reads_all, reads_on, open-produces, spelling-produces, frames_from-append}
use Rattle.dmr_frames.proofs.FrameLaws.{rest_after_octets-append}
use Rattle.dmr_frames.proofs.laws.one_reading.Goals as goal

pub returns-clause-one : goal.returns-clause-one
returns-clause-one c = readings-same

pub returns-clause-found : goal.returns-clause-found
returns-clause-found c = reads_all

pub returns-clause-cut : goal.returns-clause-cut
returns-clause-cut c = λ rest a b. (frames_from-append rest a b, rest_after_octets-append rest a b)

pub returns-clause-more : goal.returns-clause-more
returns-clause-more c = reads_on

pub returns-clause-frame : goal.returns-clause-frame
returns-clause-frame c = spelling-produces

pub returns-clause-part : goal.returns-clause-part
returns-clause-part c = open-produces
