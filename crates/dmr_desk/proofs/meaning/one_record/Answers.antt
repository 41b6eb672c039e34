use Rattle.std.proofs.Common.{[]}
use Rattle.dmr_desk.proofs.RecordReadsAsOne.{RecordLaws, one_record, record_since, whole_record}
use Rattle.dmr_desk.proofs.meaning.one_record.Goals as goal

pub returns-clause-steps : goal.returns-clause-steps
returns-clause-steps c =
    let law = c.records_read.ensures in
    one_record (record { begun = law.begun; paused = law.paused; writing = law.writing; reads = law.reads })

pub returns-clause-since : goal.returns-clause-since
returns-clause-since c = λ m n past steps begun whole went stands before after.
    let law = c.records_read.ensures in
    let laws : RecordLaws = record { begun = law.begun; paused = law.paused; writing = law.writing; reads = law.reads } in
    record_since laws m.at.link.who past steps begun whole (went.orderly past stands) m.at.reported n.at.reported went.happens.port before
    after

pub returns-clause-whole : goal.returns-clause-whole
returns-clause-whole c = λ m n steps whole went stands before after.
    let law = c.records_read.ensures in
    let laws : RecordLaws = record { begun = law.begun; paused = law.paused; writing = law.writing; reads = law.reads } in
    whole_record laws m.at.link.who steps whole (went.orderly [] stands) m.at.reported n.at.reported went.happens.port before after
