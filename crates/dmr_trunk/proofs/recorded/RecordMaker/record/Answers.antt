use Rattle.std.proofs.Common.{◌≡◌, sym, ◌∙◌, subst, ap, IsSomeAnd, Option}
use Rattle.dmr_keeper.specs.declared.time.TimedRecords.{TimedRecords}
use Rattle.dmr_keeper.specs.Carried.{Carry, carried_after}
use Rattle.dmr_keeper.specs.Records.{AreRecords}
use Rattle.dmr_keeper.specs.Recording.{Recording}
use Rattle.dmr_trunk.specs.Stored.{IsRecordOf}
use Rattle.dmr_trunk.proofs.StoredLemmas.{is_record_of}
use Rattle.dmr_trunk.proofs.recorded.RecordMaker.record.Goals as goal

-- the recorder was as it is at first, since it had added nothing
pub returns-in-Ok : goal.returns-in-Ok
returns-in-Ok g c =
    let plan = c.args.plan.now in
    let journal = c.args.journal.now in
    let at_first : c.loop.self.recorder.carried ≡ c.args.self.now.recorder.carried =
    ap (λ (recorder : Recording). recorder.carried) c.loop.invariant.2 in
    let P : Option TimedRecords → Type 0 = λ made. IsSomeAnd made (IsRecordOf plan c.args.self.now.recorder.carried journal) in
    let Q : Carry → Type 0 = λ before. IsSomeAnd c.add.new.self.newest
    (λ (term : TimedRecords). AreRecords plan before journal term.records) in
    record {
      records = λ few. subst P (sym c.take.ensures.newest)
          (is_record_of plan c.args.self.now.recorder.carried journal c.time_of_day-ended.result c.add.new.self.newest
          (subst Q at_first c.in-Ok.ensures.records) c.in-Ok.ensures.time);
      carried = λ few. ◌∙◌ {b = c.add.new.self.carried} c.take.ensures.carried
          (◌∙◌ {b = carried_after plan c.loop.self.recorder.carried journal} c.in-Ok.ensures.carried
          (ap (λ (before : Carry). carried_after plan before journal) at_first));
    }
