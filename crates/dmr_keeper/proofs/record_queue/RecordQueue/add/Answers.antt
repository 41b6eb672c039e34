use Rattle.std.proofs.Common.{◌≡◌, ◌<◌, ◌≤◌, List, length, sym, ◌∙◌, ap, arith, rules}
use Rattle.dmr_keeper.specs.declared.time.TimedRecords.{TimedRecords}
use Rattle.dmr_keeper.proofs.HandingLemmas.{oldest_of}
use Rattle.dmr_keeper.proofs.NewestLemmas.{added_within, added_instead}
use Rattle.dmr_keeper.proofs.record_queue.RecordQueue.add.Goals as goal
use Rattle.dmr_keeper.proofs.record_queue.RecordQueue.add.Goals.{then-len-eq-MOST_WAITING, else-len-eq-MOST_WAITING}

pub returns-clause-added : goal.returns-clause-added
returns-clause-added c =
    let old : List TimedRecords = c.args.self.now in
    let view : old ≡ c.self.inside.terms.items = cc in
    let long : c.len.result ≡ length old = search rules in
    let within : length old ≤ 1000 = search rules in
    elim c.if-len-eq-MOST_WAITING.branch [
      | then-len-eq-MOST_WAITING w ↦
          let full : length old ≡ 1000 = omega (arith, long, w.if-len-eq-MOST_WAITING.true) in
          let full2 : length c.self.inside.terms.items ≡ 1000 = ap length (sym view) ∙ full in
          added_instead _ _ _ _ _ (view ∙ oldest_of _ _ _ (omega (arith, full2)) w.remove.ensures.value w.remove.ensures.items) full
          (search rules)
      | else-len-eq-MOST_WAITING w ↦
          let few : length old < 1000 = omega (arith, long, within, w.if-len-eq-MOST_WAITING.false) in
          added_within _ _ _ few (search rules)
    ]
