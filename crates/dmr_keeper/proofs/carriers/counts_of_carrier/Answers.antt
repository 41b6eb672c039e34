use Rattle.std.proofs.Common.{Bool, cond, ap, arith, ◌∙◌}
use Rattle.dmr_core.specs.declared.entry.Entry.{Entry}
use Rattle.dmr_keeper.specs.Carriers.{is_of_and}
use Rattle.dmr_keeper.specs.Counts.{is_active, is_heard, is_noise, is_poll}
use Rattle.dmr_keeper.proofs.LoopLemmas.{count_stays}
use Rattle.dmr_keeper.proofs.carriers.counts_of_carrier.Goals as goal

pub loop-entry-preserved : goal.loop-entry-preserved
loop-entry-preserved c =
    let journal = c.args.journal.now in
    let carrier = c.args.carrier in
    let i = c.loop-entry.entry-index in
    let entry = c.entry-item.result in
    record {
      polls = count_stays (λ (e : Entry). is_of_and carrier is_poll e.event) journal i c.loop-entry.polls _ entry c.one_if-polls.result
          c.loop-entry-test.true c.entry-item.is (c.one_if-polls.ensures.counted ∙ ap (λ (b : Bool). cond b 1 0) c.is_poll_of.ensures)
          c.loop-entry.invariant.polls;
      heard = count_stays (λ (e : Entry). is_of_and carrier is_heard e.event) journal i c.loop-entry.heard _ entry c.one_if-heard.result
          c.loop-entry-test.true c.entry-item.is (c.one_if-heard.ensures.counted ∙ ap (λ (b : Bool). cond b 1 0) c.is_heard_of.ensures)
          c.loop-entry.invariant.heard;
      noise = count_stays (λ (e : Entry). is_of_and carrier is_noise e.event) journal i c.loop-entry.noise _ entry c.one_if-noise.result
          c.loop-entry-test.true c.entry-item.is (c.one_if-noise.ensures.counted ∙ ap (λ (b : Bool). cond b 1 0) c.is_noise_of.ensures)
          c.loop-entry.invariant.noise;
      active = count_stays (λ (e : Entry). is_of_and carrier is_active e.event) journal i c.loop-entry.active _ entry c.one_if-active.result
          c.loop-entry-test.true c.entry-item.is (c.one_if-active.ensures.counted ∙ ap (λ (b : Bool). cond b 1 0) c.is_active_of.ensures)
          c.loop-entry.invariant.active;
      few_polls = omega (arith, c.one_if-polls.ensures.few, c.loop-entry.invariant.few_polls);
      few_heard = omega (arith, c.one_if-heard.ensures.few, c.loop-entry.invariant.few_heard);
      few_noise = omega (arith, c.one_if-noise.ensures.few, c.loop-entry.invariant.few_noise);
      few_active = omega (arith, c.one_if-active.ensures.few, c.loop-entry.invariant.few_active);
    }
