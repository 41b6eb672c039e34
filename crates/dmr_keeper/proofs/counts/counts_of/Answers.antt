use Rattle.std.proofs.Common.{Bool, cond, ap, arith, ◌∙◌}
use Rattle.std.specs.List.{list_any}
use Rattle.dmr_core.specs.declared.entry.Entry.{Entry}
use Rattle.dmr_keeper.specs.Counts.{is_active, is_begun, is_command, is_granting, is_heard, is_joined, is_late_entry, is_noise, is_poll}
use Rattle.dmr_keeper.specs.Counts.{is_refusing, is_request}
use Rattle.dmr_keeper.specs.Ticks.{is_tick}
use Rattle.dmr_keeper.proofs.LoopLemmas.{count_stays}
use Rattle.dmr_keeper.proofs.counts.counts_of.Goals as goal

pub loop-entry-preserved : goal.loop-entry-preserved
loop-entry-preserved c =
    let journal = c.args.journal.now in
    let i = c.loop-entry.entry-index in
    let entry = c.entry-item.result in
    record {
      heard = count_stays (λ (e : Entry). is_heard e.event) journal i c.loop-entry.heard _ entry c.one_if-heard.result
          c.loop-entry-test.true c.entry-item.is (c.one_if-heard.ensures.counted ∙ ap (λ (b : Bool). cond b 1 0) c.is_heard.ensures)
          c.loop-entry.invariant.heard;
      requests = count_stays (λ (e : Entry). is_request e.event) journal i c.loop-entry.requests _ entry c.one_if-requests.result
          c.loop-entry-test.true c.entry-item.is (c.one_if-requests.ensures.counted ∙ ap (λ (b : Bool). cond b 1 0) c.is_request.ensures)
          c.loop-entry.invariant.requests;
      noise = count_stays (λ (e : Entry). is_noise e.event) journal i c.loop-entry.noise _ entry c.one_if-noise.result
          c.loop-entry-test.true c.entry-item.is (c.one_if-noise.ensures.counted ∙ ap (λ (b : Bool). cond b 1 0) c.is_noise.ensures)
          c.loop-entry.invariant.noise;
      active = count_stays (λ (e : Entry). is_active e.event) journal i c.loop-entry.active _ entry c.one_if-active.result
          c.loop-entry-test.true c.entry-item.is (c.one_if-active.ensures.counted ∙ ap (λ (b : Bool). cond b 1 0) c.is_active.ensures)
          c.loop-entry.invariant.active;
      polls = count_stays (λ (e : Entry). is_poll e.event) journal i c.loop-entry.polls _ entry c.one_if-polls.result c.loop-entry-test.true
          c.entry-item.is (c.one_if-polls.ensures.counted ∙ ap (λ (b : Bool). cond b 1 0) c.is_poll.ensures) c.loop-entry.invariant.polls;
      ticks = count_stays (λ (e : Entry). is_tick e.event) journal i c.loop-entry.ticks _ entry c.one_if-ticks.result c.loop-entry-test.true
          c.entry-item.is (c.one_if-ticks.ensures.counted ∙ ap (λ (b : Bool). cond b 1 0) c.is_tick.ensures) c.loop-entry.invariant.ticks;
      commands = count_stays (λ (e : Entry). is_command e.event) journal i c.loop-entry.commands _ entry c.one_if-commands.result
          c.loop-entry-test.true c.entry-item.is (c.one_if-commands.ensures.counted ∙ ap (λ (b : Bool). cond b 1 0) c.is_command.ensures)
          c.loop-entry.invariant.commands;
      grants = count_stays (λ (e : Entry). list_any is_granting e.acts.list) journal i c.loop-entry.grants _ entry c.one_if-grants.result
          c.loop-entry-test.true c.entry-item.is (c.one_if-grants.ensures.counted ∙ ap (λ (b : Bool). cond b 1 0) c.grants_any.ensures)
          c.loop-entry.invariant.grants;
      late_entries = count_stays (λ (e : Entry). list_any is_late_entry e.acts.list) journal i c.loop-entry.late_entries _ entry
          c.one_if-late_entries.result c.loop-entry-test.true c.entry-item.is
          (c.one_if-late_entries.ensures.counted ∙ ap (λ (b : Bool). cond b 1 0) c.fills_any.ensures) c.loop-entry.invariant.late_entries;
      registrations = count_stays (λ (e : Entry). list_any is_joined e.acts.list) journal i c.loop-entry.registrations _ entry
          c.one_if-registrations.result c.loop-entry-test.true c.entry-item.is
          (c.one_if-registrations.ensures.counted ∙ ap (λ (b : Bool). cond b 1 0) c.joins_any.ensures) c.loop-entry.invariant.registrations;
      refusals = count_stays (λ (e : Entry). list_any is_refusing e.acts.list) journal i c.loop-entry.refusals _ entry
          c.one_if-refusals.result c.loop-entry-test.true c.entry-item.is
          (c.one_if-refusals.ensures.counted ∙ ap (λ (b : Bool). cond b 1 0) c.refuses_any.ensures) c.loop-entry.invariant.refusals;
      begun = count_stays (λ (e : Entry). list_any is_begun e.acts.list) journal i c.loop-entry.begun _ entry c.one_if-begun.result
          c.loop-entry-test.true c.entry-item.is (c.one_if-begun.ensures.counted ∙ ap (λ (b : Bool). cond b 1 0) c.begins_any.ensures)
          c.loop-entry.invariant.begun;
      few_heard = omega (arith, c.one_if-heard.ensures.few, c.loop-entry.invariant.few_heard);
      few_requests = omega (arith, c.one_if-requests.ensures.few, c.loop-entry.invariant.few_requests);
      few_noise = omega (arith, c.one_if-noise.ensures.few, c.loop-entry.invariant.few_noise);
      few_active = omega (arith, c.one_if-active.ensures.few, c.loop-entry.invariant.few_active);
      few_polls = omega (arith, c.one_if-polls.ensures.few, c.loop-entry.invariant.few_polls);
      few_ticks = omega (arith, c.one_if-ticks.ensures.few, c.loop-entry.invariant.few_ticks);
      few_commands = omega (arith, c.one_if-commands.ensures.few, c.loop-entry.invariant.few_commands);
      few_grants = omega (arith, c.one_if-grants.ensures.few, c.loop-entry.invariant.few_grants);
      few_late_entries = omega (arith, c.one_if-late_entries.ensures.few, c.loop-entry.invariant.few_late_entries);
      few_registrations = omega (arith, c.one_if-registrations.ensures.few, c.loop-entry.invariant.few_registrations);
      few_refusals = omega (arith, c.one_if-refusals.ensures.few, c.loop-entry.invariant.few_refusals);
      few_begun = omega (arith, c.one_if-begun.ensures.few, c.loop-entry.invariant.few_begun);
    }
