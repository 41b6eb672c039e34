use Rattle.std.proofs.Common.{◌≡◌, ◌+◌, ◌≤◌, drop}
use Rattle.dmr_keeper.specs.Counts.{entries_with, events_that, is_active, is_begun, is_command, is_granting, is_heard, is_joined}
use Rattle.dmr_keeper.specs.Counts.{is_late_entry, is_noise, is_poll, is_refusing, is_request}
use Rattle.dmr_keeper.specs.Ticks.{is_tick}
use Rattle.dmr_keeper.proofs.counts.counts_of.Given as goal

abbrev pub invariant-loop-entry : goal.invariant-loop-entry
invariant-loop-entry l = record {
  heard : l.heard + events_that is_heard (drop l.entry-index l.journal) ≡ events_that is_heard l.journal;
  requests : l.requests + events_that is_request (drop l.entry-index l.journal) ≡ events_that is_request l.journal;
  noise : l.noise + events_that is_noise (drop l.entry-index l.journal) ≡ events_that is_noise l.journal;
  active : l.active + events_that is_active (drop l.entry-index l.journal) ≡ events_that is_active l.journal;
  polls : l.polls + events_that is_poll (drop l.entry-index l.journal) ≡ events_that is_poll l.journal;
  ticks : l.ticks + events_that is_tick (drop l.entry-index l.journal) ≡ events_that is_tick l.journal;
  commands : l.commands + events_that is_command (drop l.entry-index l.journal) ≡ events_that is_command l.journal;
  grants : l.grants + entries_with is_granting (drop l.entry-index l.journal) ≡ entries_with is_granting l.journal;
  late_entries : l.late_entries + entries_with is_late_entry (drop l.entry-index l.journal) ≡ entries_with is_late_entry l.journal;
  registrations : l.registrations + entries_with is_joined (drop l.entry-index l.journal) ≡ entries_with is_joined l.journal;
  refusals : l.refusals + entries_with is_refusing (drop l.entry-index l.journal) ≡ entries_with is_refusing l.journal;
  begun : l.begun + entries_with is_begun (drop l.entry-index l.journal) ≡ entries_with is_begun l.journal;
  few_heard : l.heard ≤ l.entry-index;
  few_requests : l.requests ≤ l.entry-index;
  few_noise : l.noise ≤ l.entry-index;
  few_active : l.active ≤ l.entry-index;
  few_polls : l.polls ≤ l.entry-index;
  few_ticks : l.ticks ≤ l.entry-index;
  few_commands : l.commands ≤ l.entry-index;
  few_grants : l.grants ≤ l.entry-index;
  few_late_entries : l.late_entries ≤ l.entry-index;
  few_registrations : l.registrations ≤ l.entry-index;
  few_refusals : l.refusals ≤ l.entry-index;
  few_begun : l.begun ≤ l.entry-index;
}
