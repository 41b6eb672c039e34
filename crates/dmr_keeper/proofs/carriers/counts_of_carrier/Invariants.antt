use Rattle.std.proofs.Common.{◌≡◌, ◌+◌, ◌≤◌, drop}
use Rattle.dmr_keeper.specs.Carriers.{is_of_and}
use Rattle.dmr_keeper.specs.Counts.{events_that, is_active, is_heard, is_noise, is_poll}
use Rattle.dmr_keeper.proofs.carriers.counts_of_carrier.Given as goal

abbrev pub invariant-loop-entry : goal.invariant-loop-entry
invariant-loop-entry l = record {
  polls : l.polls + events_that (is_of_and l.carrier is_poll) (drop l.entry-index l.journal) ≡ events_that
      (is_of_and l.carrier is_poll) l.journal;
  heard : l.heard + events_that (is_of_and l.carrier is_heard) (drop l.entry-index l.journal) ≡ events_that
      (is_of_and l.carrier is_heard) l.journal;
  noise : l.noise + events_that (is_of_and l.carrier is_noise) (drop l.entry-index l.journal) ≡ events_that
      (is_of_and l.carrier is_noise) l.journal;
  active : l.active + events_that (is_of_and l.carrier is_active) (drop l.entry-index l.journal) ≡ events_that
      (is_of_and l.carrier is_active) l.journal;
  few_polls : l.polls ≤ l.entry-index;
  few_heard : l.heard ≤ l.entry-index;
  few_noise : l.noise ≤ l.entry-index;
  few_active : l.active ≤ l.entry-index;
}
