use Rattle.std.proofs.Common.{◌≡◌, ◌+◌}
use Rattle.dmr_desk.specs.Audited.{count_of_deposits}
use Rattle.dmr_desk.proofs.SeatLemmas.{IsGathering}
use Rattle.dmr_desk.proofs.audit.gather_views.Given as goal

abbrev pub invariant-loop-actor : goal.invariant-loop-actor
invariant-loop-actor g l = record {
  gathering : IsGathering l.fn.seats.items l.seats.items l.views.items l.actor;
  parts : l.all.parts ≡ l.fn.rest.parts + l.actor;
  amount : l.all.amount ≡ count_of_deposits l.views.items;
}
