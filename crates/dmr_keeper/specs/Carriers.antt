-- The counts of a term for each carrier.
use Rattle.std.specs.Prelude.{ℕ, ◌+◌, List, Bool, ◌==◌, ◌&&◌, false, if◌then◌else◌, Option, Some, None}
use Rattle.std.specs.Prelude.{filter_map}
use Rattle.std.specs.List.{list_any, range_with_len}
use Rattle.dmr_core.specs.declared.event.Event.{Event}
use Rattle.dmr_core.specs.declared.event.Event.TheVariants.{Up, Lost, Heard, Noise, Active, Poll}
use Rattle.dmr_core.specs.declared.entry.Entry.{Entry}
use Rattle.dmr_keeper.specs.declared.carriers.CarrierCounts.{CarrierCounts}
use Rattle.dmr_keeper.specs.Counts.{events_that, is_active, is_heard, is_noise, is_poll}

-- the event is one of the carrier: it comes up or is lost, polls, or something is received on one of its slots
abbrev pub is_of_carrier : ℕ → Event → Bool
is_of_carrier c (Up carrier) = carrier == c
is_of_carrier c (Lost carrier) = carrier == c
is_of_carrier c (Heard slot pdu) = slot.carrier == c
is_of_carrier c (Noise slot) = slot.carrier == c
is_of_carrier c (Active slot) = slot.carrier == c
is_of_carrier c (Poll carrier) = carrier == c
is_of_carrier c _ = false

-- the event passes the test, and is one of the carrier
abbrev pub is_of_and : ℕ → (Event → Bool) → Event → Bool
is_of_and c test event = test event && is_of_carrier c event

-- the counts of a carrier in a journal
abbrev pub counts_of_carrier : List Entry → ℕ → CarrierCounts
counts_of_carrier journal c = record {
  carrier = c;
  polls = events_that (is_of_and c is_poll) journal;
  heard = events_that (is_of_and c is_heard) journal;
  noise = events_that (is_of_and c is_noise) journal;
  active = events_that (is_of_and c is_active) journal;
}

-- the same, if the journal has an entry of the carrier
abbrev pub counts_if_any : List Entry → ℕ → Option CarrierCounts
counts_if_any journal c =
    if list_any (λ (entry : Entry). is_of_carrier c entry.event) journal
    then Some (counts_of_carrier journal c)
    else None

-- the counts of each carrier of which the journal has an entry, lowest number first; a site has the carriers 0 to 15
abbrev pub carrier_counts : List Entry → List CarrierCounts
carrier_counts journal = filter_map (counts_if_any journal) (range_with_len 0 16)

-- the counts of a carrier in two journals together
abbrev pub counts_of_both : CarrierCounts → CarrierCounts → CarrierCounts
counts_of_both a b = record {
  carrier = a.carrier;
  polls = a.polls + b.polls;
  heard = a.heard + b.heard;
  noise = a.noise + b.noise;
  active = a.active + b.active;
}
