use Rattle.std.proofs.Common.{◌≡◌, ◌+◌, [], arith}
use Rattle.dmr_desk.specs.Seats.{SeatState}
use Rattle.dmr_desk.proofs.CrewLemmas.{all_done_cons, all_tail, first_of}
use Rattle.dmr_desk.proofs.threads.+run_stations.Goals as goal

pub spawn_with-requires-clause-runs : goal.spawn_with-requires-clause-runs
spawn_with-requires-clause-runs g t c = λ κs within.
    (all_tail (λ (x : SeatState). x.deposits ≡ []) _ _ _
    (first_of _ _ _ (omega arith) c.remove-seat.ensures.value c.remove-seat.ensures.items) c.requires.new).0

pub run_stations-rest-requires-clause-new : goal.run_stations-rest-requires-clause-new
run_stations-rest-requires-clause-new g t c = λ κs within.
    (all_tail (λ (x : SeatState). x.deposits ≡ []) _ _ _
    (first_of _ _ _ (omega arith) c.remove-seat.ensures.value c.remove-seat.ensures.items) c.requires.new).1

pub returns-in-Ok-insert-clause-carriers : goal.returns-in-Ok-insert-clause-carriers
returns-in-Ok-insert-clause-carriers g t c = λ first new.
    let o = rw c.in-Ok.is at c.spawn_with.ensures.ok in
    let k = rw o at c.join-work.ensures in
    let kept = rw c.of.ensures at k in
    let stations = first_of _ _ _ (omega arith) c.remove-station.ensures.value c.remove-station.ensures.items in
    let seats = first_of _ _ _ (omega arith) c.remove-seat.ensures.value c.remove-seat.ensures.items in
    let items = rw c.in-Ok-insert.is at c.insert.ensures.items in
    rw items
    (all_done_cons g.S.Serving _ _ _ _ _ _ first _ _ stations seats new (rw c.actor.ensures at kept)
    (λ rest. rw c.in-Some.is at c.run_stations-rest.ensures.carriers (first + 1) rest))
