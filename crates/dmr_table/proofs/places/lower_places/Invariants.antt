use Rattle.std.proofs.Common.{◌≡◌, ◌++◌, take, drop, map}
use Rattle.dmr_table.specs.Places.{place_after_removal}
use Rattle.dmr_table.proofs.places.lower_places.Given as goal

abbrev pub invariant-loop-place : goal.invariant-loop-place
invariant-loop-place l = l.places ≡ map (place_after_removal l.removed) (take l.place-index l.fn.places) ++ drop l.place-index l.fn.places
