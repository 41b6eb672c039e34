use Rattle.std.proofs.Common.{arith, get_or}
use Rattle.std.proofs.lemmas.List.{get_or_default}
use Rattle.std.proofs.lemmas.List.Edits.{map_over_more}
use Rattle.dmr_table.specs.declared.places.Place.{Place}
use Rattle.dmr_table.specs.Places.{place_after_removal}
use Rattle.dmr_table.proofs.places.lower_places.Goals as goal

pub loop-place-preserved : goal.loop-place-preserved
loop-place-preserved c =
    let blank : Place = record { key = 0; index = 0 } in
    let read : Place = get_or c.loop-place.places c.loop-place.place-index blank in
    let same = get_or_default c.loop-place.places c.loop-place.place-index blank read (omega arith) in
    rw c.after_removal.ensures (map_over_more (place_after_removal c.args.removed) c.args.places.now c.loop-place.places
    c.loop-place.place-index read (omega arith) c.loop-place.invariant same)
