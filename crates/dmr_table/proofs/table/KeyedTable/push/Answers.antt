use Rattle.std.proofs.Common.{rules, arith, ◌≡◌, ◌≤◌, ◌<◌, ◌+◌, ap, length, vec_len}
use Rattle.std.specs.List.{insert}
use Rattle.dmr_table.specs.declared.places.Place.{Place}
use Rattle.dmr_table.specs.Places.{IsGap, rank_of}
use Rattle.dmr_table.proofs.PlacesLemmas.{places_with}
use Rattle.dmr_table.proofs.table.KeyedTable.push.Goals as goal

pub invariant_of-self : goal.invariant_of-self
invariant_of-self g c =
    let few : length c.self.inside.entries.items ≤ 65536 = omega (arith, c.self.invariant.few, c.self.invariant.small) in
    let room : length c.self.inside.entries.items < g.row.MOST = omega (arith, ap length c.self.view_is, c.requires) in
    let small : length c.self.inside.entries.items < 65536 = omega (arith, room, c.self.invariant.small) in
    let place : Place = record { key = c.key.result; index = c.len.result } in
    let gap : IsGap c.self.inside.places.items (rank_of place) c.count_before-before.result =
    rw c.deref.ensures.value at c.count_before-before.ensures in
    let more : vec_len c.insert.new.self ≡ vec_len c.self.inside.places + 1 = rw c.unwrap.ensures at c.insert.ensures.len in
    let items : c.insert.new.self.items ≡ insert c.self.inside.places.items c.count_before-before.result place =
    rw c.unwrap.ensures at c.insert.ensures.items in
    record {
      small = c.self.invariant.small;
      few = omega (arith, c.push_reserved.ensures.len, room);
      room = search rules;
      places_few = omega (arith, more, room, c.self.invariant.places.as_many);
      places_room = search rules;
      places = rw (c.push_reserved.ensures.items, items)
          (places_with g.V.Keyed.key_of _ _ few c.self.invariant.places c.args.entry place _ small c.key.ensures
          (omega (arith, c.len.ensures)) gap);
    }
