use Rattle.std.proofs.Common.{rules, arith, ◌≡◌, ◌≤◌, ◌++◌, length, sym, ◌∙◌, map, take, drop}
use Rattle.std.proofs.lemmas.Grind.{common_steps}
use Rattle.std.specs.List.{remove}
use Rattle.dmr_table.specs.Places.{HasFirst, place_after_removal, ArePlaces}
use Rattle.dmr_table.proofs.FoundLemmas.{past_all, other_key, first_entry}
use Rattle.dmr_table.proofs.RemovalLemmas.{places_left}
use Rattle.dmr_table.proofs.table.KeyedTable.remove_first.Goals as goal

pub returns-in_err-first-clause-first : goal.returns-in_err-first-clause-first
returns-in_err-first-clause-first g c =
    let few : length c.self.inside.entries.items ≤ 65536 = omega (arith, c.self.invariant.few, c.self.invariant.small) in
    let none = past_all g.V.Keyed.key_of _ _ c.args.key c.self.invariant.places (rw c.deref.ensures.value at c.in_err-first.ensures) few in
    rw (← c.self.view_is, none.found) (search rules)

pub returns-in_err-first-clause-others : goal.returns-in_err-first-clause-others
returns-in_err-first-clause-others g c =
    let few : length c.self.inside.entries.items ≤ 65536 = omega (arith, c.self.invariant.few, c.self.invariant.small) in
    let none = past_all g.V.Keyed.key_of _ _ c.args.key c.self.invariant.places (rw c.deref.ensures.value at c.in_err-first.ensures) few in
    rw (← c.self.view_is) (sym none.left)

pub returns-then-place-key-clause-first : goal.returns-then-place-key-clause-first
returns-then-place-key-clause-first g c =
    let few : length c.self.inside.entries.items ≤ 65536 = omega (arith, c.self.invariant.few, c.self.invariant.small) in
    let first : HasFirst c.self.inside.places.items c.args.key c.in_ok-first.first = rw c.deref.ensures.value at c.in_ok-first.ensures in
    let none = other_key g.V.Keyed.key_of _ _ c.args.key c.self.invariant.places _ c.index-place.result.now first c.index-place.ensures
    c.if-place-key.true few in
    rw (← c.self.view_is) (sym none.found)

pub returns-then-place-key-clause-others : goal.returns-then-place-key-clause-others
returns-then-place-key-clause-others g c =
    let few : length c.self.inside.entries.items ≤ 65536 = omega (arith, c.self.invariant.few, c.self.invariant.small) in
    let first : HasFirst c.self.inside.places.items c.args.key c.in_ok-first.first = rw c.deref.ensures.value at c.in_ok-first.ensures in
    let none = other_key g.V.Keyed.key_of _ _ c.args.key c.self.invariant.places _ c.index-place.result.now first c.index-place.ensures
    c.if-place-key.true few in
    rw (← c.self.view_is) (sym none.left)

pub invariant_of-self : goal.invariant_of-self
invariant_of-self g c =
    let few : length c.self.inside.entries.items ≤ 65536 = omega (arith, c.self.invariant.few, c.self.invariant.small) in
    let first : HasFirst c.self.inside.places.items c.args.key c.in_ok-first.first = rw c.deref.ensures.value at c.in_ok-first.ensures in
    let n = c.index-place.result.now.index in
    let left : ArePlaces g.V.Keyed.key_of (remove c.self.inside.entries.items n)
    (map (place_after_removal n) (remove c.self.inside.places.items c.in_ok-first.first)) =
    places_left g.V.Keyed.key_of _ _ few c.self.invariant.places _ first.within c.index-place.result.now c.index-place.ensures
    c.remove-2.result in
    let lower : c.lower_places.new.places ≡ map (place_after_removal n) (remove c.self.inside.places.items c.in_ok-first.first) =
    rw (c.deref_mut.ensures.value, c.remove.ensures.items) at c.lower_places.ensures in
    let written : take c.remove.new.self.len (c.lower_places.new.places ++ drop (length c.lower_places.new.places) c.remove.new.self.items)
    ≡ map (place_after_removal n) (remove c.self.inside.places.items c.in_ok-first.first) = grind (arith, common_steps, lower) in
    let items : c.remove-2.new.self.items ≡ remove c.self.inside.entries.items n = rw c.from.ensures at c.remove-2.ensures.items in
    record {
      small = c.self.invariant.small;
      few = omega (arith, c.remove-2.ensures.len, c.self.invariant.few);
      room = search rules;
      places_few = omega (arith, c.remove.ensures.len, c.self.invariant.places_few);
      places_room = search rules;
      places = rw (items, written) left;
    }

pub returns-clause-first : goal.returns-clause-first
returns-clause-first g c =
    let few : length c.self.inside.entries.items ≤ 65536 = omega (arith, c.self.invariant.few, c.self.invariant.small) in
    let first : HasFirst c.self.inside.places.items c.args.key c.in_ok-first.first = rw c.deref.ensures.value at c.in_ok-first.ensures in
    let found = first_entry g.V.Keyed.key_of _ _ c.args.key c.self.invariant.places _ c.index-place.result.now c.remove-2.result first
    c.index-place.ensures c.if-place-key.false (search rules) few in
    rw (← c.self.view_is) (sym found.found)

pub returns-clause-others : goal.returns-clause-others
returns-clause-others g c =
    let few : length c.self.inside.entries.items ≤ 65536 = omega (arith, c.self.invariant.few, c.self.invariant.small) in
    let first : HasFirst c.self.inside.places.items c.args.key c.in_ok-first.first = rw c.deref.ensures.value at c.in_ok-first.ensures in
    let found = first_entry g.V.Keyed.key_of _ _ c.args.key c.self.invariant.places _ c.index-place.result.now c.remove-2.result first
    c.index-place.ensures c.if-place-key.false (search rules) few in
    rw (← c.self.view_is) (rw c.from.ensures at c.remove-2.ensures.items ∙ sym found.left)
