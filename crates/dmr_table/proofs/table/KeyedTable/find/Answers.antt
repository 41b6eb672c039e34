use Rattle.std.proofs.Common.{rules, arith, ◌≤◌, length, sym}
use Rattle.dmr_table.specs.Places.{HasFirst}
use Rattle.dmr_table.proofs.FoundLemmas.{past_all, other_key, first_entry}
use Rattle.dmr_table.proofs.table.KeyedTable.find.Goals as goal

pub returns-in_err-first_from : goal.returns-in_err-first_from
returns-in_err-first_from g c =
    let few : length c.self.inside.entries.items ≤ 65536 = omega (arith, c.self.invariant.few, c.self.invariant.small) in
    let none =
    past_all g.V.Keyed.key_of _ _ c.args.key c.self.invariant.places (rw c.deref.ensures.value at c.in_err-first_from.ensures) few in
    rw (← c.self.view_is, none.found) (search rules)

pub returns-then-place-key : goal.returns-then-place-key
returns-then-place-key g c =
    let few : length c.self.inside.entries.items ≤ 65536 = omega (arith, c.self.invariant.few, c.self.invariant.small) in
    let first : HasFirst c.self.inside.places.items c.args.key c.in_ok-first_from.field-0 =
    rw c.deref.ensures.value at c.in_ok-first_from.ensures in
    let found = first_entry g.V.Keyed.key_of _ _ c.args.key c.self.invariant.places _ c.index-place.result.now c.index.result.now first
    c.index-place.ensures c.if-place-key.true (search rules) few in
    rw (← c.self.view_is) (sym found.found)

pub returns-else-place-key : goal.returns-else-place-key
returns-else-place-key g c =
    let few : length c.self.inside.entries.items ≤ 65536 = omega (arith, c.self.invariant.few, c.self.invariant.small) in
    let first : HasFirst c.self.inside.places.items c.args.key c.in_ok-first_from.field-0 =
    rw c.deref.ensures.value at c.in_ok-first_from.ensures in
    let none = other_key g.V.Keyed.key_of _ _ c.args.key c.self.invariant.places _ c.index-place.result.now first c.index-place.ensures
    c.if-place-key.false few in
    rw (← c.self.view_is) (sym none.found)
