use Rattle.std.proofs.Common.{rules, arith, ◌≤◌, length}
use Rattle.dmr_table.specs.Places.{HasFirst}
use Rattle.dmr_table.proofs.FoundLemmas.{least_entry, no_least}
use Rattle.dmr_table.proofs.table.KeyedTable.least_from.Goals as goal

pub returns-in_err-first_from : goal.returns-in_err-first_from
returns-in_err-first_from g c =
    let few : length c.self.inside.entries.items ≤ 65536 = omega (arith, c.self.invariant.few, c.self.invariant.small) in
    let none =
    no_least g.V.Keyed.key_of _ _ c.args.key c.self.invariant.places (rw c.deref.ensures.value at c.in_err-first_from.ensures) few in
    search (rules, rw c.self.view_is at none)

pub returns : goal.returns
returns g c =
    let few : length c.self.inside.entries.items ≤ 65536 = omega (arith, c.self.invariant.few, c.self.invariant.small) in
    let first : HasFirst c.self.inside.places.items c.args.key c.in_ok-first_from.field-0 =
    rw c.deref.ensures.value at c.in_ok-first_from.ensures in
    rw (← c.self.view_is) (least_entry g.V.Keyed.key_of _ _ c.args.key c.self.invariant.places _ c.index-place.result.now c.index.result.now
    first c.index-place.ensures (search rules) few)
