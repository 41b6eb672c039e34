use Rattle.std.proofs.Common.{arith, ◌≢◌, ◌≡◌, ◌+◌, ◌-◌, ◌++◌, ◌∷◌, [], sym, ◌∙◌, length, eqb-true, eq-eqb}
use Rattle.std.proofs.lemmas.List.{length_push}
use Rattle.dmr_registry.specs.Least.{held_from, least_from, next_from}
use Rattle.dmr_registry.proofs.LeastLemmas.{none_below, none_left, one_more_found, enough_found}
use Rattle.dmr_registry.proofs.NextLemmas.{at_first, enough, least_found, next_one, none_next}
use Rattle.dmr_registry.proofs.registry.Registry.from_number.Goals as goal

pub loop-next-init : goal.loop-next-init
loop-next-init c = record {
  few = rw c.new-listed.ensures (omega arith);
  found = rw (c.new-listed.ensures, c.get-next.ensures.value) (none_below c.args.self.now c.args.from);
  whole = rw c.get-next.ensures.value (at_first c.args.self.now c.new-listed.result.items c.args.from c.new-listed.ensures);
}

pub returns-in_default-clause-gives : goal.returns-in_default-clause-gives
returns-in_default-clause-gives c =
    none_next c.args.self.now c.loop-next.listed.items c.loop-next.next (16 - length c.loop-next.listed.items)
    (sym c.in_default.is ∙ least_found (held_from c.args.self.now c.loop-next.next) c.lowest_from.result c.lowest_from.ensures)
    ∙ c.loop-next.invariant.whole

pub returns-in_default-clause-least : goal.returns-in_default-clause-least
returns-in_default-clause-least c = none_left _ _ _ _ c.loop-next.invariant.found c.loop-next.invariant.few c.in_default.ensures

pub loop-next-preserved : goal.loop-next-preserved
loop-next-preserved c =
    let not_full : length c.loop-next.listed.items ≢ 16 = λ full. let wrong =
    eq-eqb (length c.loop-next.listed.items) 16 full in cc c.loop-next-test.ensures.value in
    let found = one_more_found _ _ _ _ _ c.loop-next.invariant.found c.in-Some.ensures.0 c.in-Some.ensures.1 in
    let listed = c.loop-next.listed.items ++ c.in-Some.radio ∷ [] in
    let long = length_push c.loop-next.listed.items c.in-Some.radio in
    let whole : listed ++ next_from (16 - length listed) c.args.self.now (c.in-Some.radio + 1) ≡ least_from c.args.self.now c.args.from =
    next_one c.args.self.now c.loop-next.listed.items c.loop-next.next c.in-Some.radio (16 - length c.loop-next.listed.items)
    (16 - length listed) (omega (arith, long, not_full, c.loop-next.invariant.few))
    (sym c.in-Some.is ∙ least_found (held_from c.args.self.now c.loop-next.next) c.lowest_from.result c.lowest_from.ensures)
    ∙ c.loop-next.invariant.whole in record {
      few = rw (c.push.ensures.items, length_push) (omega arith);
      found = rw (c.push.ensures.items, c.get-next-in-loop-next.ensures.value) found;
      whole = rw (c.push.ensures.items, c.get-next-in-loop-next.ensures.value) whole;
    }

pub returns-clause-gives : goal.returns-clause-gives
returns-clause-gives c =
    let full = eqb-true (length c.loop-next.listed.items) 16 (sym c.loop-next-test.ensures.value) in
    enough c.args.self.now c.loop-next.listed.items c.loop-next.next (16 - length c.loop-next.listed.items) (omega (arith, full))
    ∙ c.loop-next.invariant.whole

pub returns-clause-least : goal.returns-clause-least
returns-clause-least c =
    enough_found _ _ _ _ c.loop-next.invariant.found (eqb-true (length c.loop-next.listed.items) 16 (sym c.loop-next-test.ensures.value))
