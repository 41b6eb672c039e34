-- Numbers that are the same, and the carriers of a plan.
use Rattle.std.proofs.Common.{◌≡◌, ◌<◌, ◌≤◌, ℕ, List, [], ◌∷◌, true, false, arith}
use Rattle.std.specs.Prelude.{◌==◌, not}
use Rattle.std.specs.List.{All}
use Rattle.std.proofs.lemmas.Bool.Decides.{nat_tests}
use Rattle.std.proofs.lemmas.List.Elements.{All-head, All-tail}
use Rattle.dmr_plan.specs.declared.carriers.CarrierRow.{CarrierRow}
use Rattle.dmr_plan.specs.Carriers.{has_number_in}
use Rattle.dmr_plan.specs.Kept.{IsCarrierRow}

pub equal_itself : (a : ℕ) → (a == a) ≡ true
equal_itself a = grind (arith, nat_tests)

pub not_itself : (a : ℕ) → not (a == a) ≡ false
not_itself a = grind (arith, nat_tests)

pub turned_numbers : (a b : ℕ) → (a == b) ≡ (b == a)
turned_numbers a b = grind (arith, nat_tests)

-- a carrier of the plan has a number below 16
pub row_below : (rows : List CarrierRow) (c : ℕ) → All IsCarrierRow rows → has_number_in rows c ≡ true → c < 16
row_below [] c each h = cc
row_below (row ∷ rows) c each h =
    let small : row.number ≤ 15 = (All-head IsCarrierRow row rows each).number.1 in
    let more = row_below rows c (All-tail IsCarrierRow row rows each) in
    grind (arith, nat_tests)
