-- The results of looking up a carrier.
use Rattle.std.proofs.Common.{◌≡◌, ℕ, ◌==◌, List}
use Rattle.std.specs.Prelude.{is_some}
use Rattle.dmr_plan.specs.declared.carriers.CarrierRow.{CarrierRow}
use Rattle.dmr_plan.specs.Carriers.{row_with, has_number_in}
use Rattle.dmr_pdu.proofs.ListLaws.{is_some-find}

-- a carrier is found exactly if one has the number
pub is_some-row_with : (rows : List CarrierRow) (n : ℕ) → is_some (row_with rows n) ≡ has_number_in rows n
is_some-row_with rows n = is_some-find (λ (row : CarrierRow). row.number == n) rows
