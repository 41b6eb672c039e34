use Rattle.std.proofs.Common.{◌≡◌, take, map}
use Rattle.sqlite.specs.Order.{column}
use Rattle.dmr_records.specs.Statements.{number}
use Rattle.dmr_records.proofs.reading.radios_of.Given as goal

abbrev pub invariant-loop-row : goal.invariant-loop-row
invariant-loop-row l =
    map number l.radios.items ≡ map (λ row. column row 0) (take l.row-index l.rows)
