-- The values of the key carrier.
use Rattle.std.specs.Prelude.{ℕ, List, [], Option, Result, Ok, Err, ◌||◌, Bool, if◌then◌else◌, ◌==◌}
use Rattle.std.specs.List.{list_any, find}
use Rattle.toml.specs.Data.{Data, table, Items, Members}
use Rattle.dmr_plan.specs.declared.key.Key.TheVariants.{ConsolePort, Carrier, Number, Lpcn, Port}
use Rattle.dmr_plan.specs.declared.fault.PlanFault.{PlanFault}
use Rattle.dmr_plan.specs.declared.fault.PlanFault.TheVariants.{WrongType, OutOfRange, Repeated}
use Rattle.dmr_plan.specs.declared.carriers.CarrierRow.{CarrierRow}
use Rattle.dmr_plan.specs.Steps.{◌>>=◌}
use Rattle.dmr_plan.specs.Numbers.{number_at_key}
use Rattle.dmr_plan.specs.Arrays.{array_in, is_count, in_turn}

-- the row of an unused cell of a list
abbrev pub no_row : CarrierRow
no_row = record { number = 0; lpcn = 1; port = 0 }

-- whether a carrier has this number
abbrev pub has_number_in : List CarrierRow → ℕ → Bool
has_number_in rows n = list_any (λ (row : CarrierRow). row.number == n) rows

-- the first carrier with this number, if there is one
abbrev pub row_with : List CarrierRow → ℕ → Option CarrierRow
row_with rows n = find (λ (row : CarrierRow). row.number == n) rows

-- whether a carrier has this channel
abbrev pub has_lpcn_in : List CarrierRow → ℕ → Bool
has_lpcn_in rows n = list_any (λ (row : CarrierRow). row.lpcn == n) rows

-- whether a carrier has this port
abbrev pub has_port_in : List CarrierRow → ℕ → Bool
has_port_in rows n = list_any (λ (row : CarrierRow). row.port == n) rows

-- the carrier that a table describes: an error if an earlier carrier has its number, channel or port, or the console
-- has its port
unfoldable pub carrier_of_table : ℕ → List CarrierRow → Members → Result CarrierRow PlanFault
carrier_of_table console_port earlier ms = do
  number ← number_at_key ms Number
  lpcn ← (if has_number_in earlier number then Err (Repeated Number) else number_at_key ms Lpcn)
  port ← (if has_lpcn_in earlier lpcn then Err (Repeated Lpcn) else number_at_key ms Port)
  if (port == console_port) || has_port_in earlier port then Err (Repeated Port)
      else Ok (record { number = number; lpcn = lpcn; port = port })

-- the carrier that an item describes: an error if the item is not a table
abbrev pub carrier_of_item : ℕ → List CarrierRow → Data → Result CarrierRow PlanFault
carrier_of_item console_port earlier (table ms) = carrier_of_table console_port earlier ms
carrier_of_item console_port earlier _ = Err (WrongType Carrier)

-- the carriers that the items describe: an error if there are fewer or more than a site may have
abbrev pub carriers_of_items : ℕ → Items → Result (List CarrierRow) PlanFault
carriers_of_items console_port ds =
    if is_count Carrier ds then in_turn (carrier_of_item console_port) [] ds
    else Err (OutOfRange Carrier)

-- the carriers of the site file, read in order
unfoldable pub carriers_of : Members → Result (List CarrierRow) PlanFault
carriers_of ms = do
  console_port ← number_at_key ms ConsolePort
  ds ← array_in ms Carrier
  carriers_of_items console_port ds
