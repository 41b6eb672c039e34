-- The parts of the invariant of a plan: its numbers and lists.
use Rattle.std.specs.Prelude.{◌≡◌, ◌≤◌, ◌==◌, ℕ, List, length, map, false}
use Rattle.std.specs.List.{All}
use Rattle.dmr_plan.specs.declared.key.Key.TheVariants.{Address, Radios, Groups, Carrier, Number}
use Rattle.dmr_plan.specs.declared.key.Key.TheVariants.{Lpcn, Port}
use Rattle.dmr_plan.specs.declared.lists.RadioRange.{RadioRange}
use Rattle.dmr_plan.specs.declared.carriers.CarrierRow.{CarrierRow}
use Rattle.dmr_plan.specs.Keys.{IsNumberOf, limits_of}
use Rattle.dmr_plan.specs.Lists.{has_repeat}
use Rattle.dmr_plan.specs.Carriers.{has_number_in, has_lpcn_in, has_port_in}

-- an IPv4 address has four numbers, each an octet
pub record IsAddress (octets : List ℕ) : Type 0 where
  pub four : length octets ≡ (limits_of Address).count.most
  pub each : All (IsNumberOf Address) octets

-- a range of radios: both ends are addresses of radios, the first at most the last
pub record IsRange (r : RadioRange) : Type 0 where
  pub first : IsNumberOf Radios r.first
  pub last : IsNumberOf Radios r.last
  pub ordered : r.first ≤ r.last

-- the ranges of radios: 1 to 16 ranges
pub record AreRadios (rs : List RadioRange) : Type 0 where
  pub some : (limits_of Radios).count.fewest ≤ length rs
  pub few : length rs ≤ (limits_of Radios).count.most
  pub each : All IsRange rs

-- the talkgroups: 0 to 64 addresses, none twice
pub record AreGroups (gs : List ℕ) : Type 0 where
  pub few : length gs ≤ (limits_of Groups).count.most
  pub each : All (IsNumberOf Groups) gs
  pub once : has_repeat gs ≡ false

-- a carrier of the site: each number is within the range of its key
pub record IsCarrierRow (row : CarrierRow) : Type 0 where
  pub number : IsNumberOf Number row.number
  pub lpcn : IsNumberOf Lpcn row.lpcn
  pub port : IsNumberOf Port row.port

-- a carrier after these: it differs from each in number, channel and port, and its port is not the console's
pub record IsNewRow (console_port : ℕ) (earlier : List CarrierRow) (row : CarrierRow)
    : Type 0 where
  pub limits : IsCarrierRow row
  pub number : has_number_in earlier row.number ≡ false
  pub lpcn : has_lpcn_in earlier row.lpcn ≡ false
  pub port : has_port_in earlier row.port ≡ false
  pub console : (row.port == console_port) ≡ false

-- no two carriers have the same number, channel or port, and none has the console's port
pub record AreApart (console_port : ℕ) (rows : List CarrierRow) : Type 0 where
  pub numbers : has_repeat (map (λ (row : CarrierRow). row.number) rows) ≡ false
  pub lpcns : has_repeat (map (λ (row : CarrierRow). row.lpcn) rows) ≡ false
  pub ports : has_repeat (map (λ (row : CarrierRow). row.port) rows) ≡ false
  pub console : has_port_in rows console_port ≡ false

-- the carriers of the site: 1 to 16, with no number, channel or port twice, and no port that is the console's
pub record AreCarriers (console_port : ℕ) (rows : List CarrierRow) : Type 0 where
  pub some : (limits_of Carrier).count.fewest ≤ length rows
  pub few : length rows ≤ (limits_of Carrier).count.most
  pub each : All IsCarrierRow rows
  pub apart : AreApart console_port rows
