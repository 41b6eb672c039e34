-- The answers of a port in memory, by its remaining steps.
use Rattle.std.specs.Prelude.{ℕ, ◌<◌, List, [], ◌∷◌, if◌then◌else◌, nat_lt, length, take, drop, min}
use Rattle.std.specs.List.{AllByRecursion}
use Rattle.dmr_wire.specs.declared.wire.Got.{Got}
use Rattle.dmr_wire.specs.declared.wire.Got.TheVariants as got
use Rattle.dmr_wire.specs.declared.wire.Put.{Put}
use Rattle.dmr_wire.specs.declared.wire.Put.TheVariants as put
use Rattle.dmr_wire.specs.declared.port.Connect.{Connect}
use Rattle.dmr_wire.specs.declared.port.Waited.{Waited}
use Rattle.dmr_wire.specs.declared.script.Reading.{Reading}
use Rattle.dmr_wire.specs.declared.script.Reading.TheVariants.{Feed, Says}
use Rattle.dmr_wire.specs.Recording.{Recording}

-- a port in memory: its remaining steps, by kind, the next of each kind first; and its record
pub record Memory : Type 0 where
  pub connects : List Connect
  pub reads : List Reading
  pub writes : List Put
  pub waits : List Waited
  pub recording : Recording

-- the answer to a read into a slice of this length
abbrev pub next_got : List Reading → ℕ → Got
next_got [] len = got.End
next_got (Feed octets ∷ rest) len = got.Octets (min (length octets) len)
next_got (Says answer ∷ rest) len = answer

-- the octets of that answer
abbrev pub next_octets : List Reading → ℕ → List ℕ
next_octets [] len = []
next_octets (Feed octets ∷ rest) len = take len octets
next_octets (Says answer ∷ rest) len = []

-- the items that remain for the next reads: of a feed, the octets that did not fit
abbrev pub reads_left : List Reading → ℕ → List Reading
reads_left [] len = []
reads_left (Feed octets ∷ rest) len =
    if nat_lt len (length octets) then Feed (drop len octets) ∷ rest else rest
reads_left (Says answer ∷ rest) len = rest

-- the answer to a write of this many octets
abbrev pub next_put : List Put → ℕ → Put
next_put [] len = put.Octets len
next_put (put.Octets n ∷ rest) len = put.Octets (min n len)
next_put (answer ∷ rest) len = answer

-- it has at least one octet, or is an answer without octets
abbrev pub IsReading : Reading → Type 0
IsReading (Feed octets) = 0 < length octets
IsReading (Says (got.Octets n)) = ⊥
IsReading (Says answer) = Unit {0}

-- each of them has at least one octet, or is an answer without octets
abbrev pub AreReadings : List Reading → Type 0
AreReadings readings = AllByRecursion IsReading readings
