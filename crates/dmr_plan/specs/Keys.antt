-- The key table of the site file.
use Rattle.std.specs.Prelude.{ℕ, ◌≤◌, List, codes}
use Rattle.dmr_plan.specs.declared.key.Key.{Key}
use Rattle.dmr_plan.specs.declared.key.Key.TheVariants.{System, Regi, Tsi, LeaveBit, AlohaSync}
use Rattle.dmr_plan.specs.declared.key.Key.TheVariants.{AlohaVersion, AlohaOffset, AlohaActive}
use Rattle.dmr_plan.specs.declared.key.Key.TheVariants.{NrandWait, Hang, Maximum, AhoyWait}
use Rattle.dmr_plan.specs.declared.key.Key.TheVariants.{AhoyTries, GrantCopies, ClearCopies}
use Rattle.dmr_plan.specs.declared.key.Key.TheVariants.{BackoffLow, BackoffHigh, TickMs, Silence}
use Rattle.dmr_plan.specs.declared.key.Key.TheVariants.{TermEntries, LinkVersion, Address}
use Rattle.dmr_plan.specs.declared.key.Key.TheVariants.{ConsolePort, Radios, Groups, Carrier}
use Rattle.dmr_plan.specs.declared.key.Key.TheVariants.{Control, Number, Lpcn, Port}
use Rattle.dmr_plan.specs.declared.key.Content.{Content}
use Rattle.dmr_plan.specs.declared.key.Content.TheVariants.{OneNumber, Numbers, Pairs, Tables}
use Rattle.dmr_plan.specs.declared.key.Fallback.{Fallback}
use Rattle.dmr_plan.specs.declared.key.Fallback.TheVariants.{Fault, Nothing, Value, Loopback}
use Rattle.dmr_plan.specs.declared.key.Bounds.{Bounds}
use Rattle.dmr_plan.specs.declared.key.Count.{Count}
use Rattle.dmr_plan.specs.declared.key.Limits.{Limits}

-- the limits of one number: the least, the greatest, and the value if the key is missing
abbrev pub number_limits : ℕ → ℕ → Fallback → Limits
number_limits least most fallback = record {
  content = OneNumber;
  count = record { fewest = 1; most = 1 };
  range = record { least = least; most = most };
  fallback = fallback;
}

-- the limits of an array: the type of its items, their number, the range of the numbers in them, and the value if the
-- key is missing
abbrev pub array_limits : Content → Count → Bounds → Fallback → Limits
array_limits content count range fallback =
    record { content = content; count = count; range = range; fallback = fallback }

-- the row of a key with one number: its name, the least and the greatest number, and the value if the key is missing
abbrev pub number_row : List ℕ → ℕ → ℕ → Fallback → List ℕ × Limits
number_row name least most fallback = (name, number_limits least most fallback)

-- the row of a key with an array. The parameters are its name, the type of the items, the fewest and the most items,
-- the least and the greatest number in them, and the value if missing.
abbrev pub array_row : List ℕ → Content → ℕ → ℕ → ℕ → ℕ → Fallback → List ℕ × Limits
array_row name content fewest many least most fallback = (
  name,
  array_limits content (record { fewest = fewest; most = many })
      (record { least = least; most = most }) fallback,
)

-- the key table: the name of each key, and its limits
abbrev pub key_row : Key → List ℕ × Limits
key_row System = number_row (codes "system") 0 65535 Fault
key_row Regi = number_row (codes "regi") 16776416 16777215 Fault
key_row Tsi = number_row (codes "tsi") 16776416 16777215 Fault
key_row LeaveBit = number_row (codes "leave_bit") 0 6 Nothing
key_row AlohaSync = number_row (codes "aloha_sync") 0 1 (Value 0)
key_row AlohaVersion = number_row (codes "aloha_version") 0 7 (Value 0)
key_row AlohaOffset = number_row (codes "aloha_offset") 0 1 (Value 0)
key_row AlohaActive = number_row (codes "aloha_active") 0 1 (Value 0)
key_row NrandWait = number_row (codes "nrand_wait") 0 15 (Value 0)
key_row Hang = number_row (codes "hang") 1 65535 Fault
key_row Maximum = number_row (codes "maximum") 1 65535 Fault
key_row AhoyWait = number_row (codes "ahoy_wait") 1 65535 Fault
key_row AhoyTries = number_row (codes "ahoy_tries") 1 8 Fault
key_row GrantCopies = number_row (codes "grant_copies") 1 4 Fault
key_row ClearCopies = number_row (codes "clear_copies") 1 4 Fault
key_row BackoffLow = number_row (codes "backoff_low") 1 15 Fault
key_row BackoffHigh = number_row (codes "backoff_high") 1 15 Fault
key_row TickMs = number_row (codes "tick_ms") 10 1000 Fault
key_row Silence = number_row (codes "silence") 1 65535 Fault
key_row TermEntries = number_row (codes "term_entries") 1 100000 (Value 10000)
key_row LinkVersion = number_row (codes "link_version") 1 2 (Value 1)
key_row Address = array_row (codes "address") Numbers 4 4 0 255 Loopback
key_row ConsolePort = number_row (codes "console_port") 1 65535 Fault
key_row Radios = array_row (codes "radios") Pairs 1 16 1 16776415 Fault
key_row Groups = array_row (codes "groups") Numbers 0 64 1 16776415 Fault
key_row Carrier = array_row (codes "carrier") Tables 1 16 0 0 Fault
key_row Control = number_row (codes "control") 0 15 Fault
key_row Number = number_row (codes "number") 0 15 Fault
key_row Lpcn = number_row (codes "lpcn") 1 4094 Fault
key_row Port = number_row (codes "port") 1 65535 Fault

-- the name of a key in the site file
abbrev pub name_of : Key → List ℕ
name_of key = (key_row key).0

-- what the file may say at a key
abbrev pub limits_of : Key → Limits
limits_of key = (key_row key).1

-- a number that replaces a missing key is within the bounds
abbrev pub FallbackIsWithin : Bounds → Fallback → Type 0
FallbackIsWithin range (Value n) = (range.least ≤ n) × (n ≤ range.most)
FallbackIsWithin range _ = Unit {0}

-- a number within the key's range
abbrev pub IsNumberOf : Key → ℕ → Type 0
IsNumberOf key n = ((limits_of key).range.least ≤ n) × (n ≤ (limits_of key).range.most)
