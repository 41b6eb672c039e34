-- The values of a key with one number.
use Rattle.std.specs.Prelude.{ℕ, ℤ, pos, Option, Some, None, Result, Ok, Err, ◌&&◌, Bool}
use Rattle.std.specs.Prelude.{if◌then◌else◌, ◌==◌, nat_le}
use Rattle.toml.specs.Data.{Data, integer, Members, get_member}
use Rattle.dmr_plan.specs.declared.key.Key.{Key}
use Rattle.dmr_plan.specs.declared.key.Fallback.{Fallback}
use Rattle.dmr_plan.specs.declared.key.Fallback.TheVariants.{Nothing, Value}
use Rattle.dmr_plan.specs.declared.fault.PlanFault.{PlanFault}
use Rattle.dmr_plan.specs.declared.fault.PlanFault.TheVariants.{Missing, WrongType, OutOfRange}
use Rattle.dmr_plan.specs.declared.fault.PlanFault.TheVariants.{Repeated}
use Rattle.dmr_plan.specs.Keys.{name_of, limits_of}
use Rattle.dmr_plan.specs.Steps.{◌>>=◌}

-- a whole number from least to most, or else out of range
abbrev pub integer_within : Key → ℕ → ℕ → ℤ → Result ℕ PlanFault
integer_within key least most (pos n) =
    if nat_le least n && nat_le n most then Ok n else Err (OutOfRange key)
integer_within key least most _ = Err (OutOfRange key)

-- the number that a value is: an error if it is not a whole number from least to most
abbrev pub number_within : Key → ℕ → ℕ → Data → Result ℕ PlanFault
number_within key least most (integer z) = integer_within key least most z
number_within key least most _ = Err (WrongType key)

-- the number that a value is: an error if it is not a number within the key's range
abbrev pub number : Key → Data → Result ℕ PlanFault
number key d = number_within key (limits_of key).range.least (limits_of key).range.most d

-- the number of a missing key: an error if the key is required
abbrev pub number_if_missing : Key → Fallback → Result ℕ PlanFault
number_if_missing key (Value n) = Ok n
number_if_missing key _ = Err (Missing key)

-- the number that a value is, or the one of the missing key if there is no value
abbrev pub number_or : Key → Option Data → Result ℕ PlanFault
number_or key (Some d) = number key d
number_or key None = number_if_missing key (limits_of key).fallback

-- the number at a key, or the one that the key has if it is missing
unfoldable pub number_at_key : Members → Key → Result ℕ PlanFault
number_at_key ms key = number_or key (get_member (name_of key) ms)

-- the bit at a key: whether its number is 1
unfoldable pub bit_in : Members → Key → Result Bool PlanFault
bit_in ms key = number_at_key ms key >>= λ n. Ok (n == 1)

-- nothing, if that is the value of the missing key
abbrev pub optional_if_missing : Key → Fallback → Result (Option ℕ) PlanFault
optional_if_missing key Nothing = Ok None
optional_if_missing key _ = Err (Missing key)

-- the number that a value is, or nothing if there is no value and the key may be missing
abbrev pub optional_or : Key → Option Data → Result (Option ℕ) PlanFault
optional_or key (Some d) = number key d >>= λ n. Ok (Some n)
optional_or key None = optional_if_missing key (limits_of key).fallback

-- the number at a key, or nothing if the key is missing and may be
unfoldable pub optional_in : Members → Key → Result (Option ℕ) PlanFault
optional_in ms key = optional_or key (get_member (name_of key) ms)

-- the number that a value is: an error if it is below this one or above the key's greatest, or if there is no value
abbrev pub number_from : Key → ℕ → Option Data → Result ℕ PlanFault
number_from key least (Some d) = number_within key least (limits_of key).range.most d
number_from key least None = Err (Missing key)

-- the number at a key: an error if it is missing, below the number at another key, or above the key's greatest
unfoldable pub number_from_in : Members → Key → Key → Result ℕ PlanFault
number_from_in ms key other =
    number_at_key ms other >>= λ least. number_from key least (get_member (name_of key) ms)

-- the number at a key: an error if it equals the number at another key
unfoldable pub number_unlike_in : Members → Key → Key → Result ℕ PlanFault
number_unlike_in ms key other = do
  n ← number_at_key ms key
  m ← number_at_key ms other
  if n == m then Err (Repeated key) else Ok n
