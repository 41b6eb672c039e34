-- The values of the keys address, radios and groups.
use Rattle.std.specs.Prelude.{ℕ, List, [], ◌∷◌, Option, Some, None, Result, Ok, Err, ◌&&◌, ◌||◌}
use Rattle.std.specs.Prelude.{Bool, false, if◌then◌else◌, nat_lt, nat_le, ◌==◌}
use Rattle.std.specs.List.{list_any}
use Rattle.toml.specs.Data.{Data, array, Items, Members, get_member}
use Rattle.dmr_plan.specs.declared.key.Key.{Key}
use Rattle.dmr_plan.specs.declared.key.Key.TheVariants.{Address, Radios, Groups}
use Rattle.dmr_plan.specs.declared.key.Fallback.{Fallback}
use Rattle.dmr_plan.specs.declared.key.Fallback.TheVariants.{Loopback}
use Rattle.dmr_plan.specs.declared.fault.PlanFault.{PlanFault}
use Rattle.dmr_plan.specs.declared.fault.PlanFault.TheVariants.{Missing, WrongType, OutOfRange}
use Rattle.dmr_plan.specs.declared.fault.PlanFault.TheVariants.{Repeated}
use Rattle.dmr_plan.specs.declared.lists.RadioRange.{RadioRange}
use Rattle.dmr_plan.specs.Keys.{name_of, limits_of}
use Rattle.dmr_plan.specs.Steps.{◌>>=◌}
use Rattle.dmr_plan.specs.Numbers.{number}
use Rattle.dmr_plan.specs.Arrays.{two_of, array_of, array_in, is_count, in_turn}

-- the address that the items are: an error if there are not four
abbrev pub address_of_items : Items → Result (List ℕ) PlanFault
address_of_items ds =
    if is_count Address ds then in_turn (λ _ d. number Address d) [] ds else Err (WrongType Address)

-- the address that a fallback means: an error if the key is required
abbrev pub address_of_fallback : Fallback → Result (List ℕ) PlanFault
address_of_fallback Loopback = Ok (127 ∷ 0 ∷ 0 ∷ 1 ∷ [])
address_of_fallback _ = Err (Missing Address)

-- the address to listen at if the key is missing
abbrev pub address_if_missing : Result (List ℕ) PlanFault
address_if_missing = address_of_fallback (limits_of Address).fallback

-- the address that a value is, or the one of the missing key if there is no value
abbrev pub address_or : Option Data → Result (List ℕ) PlanFault
address_or None = address_if_missing
address_or (Some d) = array_of Address d >>= address_of_items

-- the address to listen at
unfoldable pub address_of : Members → Result (List ℕ) PlanFault
address_of ms = address_or (get_member (name_of Address) ms)

-- the range of an unused cell of a list
abbrev pub no_range : RadioRange
no_range = record { first = 0; last = 0 }

-- whether a radio is in a range
abbrev pub is_within : RadioRange → ℕ → Bool
is_within range radio = nat_le range.first radio && nat_le radio range.last

-- the range of two numbers: an error if the first is above the last, or there are not two
abbrev pub range_of_two : Option (Data × Data) → Result RadioRange PlanFault
range_of_two (Some p) = do
  first ← number Radios p.0
  last ← number Radios p.1
  if nat_lt last first then Err (OutOfRange Radios) else Ok (record { first = first; last = last })
range_of_two None = Err (WrongType Radios)

-- the range that a pair of numbers describes
abbrev pub range_of : Data → Result RadioRange PlanFault
range_of (array ds) = range_of_two (two_of ds)
range_of _ = Err (WrongType Radios)

-- the ranges that the items describe: an error if there are fewer or more than a site file may have
abbrev pub radios_of_items : Items → Result (List RadioRange) PlanFault
radios_of_items ds =
    if is_count Radios ds then in_turn (λ _ d. range_of d) [] ds else Err (OutOfRange Radios)

-- the ranges of the radios that may register
unfoldable pub radios_of : Members → Result (List RadioRange) PlanFault
radios_of ms = array_in ms Radios >>= radios_of_items

-- whether a number is there twice
abbrev pub has_repeat : List ℕ → Bool
has_repeat [] = false
has_repeat (x ∷ xs) = list_any (λ y. y == x) xs || has_repeat xs

-- the numbers: an error if one is there twice
abbrev pub distinct : Key → List ℕ → Result (List ℕ) PlanFault
distinct key xs = if has_repeat xs then Err (Repeated key) else Ok xs

-- the talkgroups that the items are: an error if there are more than a site may have, or one is there twice
abbrev pub groups_of_items : Items → Result (List ℕ) PlanFault
groups_of_items ds =
    if is_count Groups ds then (in_turn (λ _ d. number Groups d) [] ds >>= distinct Groups)
    else Err (OutOfRange Groups)

-- the talkgroups of the site file, none twice
unfoldable pub groups_of : Members → Result (List ℕ) PlanFault
groups_of ms = array_in ms Groups >>= groups_of_items
