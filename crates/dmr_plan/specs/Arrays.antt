-- The array at a key: the types of its items, their number, and reading them in order.
use Rattle.std.specs.Prelude.{ℕ, suc, List, ◌∷◌, [], ◌++◌, Option, Some, None, Result, Ok, Err}
use Rattle.std.specs.Prelude.{◌&&◌, Bool, true, false, is_some, if◌then◌else◌, nat_le}
use Rattle.toml.specs.Data.{Data, array, Items, no_items, item, Members, get_member, as_integer}
use Rattle.toml.specs.Data.{as_table}
use Rattle.dmr_plan.specs.declared.key.Key.{Key}
use Rattle.dmr_plan.specs.declared.key.Content.{Content}
use Rattle.dmr_plan.specs.declared.key.Content.TheVariants.{OneNumber, Numbers, Pairs, Tables}
use Rattle.dmr_plan.specs.declared.fault.PlanFault.{PlanFault}
use Rattle.dmr_plan.specs.declared.fault.PlanFault.TheVariants.{Missing, WrongType}
use Rattle.dmr_plan.specs.Keys.{name_of, limits_of}
use Rattle.dmr_plan.specs.Steps.{◌>>=◌}

-- the number of items
abbrev pub count_of : Items → ℕ
count_of no_items = 0
count_of (item d ds) = suc (count_of ds)

-- whether a value is a whole number
abbrev pub is_whole_number : Data → Bool
is_whole_number d = is_some (as_integer d)

-- the two items, or none if there are more or fewer
abbrev pub two_of : Items → Option (Data × Data)
two_of (item a (item b no_items)) = Some (a, b)
two_of _ = None

-- whether there are two values and both are whole numbers
abbrev pub are_numbers : Option (Data × Data) → Bool
are_numbers (Some p) = is_whole_number p.0 && is_whole_number p.1
are_numbers None = false

-- whether a value is an array of two whole numbers
abbrev pub is_pair : Data → Bool
is_pair (array ds) = are_numbers (two_of ds)
is_pair _ = false

-- whether a value may be an item of an array with this content
abbrev pub is_item : Content → Data → Bool
is_item OneNumber d = is_whole_number d
is_item Numbers d = is_whole_number d
is_item Pairs d = is_pair d
is_item Tables d = is_some (as_table d)

-- whether each item passes the test
abbrev pub all_items : (Data → Bool) → Items → Bool
all_items p no_items = true
all_items p (item d ds) = p d && all_items p ds

-- the array that a value is: an error if the value is not an array, or an item is not of the key's content
abbrev pub array_of : Key → Data → Result Items PlanFault
array_of key (array ds) =
    if all_items (is_item (limits_of key).content) ds then Ok ds else Err (WrongType key)
array_of key _ = Err (WrongType key)

-- the array that a value is, which must be there
abbrev pub array_or_missing : Key → Option Data → Result Items PlanFault
array_or_missing key None = Err (Missing key)
array_or_missing key (Some d) = array_of key d

-- the array at a required key
unfoldable pub array_in : Members → Key → Result Items PlanFault
array_in ms key = array_or_missing key (get_member (name_of key) ms)

-- whether the number of items is within the key's count
abbrev pub is_count : Key → Items → Bool
is_count key ds =
    nat_le (limits_of key).count.fewest (count_of ds)
    && nat_le (count_of ds) (limits_of key).count.most

-- the items read in order, each together with the results of those before it
abbrev pub in_turn : {A : Type 0} → (List A → Data → Result A PlanFault) → List A → Items
    → Result (List A) PlanFault
in_turn f earlier no_items = Ok earlier
in_turn f earlier (item d ds) = f earlier d >>= λ x. in_turn f (earlier ++ x ∷ []) ds
