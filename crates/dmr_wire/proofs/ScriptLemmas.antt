-- The steps of a port in memory: sorted one by one, and used up by reads.
use Rattle.std.proofs.Common.{◌≡◌, ℕ, List, [], ◌∷◌, ◌++◌, Option, Some, None, IfSome, option_to_list, rules, arith, length-drop}
use Rattle.std.specs.List.{filter_map}
use Rattle.std.proofs.lemmas.List.Elements.{filter_map-append}
use Rattle.dmr_wire.specs.declared.wire.Got.TheVariants as got
use Rattle.dmr_wire.specs.declared.step.Step.{Step}
use Rattle.dmr_wire.specs.declared.step.Step.TheVariants as step
use Rattle.dmr_wire.specs.declared.script.Reading.{Reading}
use Rattle.dmr_wire.specs.declared.script.Reading.TheVariants.{Feed, Says}
use Rattle.dmr_wire.specs.declared.script.Script.{Script}
use Rattle.dmr_wire.specs.Memory.{IsReading, AreReadings, reads_left}
use Rattle.dmr_wire.specs.Script.{feed_of, connect_of, reading_of, write_of, wait_of}

-- the sorted steps and the remaining steps together give the same items as all steps
pub record IsSorting (old now : Script) (steps left : List Step) : Type 0 where
  pub connects : now.connects.items ++ filter_map connect_of left ≡ old.connects.items ++ filter_map connect_of steps
  pub reads : now.reads.items ++ filter_map reading_of left ≡ old.reads.items ++ filter_map reading_of steps
  pub writes : now.writes.items ++ filter_map write_of left ≡ old.writes.items ++ filter_map write_of steps
  pub waits : now.waits.items ++ filter_map wait_of left ≡ old.waits.items ++ filter_map wait_of steps

-- the item of a step for reads has at least one octet, or is an answer without octets
feed_is_reading : (octets : List ℕ) → IfSome (feed_of octets) IsReading
feed_is_reading [] = tt
feed_is_reading (x ∷ octets) = omega arith

step_is_reading : (s : Step) → IfSome (reading_of s) IsReading
step_is_reading (step.Connect a) = tt
step_is_reading (step.Feed octets) = feed_is_reading octets.items
step_is_reading (step.Read (got.Octets n)) = tt
step_is_reading (step.Read got.End) = tt
step_is_reading (step.Read got.Interrupted) = tt
step_is_reading (step.Read got.Block) = tt
step_is_reading (step.Read got.Fault) = tt
step_is_reading (step.Write a) = tt
step_is_reading (step.Wait a) = tt

reading_first : (o : Option Reading) (rs : List Reading) → IfSome o IsReading → AreReadings rs → AreReadings (option_to_list o ++ rs)
reading_first None rs h k = k
reading_first (Some r) rs h k = (h, k)

readings_of_step : (s : Step) (ss : List Step) → filter_map reading_of (s ∷ ss) ≡ option_to_list (reading_of s) ++ filter_map reading_of ss
readings_of_step s ss = search (rules, filter_map-append)

-- so have the items of all steps
pub sorted_are_readings : (ss : List Step) → AreReadings (filter_map reading_of ss)
sorted_are_readings [] = tt
sorted_are_readings (s ∷ ss) = rw (readings_of_step s ss) (reading_first (reading_of s) _ (step_is_reading s) (sorted_are_readings ss))

-- the items that remain after a read are for reads as well
pub left_are_readings : (rs : List Reading) (len : ℕ) → AreReadings rs → AreReadings (reads_left rs len)
left_are_readings [] len k = tt
left_are_readings (Says g ∷ rs) len k = k.1
left_are_readings (Feed octets ∷ rs) len k = grind (arith, k, length-drop len octets)
