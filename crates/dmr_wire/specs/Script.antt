-- The steps of a port in memory, sorted by kind of call.
use Rattle.std.specs.Prelude.{ℕ, List, [], ◌∷◌, Option, Some, None}
use Rattle.std.specs.List.{filter_map}
use Rattle.dmr_wire.specs.declared.wire.Got.TheVariants as got
use Rattle.dmr_wire.specs.declared.wire.Put.{Put}
use Rattle.dmr_wire.specs.declared.port.Connect.{Connect}
use Rattle.dmr_wire.specs.declared.port.Waited.{Waited}
use Rattle.dmr_wire.specs.declared.step.Step.{Step}
use Rattle.dmr_wire.specs.declared.step.Step.TheVariants as step
use Rattle.dmr_wire.specs.declared.script.Reading.{Reading}
use Rattle.dmr_wire.specs.declared.script.Reading.TheVariants.{Feed, Says}
use Rattle.dmr_wire.specs.Recording.{empty_recording}
use Rattle.dmr_wire.specs.Memory.{Memory}

-- the answer of a step for connects, if it is for one
abbrev pub connect_of : Step → Option Connect
connect_of (step.Connect answer) = Some answer
connect_of other = None

-- octets for reads, if there are any
abbrev pub feed_of : List ℕ → Option Reading
feed_of [] = None
feed_of (octet ∷ octets) = Some (Feed (octet ∷ octets))

-- the item of a step for reads, if it is for one: octets, or an answer without octets
abbrev pub reading_of : Step → Option Reading
reading_of (step.Feed octets) = feed_of octets.items
reading_of (step.Read (got.Octets n)) = None
reading_of (step.Read answer) = Some (Says answer)
reading_of other = None

-- the answer of a step for writes, if it is for one
abbrev pub write_of : Step → Option Put
write_of (step.Write answer) = Some answer
write_of other = None

-- the answer of a step for waits, if it is for one
abbrev pub wait_of : Step → Option Waited
wait_of (step.Wait answer) = Some answer
wait_of other = None

-- a port that was given these steps, with room for a record of `room` answers and `room` octets
abbrev pub memory_of : List Step → ℕ → Memory
memory_of steps room = record {
  connects = filter_map connect_of steps;
  reads = filter_map reading_of steps;
  writes = filter_map write_of steps;
  waits = filter_map wait_of steps;
  recording = empty_recording room;
}
