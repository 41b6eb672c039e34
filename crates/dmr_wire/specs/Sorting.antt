-- Steps while they are being sorted: definitions for private functions. No public contract depends on them.
use Rattle.std.specs.Prelude.{◌≡◌, ℕ, ◌+◌, ◌≤◌, List, [], ◌++◌}
use Rattle.std.specs.List.{filter_map}
use Rattle.std.specs.VecDeque.{deque_len, deque_capacity}
use Rattle.dmr_wire.specs.declared.step.Step.{Step}
use Rattle.dmr_wire.specs.declared.script.Script.{Script}
use Rattle.dmr_wire.specs.Script.{connect_of, reading_of, write_of, wait_of}

-- there is room for this many more steps, of whatever kind
pub record HasRoom (script : Script) (count : ℕ) : Type 0 where
  pub connects : deque_len script.connects + count ≤ deque_capacity script.connects
  pub reads : deque_len script.reads + count ≤ deque_capacity script.reads
  pub writes : deque_len script.writes + count ≤ deque_capacity script.writes
  pub waits : deque_len script.waits + count ≤ deque_capacity script.waits

-- there is no step
pub record IsEmpty (script : Script) : Type 0 where
  pub connects : script.connects.items ≡ []
  pub reads : script.reads.items ≡ []
  pub writes : script.writes.items ≡ []
  pub waits : script.waits.items ≡ []

-- these steps were appended, each to those of its kind
pub record Follows (old new : Script) (steps : List Step) : Type 0 where
  pub connects : new.connects.items ≡ old.connects.items ++ filter_map connect_of steps
  pub reads : new.reads.items ≡ old.reads.items ++ filter_map reading_of steps
  pub writes : new.writes.items ≡ old.writes.items ++ filter_map write_of steps
  pub waits : new.waits.items ≡ old.waits.items ++ filter_map wait_of steps
