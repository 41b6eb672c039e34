-- What a recorder has between two terms.
use Rattle.std.specs.Prelude.{Option}
use Rattle.dmr_keeper.specs.declared.time.TimedRecords.{TimedRecords}
use Rattle.dmr_keeper.specs.Carried.{Carry}

pub record Recording : Type 0 where
  pub carried : Carry  -- what is handed on to the term that follows
  pub newest : Option TimedRecords  -- the records of the last term, until they are taken
