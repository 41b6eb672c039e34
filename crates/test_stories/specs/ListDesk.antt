-- The value of a desk that keeps a list of its events.
use Rattle.std.specs.Prelude.{ℕ, List}
use Rattle.dmr_link.specs.declared.desk.Deposit.{Deposit}

-- Its actor; the events that it took in this term with their answers, oldest first; and the number of events that a
-- term takes.
pub record ListDesk : Type 0 where
  pub actor : ℕ
  pub calls : List Deposit
  pub limit : ℕ
