use Rattle.dmr_keeper.proofs.CauseLemmas.{ends_by}
use Rattle.dmr_keeper.proofs.laws.few_events_end_calls.Goals as goal

pub returns : goal.returns
returns c = ends_by
